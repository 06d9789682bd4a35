-- The distance between the received page and the code word of the result: it is the number of nonzero symbols of S and D, which a change keeps tied to the page.
use Rattle.std.specs.Prelude.{◌≡◌, refl, List, [], ◌∷◌, ◌++◌, ℕ, zero, suc, ◌+◌, ◌*◌, ◌%◌, ◌<◌, length, get_or, set}
use Rattle.std.proofs.Common.{ap, sym, ◌∙◌, subst, not-suc-le-zero, le_of_suc-le-suc, suc-ne-zero, mod-lt, mod-eq_of_lt, arith, length-set, get_or-set_same, get_or-set_other}
use Rattle.std.proofs.Math.Nat.{suc_inj}
use Rattle.std.proofs.Math.Decide.{ℕ_discrete}
use Rattle.model.specs.Decoder.{State, change, state_weight}
use Rattle.model.specs.Symbols.{sub, differ, count, weight, distance, Below, sum_of_first, tabulate, subtract_at}
use Rattle.theory.specs.Counting.{same_no, differ_iff, All, Distinct, count_mem, sum_off, distinct_count}
use Rattle.theory.specs.Modulo.{sub_lt, sub_self, sub_zero_eq, sub_shift}
use Rattle.theory.specs.Steps.{check_sum, Sized}

-- ---- pages

pub length_tabulate : (n : ℕ) (f : ℕ → ℕ) → length (tabulate n f) ≡ n
unfolding tabulate
length_tabulate zero f = refl
length_tabulate (suc n) f = ap suc (length_tabulate n (λ i. f (suc i)))

pub get_d_tabulate : (n : ℕ) (f : ℕ → ℕ) (i : ℕ) → i < n → get_or (tabulate n f) i 0 ≡ f i
unfolding tabulate
get_d_tabulate zero f i h = absurd (not-suc-le-zero h)
get_d_tabulate (suc n) f zero h = refl
get_d_tabulate (suc n) f (suc i) h = get_d_tabulate n (λ l. f (suc l)) i (le_of_suc-le-suc h)

pub tabulate_ext : (n : ℕ) (f g : ℕ → ℕ) → ((i : ℕ) → i < n → f i ≡ g i) → tabulate n f ≡ tabulate n g
unfolding tabulate
tabulate_ext zero f g h = refl
tabulate_ext (suc n) f g h = λ o. h 0 (omega arith) o ∷ tabulate_ext n (λ i. f (suc i)) (λ i. g (suc i)) (λ i l. h (suc i) (omega arith)) o

-- the check symbols, and the page that holds the data and its checks
unfoldable pub check_symbols_of : ℕ → ℕ → ℕ → (ℕ → List ℕ) → List ℕ → List ℕ
check_symbols_of q m k checks u = tabulate k (λ i. check_sum m checks u i % q)

unfoldable pub word_of : ℕ → ℕ → ℕ → (ℕ → List ℕ) → List ℕ → List ℕ
word_of q m k checks u = u ++ check_symbols_of q m k checks u

pub distance_append : (xs xs' ys ys' : List ℕ) → length xs ≡ length xs' → distance (xs ++ ys) (xs' ++ ys') ≡ distance xs xs' + distance ys ys'
unfolding distance
distance_append [] [] ys ys' e = omega arith
distance_append [] (x ∷ xs) ys ys' e = absurd (suc-ne-zero (length xs) (sym e))
distance_append (x ∷ xs) [] ys ys' e = absurd (suc-ne-zero (length xs) e)
distance_append (x ∷ xs) (x' ∷ xs') ys ys' e = omega (arith, distance_append xs xs' ys ys' (suc_inj e))

-- two lists differ where their difference is not 0
pub distance_weight : (q : ℕ) → zero < q → (xs ys ds : List ℕ) → length xs ≡ length ds → length ys ≡ length ds → Below q xs → Below q ys
    → ((i : ℕ) → i < length ds → get_or ds i 0 ≡ sub q (get_or xs i 0) (get_or ys i 0)) → distance xs ys ≡ weight ds
unfolding distance weight
distance_weight q pos [] [] [] ex ey bx by h = refl
distance_weight q pos [] (y ∷ ys) [] ex ey bx by h = absurd (suc-ne-zero (length ys) ey)
distance_weight q pos (x ∷ xs) ys [] ex ey bx by h = absurd (suc-ne-zero (length xs) ex)
distance_weight q pos [] ys (d ∷ ds) ex ey bx by h = absurd (suc-ne-zero (length ds) (sym ex))
distance_weight q pos (x ∷ xs) [] (d ∷ ds) ex ey bx by h = absurd (suc-ne-zero (length ds) (sym ey))
distance_weight q pos (x ∷ xs) (y ∷ ys) (d ∷ ds) ex ey bx by h =
    let e : d ≡ sub q x y = h 0 (omega arith) in
    let one : differ x y ≡ differ d 0 =
    differ_iff x y d 0 (λ p. e ∙ subst (λ (z : ℕ). sub q x z ≡ 0) p (sub_self q pos x (bx 0)))
    (λ p. sub_zero_eq q pos x y (bx 0) (by 0) (sym e ∙ p)) in
    omega (arith, distance_weight q pos xs ys ds (suc_inj ex) (suc_inj ey) (λ i. bx (suc i)) (λ i. by (suc i)) (λ i l. h (suc i) (omega arith)))

-- ---- the tie between a state and the received page x ++ y

pub record Tied (q m k : ℕ) (checks : ℕ → List ℕ) (x y : List ℕ) (st : State) : Type 0 where
  pub difference_is : (j : ℕ) → j < m → get_or st.difference j 0 ≡ sub q (get_or st.result j 0) (get_or x j 0)
  pub syndrome_is : (i : ℕ) → i < k → get_or st.syndrome i 0 ≡ sub q (check_sum m checks st.result i % q) (get_or y i 0)

-- a received page of m data symbols and k checks
pub record Received (q m k : ℕ) (x y : List ℕ) : Type 0 where
  pub len_x : length x ≡ m
  pub len_y : length y ≡ k
  pub in_x : Below q x
  pub in_y : Below q y

pub below_tabulate : (q : ℕ) → zero < q → (n : ℕ) (f : ℕ → ℕ) → ((i : ℕ) → f i < q) → Below q (tabulate n f)
unfolding tabulate
below_tabulate q pos zero f h i = pos
below_tabulate q pos (suc n) f h zero = h 0
below_tabulate q pos (suc n) f h (suc i) = below_tabulate q pos n (λ l. f (suc l)) (λ l. h (suc l)) i

-- the places where the code word of the result differs from the received page number the weight
pub page_distance : (q m k : ℕ) → zero < q → (checks : ℕ → List ℕ) (x y : List ℕ) → Received q m k x y → (st : State) → Sized q m k st → Tied q m k checks x y st
    → distance (word_of q m k checks st.result) (x ++ y) ≡ state_weight st
unfolding word_of state_weight check_symbols_of
page_distance q m k pos checks x y r st z t =
    let c : List ℕ = tabulate k (λ i. check_sum m checks st.result i % q) in
    distance_append st.result x c y (z.len_result ∙ sym r.len_x)
    ∙ ap (λ (n : ℕ). n + distance c y)
    (distance_weight q pos st.result x st.difference (z.len_result ∙ sym z.len_difference) (r.len_x ∙ sym z.len_difference) z.in_result r.in_x
    (λ j l. t.difference_is j (subst (λ (n : ℕ). j < n) z.len_difference l)))
    ∙ ap (λ (n : ℕ). weight st.difference + n)
    (distance_weight q pos c y st.syndrome (length_tabulate k _ ∙ sym z.len_syndrome) (r.len_y ∙ sym z.len_syndrome)
    (below_tabulate q pos k _ (λ i. mod-lt (check_sum m checks st.result i) pos)) r.in_y
    (λ i l. let l' : i < k = subst (λ (n : ℕ). i < n) z.len_syndrome l in
    t.syndrome_is i l' ∙ ap (λ (n : ℕ). sub q n (get_or y i 0)) (sym (get_d_tabulate k (λ o. check_sum m checks st.result o % q) i l'))))

-- ---- a subtraction keeps the tie

get_d_subtract_at_other : (q h : ℕ) (is s : List ℕ) (i : ℕ) → count i is ≡ 0 → get_or (subtract_at q h is s) i 0 ≡ get_or s i 0
unfolding subtract_at
get_d_subtract_at_other q h [] s i e = refl
get_d_subtract_at_other q h (c ∷ cs) s i e =
    get_d_subtract_at_other q h cs (set s c (sub q (get_or s c 0) h)) i (count_mem i c cs e).1
    ∙ get_or-set_other s c i (sub q (get_or s c 0) h) 0 (count_mem i c cs e).0

get_d_subtract_at_same : (q h : ℕ) (is s : List ℕ) (i : ℕ) → Distinct is → All (λ o. o < length s) is → count i is ≡ 1 → get_or (subtract_at q h is s) i 0 ≡ sub q (get_or s i 0) h
unfolding subtract_at count
get_d_subtract_at_same q h [] s i d a e = absurd (omega arith)
get_d_subtract_at_same q h (c ∷ cs) s i d a e = elim (ℕ_discrete i c) as (λ o. get_or (subtract_at q h (c ∷ cs) s) i 0 ≡ sub q (get_or s i 0) h) [
  | yes p ↦ rw p (get_d_subtract_at_other q h cs (set s c (sub q (get_or s c 0) h)) c d.0 ∙ get_or-set_same s c (sub q (get_or s c 0) h) 0 a.0)
  | no n ↦ get_d_subtract_at_same q h cs (set s c (sub q (get_or s c 0) h)) i d.1 (rw length-set a.1) (omega (arith, same_no i c n))
      ∙ ap (λ (w : ℕ). sub q w h) (get_or-set_other s c i (sub q (get_or s c 0) h) 0 n)
]

-- replacing symbol j by v, in the sums
pub check_sum_set : (m : ℕ) (checks : ℕ → List ℕ) (u : List ℕ) (j v i : ℕ) → j < m → length u ≡ m
    → check_sum m checks (set u j v) i + count i (checks j) * get_or u j 0 ≡ check_sum m checks u i + count i (checks j) * v
unfolding check_sum
check_sum_set m checks u j v i hj e =
    sum_off m (λ l. count i (checks l) * get_or (set u j v) l 0) (λ l. count i (checks l) * get_or u l 0) j hj
    (λ l b n. ap (λ (w : ℕ). count i (checks l) * w) (get_or-set_other u j l v 0 n))
    ∙ ap (λ (w : ℕ). sum_of_first m (λ l. count i (checks l) * get_or u l 0) + count i (checks j) * w) (get_or-set_same u j v 0 (rw e hj))

pub change_tied : (q m k : ℕ) (pos : zero < q) (checks : ℕ → List ℕ) (x y : List ℕ) → Received q m k x y → (j h : ℕ) (st : State) → Sized q m k st
    → j < m → h < q → Distinct (checks j) → All (λ i. i < k) (checks j) → Tied q m k checks x y st → Tied q m k checks x y (change q (checks j) j h st)
unfolding change
change_tied q m k pos checks x y r j h st z hj hh d a t = record { difference_is = dif; syndrome_is = syn }
  where
    rj : ℕ
    rj = get_or st.result j 0

    v : ℕ
    v = sub q rj h

    dif : (l : ℕ) → l < m → get_or (set st.difference j (sub q (get_or st.difference j 0) h)) l 0 ≡ sub q (get_or (set st.result j v) l 0) (get_or x l 0)
    dif l hl = elim (ℕ_discrete l j) as (λ o. get_or (set st.difference j (sub q (get_or st.difference j 0) h)) l 0 ≡ sub q (get_or (set st.result j v) l 0) (get_or x l 0)) [
      | yes p ↦ rw p
          (get_or-set_same st.difference j (sub q (get_or st.difference j 0) h) 0 (rw z.len_difference hj)
          ∙ ap (λ (w : ℕ). sub q w h) (t.difference_is j hj ∙ ap (λ (w : ℕ). sub q w (get_or x j 0)) (sym (mod-eq_of_lt (z.in_result j))))
          ∙ sym (sub_shift q pos rj v (get_or x j 0) h rj v (omega (arith, r.in_x j)) (omega arith) (omega (arith, z.in_result j)) refl (omega arith))
          ∙ ap (λ (w : ℕ). sub q w (get_or x j 0)) (mod-eq_of_lt (sub_lt q pos rj h) ∙ sym (get_or-set_same st.result j v 0 (rw z.len_result hj))))
      | no n ↦ get_or-set_other st.difference j l (sub q (get_or st.difference j 0) h) 0 n ∙ t.difference_is l hl
          ∙ ap (λ (w : ℕ). sub q w (get_or x l 0)) (sym (get_or-set_other st.result j l v 0 n))
    ]

    syn : (i : ℕ) → i < k → get_or (subtract_at q h (checks j) st.syndrome) i 0 ≡ sub q (check_sum m checks (set st.result j v) i % q) (get_or y i 0)
    syn i hi = elim (ℕ_discrete (count i (checks j)) 0) as (λ o. get_or (subtract_at q h (checks j) st.syndrome) i 0 ≡ sub q (check_sum m checks (set st.result j v) i % q) (get_or y i 0)) [
      | yes p ↦ get_d_subtract_at_other q h (checks j) st.syndrome i p ∙ t.syndrome_is i hi
          ∙ ap (λ (w : ℕ). sub q (w % q) (get_or y i 0))
          (let e : check_sum m checks (set st.result j v) i + 0 * rj ≡ check_sum m checks st.result i + 0 * v =
          subst (λ (c : ℕ). check_sum m checks (set st.result j v) i + c * rj ≡ check_sum m checks st.result i + c * v) p
          (check_sum_set m checks st.result j v i hj z.len_result) in omega arith)
      | no n ↦
          let p : count i (checks j) ≡ 1 = omega (arith, distinct_count (checks j) d i) in
          get_d_subtract_at_same q h (checks j) st.syndrome i d (rw z.len_syndrome a) p
          ∙ ap (λ (w : ℕ). sub q w h) (t.syndrome_is i hi)
          ∙ sym (sub_shift q pos (check_sum m checks st.result i) (check_sum m checks (set st.result j v) i) (get_or y i 0) h rj v
          (omega (arith, r.in_y i)) (omega arith) (omega (arith, z.in_result j)) refl
          (let e : check_sum m checks (set st.result j v) i + 1 * rj ≡ check_sum m checks st.result i + 1 * v =
          subst (λ (c : ℕ). check_sum m checks (set st.result j v) i + c * rj ≡ check_sum m checks st.result i + c * v) p
          (check_sum_set m checks st.result j v i hj z.len_result) in omega arith))
    ]
