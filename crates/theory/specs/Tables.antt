-- The test of a table: its differences, and that it means what the code needs.
use Rattle.std.specs.Prelude.{◌≡◌, refl, ◌≢◌, ◌↔◌, Bool, true, false, ◌&&◌, ◌||◌, List, [], ◌∷◌, ◌++◌, ℕ, zero, suc, ◌+◌, ◌≤◌, ◌<◌, T, eqb, ltb, leb, length, get_or}
use Rattle.std.proofs.Common.{sym, ◌∙◌, subst, not-suc-le-zero, le_of_suc-le-suc, arith, eqb→eq, ltb→lt, lt→ltb, leb→le, le→leb}
use Rattle.std.proofs.Math.Decide.{ℕ_discrete}
use Rattle.model.specs.Calls.{positions_fit}
use Rattle.model.specs.Code.{Code, data_count, shared, SelfOrthogonal, every_below, self_orthogonal, differences_from, differences_by, all_different}
use Rattle.model.specs.Limits.{Ascending}
use Rattle.model.specs.Symbols.{sub, same, count, sum_over, sum_of_first, join_below}
use Rattle.theory.specs.Circulant.{pair_count}
use Rattle.theory.specs.Counting.{is_true, eqb_yes, eqb_no, same_yes, same_no, count_nil, count_cons, All, Distinct}
use Rattle.theory.specs.Modulo.{sub_lt, sub_self, sub_zero_eq}

-- ---- what the tests mean

pub and_split : (a b : Bool) → T (a && b) → T a × T b
and_split true b t = (tt, t)
and_split false b t = absurd t

pub and_join : (a b : Bool) → T a → T b → T (a && b)
and_join true b s t = t
and_join false b s t = absurd s

pub distinct_test : (xs : List ℕ) → T (all_different xs) ↔ Distinct xs
unfolding all_different
distinct_test [] = (λ t. tt, λ t. tt)
distinct_test (x ∷ xs) = (
  λ t. (eqb→eq (count x xs) 0 (and_split (eqb (count x xs) 0) (all_different xs) t).0, (distinct_test xs).0 (and_split (eqb (count x xs) 0) (all_different xs) t).1),
  λ d. and_join (eqb (count x xs) 0) (all_different xs) (subst T (sym (eqb_yes (count x xs) 0 d.0)) tt) ((distinct_test xs).1 d.1),
)

pub count_append : (v : ℕ) (xs ys : List ℕ) → count v (xs ++ ys) ≡ count v xs + count v ys
unfolding count
count_append v [] ys = omega arith
count_append v (x ∷ xs) ys = omega (arith, count_append v xs ys)

pub count_join : (v n : ℕ) (f : ℕ → List ℕ) → count v (join_below n f) ≡ sum_of_first n (λ r. count v (f r))
unfolding join_below sum_of_first
count_join v zero f = count_nil v
count_join v (suc n) f = omega (arith, count_append v (join_below n f) (f n), count_join v n f)

pub count_distinct : (xs : List ℕ) → ((v : ℕ) → count v xs ≤ 1) → Distinct xs
unfolding count
count_distinct [] f = tt
count_distinct (x ∷ xs) f = (omega (arith, f x, same_yes x x refl), count_distinct xs (λ v. omega (arith, f v)))

-- a difference other than 0 is listed once for each pair that has it
differences_from_count : (k : ℕ) → zero < k → (a : ℕ) → a < k → (rs : List ℕ) (d : ℕ) → d ≢ 0 → count d (differences_from k a rs) ≡ sum_over rs (λ b. same d (sub k a b))
unfolding differences_from sum_over
differences_from_count k pos a ha [] d n = count_nil _
differences_from_count k pos a ha (b ∷ rs) d n = elim (ℕ_discrete a b) as (λ o. count d (differences_from k a (b ∷ rs)) ≡ sum_over (b ∷ rs) (λ z. same d (sub k a z))) [
  | yes e ↦ rw (eqb_yes a b e) (omega (arith, differences_from_count k pos a ha rs d n, same_no d (sub k a b) (λ z. n (z ∙ subst (λ (w : ℕ). sub k a w ≡ 0) e (sub_self k pos a ha)))))
  | no m ↦ rw (eqb_no a b m) (omega (arith, count_cons d (sub k a b) (differences_from k a rs), differences_from_count k pos a ha rs d n))
]

pub differences_count : (k : ℕ) → zero < k → (ps rs : List ℕ) → All (λ p. p < k) ps → (d : ℕ) → d ≢ 0 → count d (differences_by k ps rs) ≡ pair_count k ps rs d
unfolding differences_by pair_count sum_over
differences_count k pos [] rs h d n = count_nil _
differences_count k pos (a ∷ ps) rs h d n =
    omega (arith, count_append d (differences_from k a rs) (differences_by k ps rs), differences_from_count k pos a h.0 rs d n, differences_count k pos ps rs h.1 d n)

-- 0 is no difference of different positions
differences_from_zero : (k : ℕ) → zero < k → (a : ℕ) → a < k → (rs : List ℕ) → All (λ p. p < k) rs → count 0 (differences_from k a rs) ≡ 0
unfolding differences_from
differences_from_zero k pos a ha [] h = count_nil _
differences_from_zero k pos a ha (b ∷ rs) h = elim (ℕ_discrete a b) as (λ o. count 0 (differences_from k a (b ∷ rs)) ≡ 0) [
  | yes e ↦ rw (eqb_yes a b e) (differences_from_zero k pos a ha rs h.1)
  | no m ↦ rw (eqb_no a b m) (omega (
    arith,
    count_cons 0 (sub k a b) (differences_from k a rs),
    same_no 0 (sub k a b) (λ z. m (sub_zero_eq k pos a b ha h.0 (sym z))),
    differences_from_zero k pos a ha rs h.1,
  ))
]

pub differences_zero : (k : ℕ) → zero < k → (ps rs : List ℕ) → All (λ p. p < k) ps → All (λ p. p < k) rs → count 0 (differences_by k ps rs) ≡ 0
unfolding differences_by
differences_zero k pos [] rs h g = count_nil _
differences_zero k pos (a ∷ ps) rs h g = omega (arith, count_append 0 (differences_from k a rs) (differences_by k ps rs), differences_from_zero k pos a h.0 rs g, differences_zero k pos ps rs h.1 g)

-- positions that pass: the first, and the others from it on
pub fit_cons : (k least p : ℕ) (ps : List ℕ) → positions_fit k least (p ∷ ps) ≡ true → (least ≤ p) × (p < k) × (positions_fit k (suc p) ps ≡ true)
unfolding positions_fit
fit_cons k least p ps t =
    let s = and_split (ltb p k) (leb least p && positions_fit k (suc p) ps) (subst T (sym t) tt) in
    let r = and_split (leb least p) (positions_fit k (suc p) ps) s.1 in
    (leb→le least p r.0, ltb→lt p k s.0, is_true (positions_fit k (suc p) ps) r.1)

pub rising_facts : (k b : ℕ) (ps : List ℕ) → positions_fit k b ps ≡ true → All (λ p. p < k) ps × Distinct ps × ((v : ℕ) → v < b → count v ps ≡ 0)
rising_facts k b [] t = (tt, tt, λ v h. count_nil _)
rising_facts k b (p ∷ ps) t =
    let f = fit_cons k b p ps t in
    let ih = rising_facts k (suc p) ps f.2 in
    ((f.1, ih.0), (ih.2 p (omega arith), ih.1), λ v h. omega (arith, f.0, count_cons v p ps, same_no v p (omega (arith, f.0)), ih.2 v (omega (arith, f.0))))

all_index : (P : ℕ → Type 0) (xs : List ℕ) → All P xs → (i : ℕ) → i < length xs → P (get_or xs i 0)
all_index P [] a i h = absurd (not-suc-le-zero h)
all_index P (x ∷ xs) a zero h = a.0
all_index P (x ∷ xs) a (suc i) h = all_index P xs a.1 i (le_of_suc-le-suc h)

-- each position is below the next
pub rising_next : (k b : ℕ) (ps : List ℕ) → positions_fit k b ps ≡ true → (n : ℕ) → suc n < length ps → get_or ps n 0 < get_or ps (suc n) 0
rising_next k b [] t n h = absurd (omega arith)
rising_next k b (p ∷ []) t n h = absurd (omega arith)
rising_next k b (p ∷ (r ∷ ps)) t zero h = (fit_cons k (suc p) r ps (fit_cons k b p (r ∷ ps) t).2).0
rising_next k b (p ∷ (r ∷ ps)) t (suc n) h = rising_next k (suc p) (r ∷ ps) (fit_cons k b p (r ∷ ps) t).2 n (omega arith)

fit_make : (k least : ℕ) (ps : List ℕ) → Ascending k ps → (0 < length ps → least ≤ get_or ps 0 0) → positions_fit k least ps ≡ true
unfolding positions_fit
fit_make k least [] a l = refl
fit_make k least (p ∷ ps) a l = rw (
  is_true (ltb p k) (lt→ltb p k (a.below 0 (omega arith))),
  is_true (leb least p) (le→leb least p (l (omega arith))),
)
    (fit_make k (suc p) ps (record { below = (λ i h. a.below (suc i) (omega arith)); above = (λ i h. a.above (suc i) (omega arith)) })
    (λ h. a.above 0 (omega arith)))

-- the test of a run says that
pub fit_test : (k : ℕ) (ps : List ℕ) → (positions_fit k 0 ps ≡ true) ↔ Ascending k ps
fit_test k ps = (
  λ e. record { below = all_index (λ p. p < k) ps (rising_facts k 0 ps e).0; above = rising_next k 0 ps e },
  λ a. fit_make k 0 ps a (λ h. omega arith),
)

-- its positions are below k, and different
pub ascending_facts : (k : ℕ) (ps : List ℕ) → Ascending k ps → All (λ p. p < k) ps × Distinct ps
ascending_facts k ps a = let f = rising_facts k 0 ps ((fit_test k ps).1 a) in (f.0, f.1)

row_far : (k : ℕ) → zero < k → (a : ℕ) (rs : List ℕ) (d : ℕ) → k ≤ d → sum_over rs (λ b. same d (sub k a b)) ≡ 0
unfolding sum_over
row_far k pos a [] d l = refl
row_far k pos a (b ∷ rs) d l =
    let m : sub k a b < k = sub_lt k pos a b in
    omega (arith, row_far k pos a rs d l, same_no d (sub k a b) (omega arith))

-- and none is k or more
pub pairs_far : (k : ℕ) → zero < k → (ps rs : List ℕ) (d : ℕ) → k ≤ d → pair_count k ps rs d ≡ 0
unfolding pair_count sum_over
pairs_far k pos [] rs d l = refl
pairs_far k pos (a ∷ ps) rs d l = omega (arith, row_far k pos a rs d l, pairs_far k pos ps rs d l)

-- ---- the test of shared checks

pub every_facts : (n : ℕ) (f : ℕ → Bool) → T (every_below n f) → (i : ℕ) → i < n → T (f i)
unfolding every_below
every_facts zero f t i h = absurd (omega arith)
every_facts (suc n) f t i h = elim (ℕ_discrete i n) as (λ o. T (f i)) [
  | yes e ↦ rw e (and_split (f n) (every_below n f) t).0
  | no d ↦ every_facts n f (and_split (f n) (every_below n f) t).1 i (omega arith)
]

pub every_make : (n : ℕ) (f : ℕ → Bool) → ((i : ℕ) → i < n → T (f i)) → T (every_below n f)
unfolding every_below
every_make zero f h = tt
every_make (suc n) f h = and_join (f n) (every_below n f) (h n (omega arith)) (every_make n f (λ i l. h i (omega arith)))

or_facts : (a b : Bool) → T (a || b) → a ≡ false → T b
or_facts true b t e = absurd (subst T e tt)
or_facts false b t e = t

or_make : (a b : Bool) → (a ≡ false → T b) → T (a || b)
or_make true b f = tt
or_make false b f = f refl

-- it says what SelfOrthogonal says
pub orthogonal_test : (c : Code) → (self_orthogonal c ≡ true) ↔ SelfOrthogonal c
unfolding self_orthogonal
orthogonal_test c = (
  λ e j l hj hl n. leb→le (shared c j l) 1
      (or_facts (eqb l j) (leb (shared c j l) 1)
      (every_facts (data_count c) (λ i. eqb i j || leb (shared c j i) 1)
      (every_facts (data_count c) (λ o. every_below (data_count c) (λ i. eqb i o || leb (shared c o i) 1)) (subst T (sym e) tt) j hj) l hl)
      (eqb_no l j n)),
  λ f. is_true _ (every_make (data_count c) (λ o. every_below (data_count c) (λ i. eqb i o || leb (shared c o i) 1))
      (λ j hj. every_make (data_count c) (λ i. eqb i j || leb (shared c j i) 1)
      (λ l hl. or_make (eqb l j) (leb (shared c j l) 1)
      (λ e. le→leb (shared c j l) 1 (f j l hj hl (λ p. absurd (subst T (sym (eqb_yes l j p) ∙ e) tt))))))),
)
