-- The decoder's steps over any incidence of data symbols and checks: lengths and ranges, and what a change does to the weight of a state.
use Rattle.std.specs.Prelude.{◌≡◌, refl, List, [], ◌∷◌, ℕ, zero, suc, ◌+◌, ◌*◌, ◌<◌, length, get_or, set}
use Rattle.std.proofs.Common.{ap, sym, ◌∙◌, subst, arith, length-set, get_or-set_other}
use Rattle.model.specs.Decoder.{State, estimates, change, state_weight}
use Rattle.model.specs.Symbols.{sub, differ, count, weight, Below, sum_of_first, symbols_at, subtract_at}
use Rattle.theory.specs.Counting.{same_differ, differ_iff, All, Distinct, zeros_weight, weight_set, count_mem}
use Rattle.theory.specs.Modulo.{sub_lt, sub_self, sub_zero_eq}

-- the sum that check i is before it is taken modulo q, over the m data symbols: checks l are those of data symbol l
unfoldable pub check_sum : ℕ → (ℕ → List ℕ) → List ℕ → ℕ → ℕ
check_sum m checks u i = sum_of_first m (λ l. count i (checks l) * get_or u l 0)

-- ---- lengths and ranges

-- n symbols below q
pub record SymbolsBelow (q n : ℕ) (s : List ℕ) : Type 0 where
  pub len : length s ≡ n
  pub low : Below q s

pub below_set : (q : ℕ) (s : List ℕ) (i v : ℕ) → v < q → Below q s → Below q (set s i v)
below_set q [] i v h b n = b n
below_set q (x ∷ xs) zero v h b zero = h
below_set q (x ∷ xs) zero v h b (suc n) = b (suc n)
below_set q (x ∷ xs) (suc i) v h b zero = b zero
below_set q (x ∷ xs) (suc i) v h b (suc n) = below_set q xs i v h (λ l. b (suc l)) n

-- a state of m data symbols and k checks, all below q
pub record Sized (q m k : ℕ) (st : State) : Type 0 where
  pub len_result : length st.result ≡ m
  pub len_syndrome : length st.syndrome ≡ k
  pub len_difference : length st.difference ≡ m
  pub in_result : Below q st.result
  pub in_syndrome : Below q st.syndrome
  pub in_difference : Below q st.difference

pub length_subtract_at : (q h : ℕ) (is s : List ℕ) → length (subtract_at q h is s) ≡ length s
unfolding subtract_at
length_subtract_at q h [] s = refl
length_subtract_at q h (i ∷ is) s = length_subtract_at q h is (set s i (sub q (get_or s i 0) h)) ∙ length-set s i (sub q (get_or s i 0) h)

pub below_subtract_at : (q : ℕ) → zero < q → (h : ℕ) (is s : List ℕ) → Below q s → Below q (subtract_at q h is s)
unfolding subtract_at
below_subtract_at q pos h [] s b = b
below_subtract_at q pos h (i ∷ is) s b =
    below_subtract_at q pos h is (set s i (sub q (get_or s i 0) h)) (below_set q s i (sub q (get_or s i 0) h) (sub_lt q pos (get_or s i 0) h) b)

pub change_sized : (q m k : ℕ) → zero < q → (is : List ℕ) (j h : ℕ) (st : State) → Sized q m k st → Sized q m k (change q is j h st)
unfolding change
change_sized q m k pos is j h st z = record {
  len_result = length-set st.result j (sub q (get_or st.result j 0) h) ∙ z.len_result;
  len_syndrome = length_subtract_at q h is st.syndrome ∙ z.len_syndrome;
  len_difference = length-set st.difference j (sub q (get_or st.difference j 0) h) ∙ z.len_difference;
  in_result = below_set q st.result j (sub q (get_or st.result j 0) h) (sub_lt q pos (get_or st.result j 0) h) z.in_result;
  in_syndrome = below_subtract_at q pos h is st.syndrome z.in_syndrome;
  in_difference = below_set q st.difference j (sub q (get_or st.difference j 0) h) (sub_lt q pos (get_or st.difference j 0) h) z.in_difference;
}

-- ---- the weight of a state, and what a subtraction does to it

unfoldable pub less_each : ℕ → ℕ → List ℕ → List ℕ
less_each q h [] = []
less_each q h (x ∷ xs) = sub q x h ∷ less_each q h xs

symbols_at_set : (s : List ℕ) (i v : ℕ) (is : List ℕ) → count i is ≡ 0 → symbols_at (set s i v) is ≡ symbols_at s is
unfolding symbols_at
symbols_at_set s i v [] e = refl
symbols_at_set s i v (c ∷ cs) e =
    let d = count_mem i c cs e in
    ap (λ (x : ℕ). x ∷ symbols_at (set s i v) cs) (get_or-set_other s i c v 0 (λ p. d.0 (sym p)))
    ∙ ap (λ (xs : List ℕ). get_or s c 0 ∷ xs) (symbols_at_set s i v cs d.1)

weight_subtract_at : (q h : ℕ) (is s : List ℕ) → Distinct is → All (λ i. i < length s) is
    → weight (subtract_at q h is s) + weight (symbols_at s is) ≡ weight s + weight (less_each q h (symbols_at s is))
unfolding subtract_at weight symbols_at less_each
weight_subtract_at q h [] s d a = refl
weight_subtract_at q h (i ∷ is) s d a =
    let v : ℕ = sub q (get_or s i 0) h in
    let one : weight (set s i v) + differ (get_or s i 0) 0 ≡ weight s + differ v 0 = weight_set s i v a.0 in
    let other_count : weight (subtract_at q h is (set s i v)) + weight (symbols_at s is) ≡ weight (set s i v) + weight (less_each q h (symbols_at s is)) =
    subst (λ (l : List ℕ). weight (subtract_at q h is (set s i v)) + weight l ≡ weight (set s i v) + weight (less_each q h l)) (symbols_at_set s i v is d.0)
    (weight_subtract_at q h is (set s i v) d.1 (rw length-set a.1)) in
    omega arith

-- what is left of a list's nonzero symbols when h is subtracted from each
weight_less : (q : ℕ) (pos : zero < q) (h : ℕ) (xs : List ℕ) → h < q → Below q xs → weight (less_each q h xs) + count h xs ≡ length xs
unfolding weight less_each count
weight_less q pos h [] hh b = refl
weight_less q pos h (x ∷ xs) hh b =
    let e : differ (sub q x h) 0 ≡ differ h x =
    differ_iff (sub q x h) 0 h x (λ z. sym (sub_zero_eq q pos x h (b 0) hh z)) (λ z. subst (λ (w : ℕ). sub q w h ≡ 0) z (sub_self q pos h hh)) in
    omega (arith, weight_less q pos h xs hh (λ i. b (suc i)), same_differ h x)

below_symbols_at : (q : ℕ) → zero < q → (s is : List ℕ) → Below q s → Below q (symbols_at s is)
unfolding symbols_at
below_symbols_at q pos s [] b n = pos
below_symbols_at q pos s (i ∷ is) b zero = b i
below_symbols_at q pos s (i ∷ is) b (suc n) = below_symbols_at q pos s is b n

pub below_estimates : (q : ℕ) → zero < q → (is : List ℕ) (j : ℕ) (st : State) → Below q st.difference → Below q st.syndrome → Below q (estimates is j st)
unfolding estimates
below_estimates q pos is j st bd bs zero = bd j
below_estimates q pos is j st bd bs (suc n) = below_symbols_at q pos st.syndrome is bs n

-- the exact law: the weight loses the estimates equal to h and gains those equal to 0
pub change_weight : (q m k : ℕ) → zero < q → (is : List ℕ) (j h : ℕ) (st : State) → Sized q m k st → j < m → h < q → Distinct is → All (λ i. i < k) is
    → state_weight (change q is j h st) + count h (estimates is j st) ≡ state_weight st + count 0 (estimates is j st)
unfolding state_weight change estimates weight less_each
change_weight q m k pos is j h st z hj hh d a =
    omega (
      arith,
      weight_set st.difference j (sub q (get_or st.difference j 0) h) (rw z.len_difference hj),
      weight_subtract_at q h is st.syndrome d (rw z.len_syndrome a),
      zeros_weight (estimates is j st),
      weight_less q pos h (estimates is j st) hh (below_estimates q pos is j st z.in_difference z.in_syndrome),
    )
