-- The outer check: no block has a step at distance 0, and a step adds its reliability to the distance.
use Rattle.std.specs.Prelude.{◌≡◌, ◌≢◌, false, ltb, pos, ◌-ℤ◌, length}
use Rattle.std.proofs.Math.Path.{refl, sym}
use mathlib.Core.List.{List, [], ◌∷◌}
use Prim.Native.Nat.{ℕ, zero, suc, ◌+◌, ◌-◌, ◌*◌, ◌<◌}
use Rattle.std.proofs.Math.Decide.{ℕ_discrete}
use native.Mathlib.Omega.{arith}
use Rattle.std.proofs.Math.Dec.{ltb→lt}
use Rattle.std.proofs.Math.ListN.{get_or}
use Rattle.model.specs.Code.{Code, page_length, checks_each, checks_of}
use Rattle.model.specs.Decoder.{State, estimates, change, distance_to, state_weight}
use Rattle.model.specs.Demand.{StepAdds}
use Rattle.model.specs.Outer.{block_sum, block_count, reliability, reliability_of, weakest, is_step}
use Rattle.model.specs.Symbols.{count, weight, symbols_at}
use Rattle.theory.specs.Answers.{BlockFits}
use Rattle.theory.specs.Codes.{Usable, code_incidence}
use Rattle.theory.specs.Counting.{is_false, eqb_no, differ_yes, differ_no, length_symbols_at, misses, count_misses, count_other}
use Rattle.theory.specs.Decoding.{OnPage, change_distance}
use Rattle.theory.specs.Integers.{minus_lt_z, minus_eq, gained}
use Rattle.theory.specs.OuterCheck.{zero_no_step, step_no, step_yes, place_below, weakest_below, sum_below}
use Rattle.theory.specs.Steps.{SymbolsBelow}

-- where S and D are all 0 every reliability is that of J + 1 zeros, so no block has a step
weight_at : (s : List ℕ) → weight s ≡ 0 → (i : ℕ) → get_or s i 0 ≡ 0
unfolding weight
weight_at [] z i = refl
weight_at (x ∷ xs) z zero = elim (ℕ_discrete x 0) as (λ o. x ≡ 0) [ yes e ↦ e | no n ↦ absurd (omega (arith, differ_yes x 0 n)) ]
weight_at (x ∷ xs) z (suc i) = weight_at xs (omega arith) i

clean_misses : (s : List ℕ) → ((i : ℕ) → get_or s i 0 ≡ 0) → (is : List ℕ) → misses 0 (symbols_at s is) ≡ 0
unfolding symbols_at misses
clean_misses s z [] = refl
clean_misses s z (i ∷ is) = omega (arith, clean_misses s z is, differ_no 0 (get_or s i 0) (sym (z i)))

clean_reliability : (c : Code) (st : State) → state_weight st ≡ 0 → (e : ℕ) → e ≢ 0 → (j : ℕ)
    → reliability_of c e st j ≡ pos (suc (length (checks_of c j))) -ℤ pos 0
unfolding state_weight estimates reliability misses
clean_reliability c st z e n j =
    let es : List ℕ = estimates (checks_of c j) j st in
    let none : misses 0 es ≡ 0 =
    omega (
      arith,
      clean_misses st.syndrome (weight_at st.syndrome (omega arith)) (checks_of c j),
      differ_no 0 (get_or st.difference j 0) (sym (weight_at st.difference (omega arith) j)),
    ) in
    (minus_eq (count 0 es) (count e es) (suc (length (checks_of c j))) 0).1
    (omega (arith, count_misses 0 es, length_symbols_at st.syndrome (checks_of c j), count_other e 0 es n))

-- ---- steps

module _ (c : Code) (L : ℕ) (fits : BlockFits c L) where
  module _ (l : Usable c) (page : List ℕ) (whole : SymbolsBelow c.q (page_length c) page) where
    pub clean_no_step : (i : ℕ) → i < block_count c L → (st : State) → state_weight st ≡ 0 → is_step c L i st ≡ false
    unfolding is_step
    clean_no_step i h st z =
        let e : ℕ = block_sum c.q L st.result i in
        let size = (code_incidence c l).size in
        elim (ℕ_discrete e 0) as (λ x. is_step c L i st ≡ false) [
          | yes y ↦ zero_no_step c L i st y
          | no n ↦ rw (
            eqb_no e 0 n,
            clean_reliability c st z e n (weakest c L i e st),
            clean_reliability c st z e n (i * L + (L - 1)),
            size (weakest c L i e st) (weakest_below c L fits i e st h),
            size (i * L + (L - 1)) (place_below c L fits i (L - 1) h (omega (arith, fits.low))),
            minus_lt_z (suc (checks_each c)) 0 (suc (checks_each c)) 0,
          )
              (is_false (ltb (suc (checks_each c) + 0) (suc (checks_each c) + 0)) (λ t. absurd (omega (arith, ltb→lt (suc (checks_each c) + 0) (suc (checks_each c) + 0) t))))
        ]

    -- a step adds exactly its reliability to the distance
    pub step_adds : (i : ℕ) → i < block_count c L → (st : State) → OnPage c page st → StepAdds c L page i st
    unfolding reliability
    step_adds i h st p =
        let e : ℕ = block_sum c.q L st.result i in
        let j : ℕ = weakest c L i e st in
        record {
          added = (λ y. rw (step_yes c L i st y)
              (gained (distance_to c page st) (distance_to c page (change c.q (checks_of c j) j e st)) (count 0 (estimates (checks_of c j) j st)) (count e (estimates (checks_of c j) j st))
              (change_distance c l page whole j e (weakest_below c L fits i e st h) (sum_below c L fits l page whole st.result i) st p)));
          left = step_no c L i st;
        }
