-- What holds before and after each visit: result, S and D by the received page, and the bounds of the counts.
use Rattle.std.specs.Prelude.{◌≡◌, Bool, true, false, List, [], ◌∷◌}
use Rattle.std.proofs.Math.Path.{ap, sym, subst}
use Rattle.std.proofs.Common.{◌∙◌, arith}
use Prim.Native.Nat.{ℕ, zero, ◌+◌, ◌*◌, ◌%◌, ◌≤◌, ◌<◌}
use Rattle.std.proofs.Math.Nat.{mod-eq_of_lt}
use Rattle.std.proofs.Math.ListN.{length, get_or}
use Rattle.std.proofs.Math.Seq.{ext_get_or}
use Rattle.model.specs.Decoder.{State, Visit, changes, visit, after, change_count, pass, passes, state_weight}
use Rattle.model.specs.Symbols.{bit, add, sub, tabulate, add_each, sub_each}
use Rattle.theory.specs.Counting.{zeros_weight}
use Rattle.theory.specs.Distance.{length_tabulate, get_d_tabulate, check_symbols_of, Received, Tied}
use Rattle.theory.specs.Modulo.{by_eq, sub_add}
use Rattle.theory.specs.Runs.{changes_append}
use Rattle.theory.specs.Steps.{check_sum, Sized}

-- ---- the three buffers, by the received page x ++ y

module _ {q m k : ℕ} (pos : zero < q) {checks : ℕ → List ℕ} {x y : List ℕ} (r : Received q m k x y) (st : State) (z : Sized q m k st) (t : Tied q m k checks x y st) where
  -- result = received data + D
  pub result_is : st.result ≡ add_each q x st.difference
  unfolding add_each add
  result_is = ext_get_or 0 st.result (add_each q x st.difference) (z.len_result ∙ sym (length_tabulate (length x) _ ∙ r.len_x)) each
    where
      each : (i : ℕ) → i < length st.result → get_or st.result i 0 ≡ get_or (add_each q x st.difference) i 0
      each i h =
          let l : i < m = subst (λ (n : ℕ). i < n) z.len_result h in
          let a : ℕ = get_or st.result i 0 in
          let b : ℕ = get_or x i 0 in
          sym (get_d_tabulate (length x) (λ j. (get_or x j 0 + get_or st.difference j 0) % q) i (rw r.len_x l)
          ∙ ap (λ (d : ℕ). (b + d) % q) (t.difference_is i l)
          ∙ by_eq q {x = b + sub q a b} {y = sub q a b + b} (omega arith)
          ∙ sub_add q pos a b (omega (arith, r.in_x i))
          ∙ mod-eq_of_lt (z.in_result i))

  -- S = the checks of the result − the received checks
  pub syndrome_is : st.syndrome ≡ sub_each q (check_symbols_of q m k checks st.result) y
  unfolding sub_each check_symbols_of
  syndrome_is =
      ext_get_or 0 st.syndrome (sub_each q (check_symbols_of q m k checks st.result) y) (z.len_syndrome ∙ sym (length_tabulate _ _ ∙ length_tabulate k _)) each
    where
      each : (i : ℕ) → i < length st.syndrome → get_or st.syndrome i 0 ≡ get_or (sub_each q (check_symbols_of q m k checks st.result) y) i 0
      each i h =
          let l : i < k = subst (λ (n : ℕ). i < n) z.len_syndrome h in
          let c : ℕ → ℕ = (λ o. check_sum m checks st.result o % q) in
          t.syndrome_is i l
          ∙ ap (λ (n : ℕ). sub q n (get_or y i 0)) (sym (get_d_tabulate k c i l))
          ∙ sym (get_d_tabulate (length (tabulate k c)) (λ o. sub q (get_or (tabulate k c) o 0) (get_or y o 0)) i (rw (length_tabulate k c) l))

-- ---- the counts

-- no more changes than visits
bit_le : (b : Bool) → bit b ≤ 1
bit_le true = omega arith
bit_le false = omega arith

pass-few : (q : ℕ) (checks : ℕ → List ℕ) (js : List ℕ) (t : ℕ) (st : State) → change_count q checks (pass js t) st ≤ length js
unfolding pass change_count
pass-few q checks [] t st = omega arith
pass-few q checks (j ∷ js) t st =
    let v : Visit = record { symbol = j; threshold = t } in
    omega (arith, bit_le (changes checks v st), pass-few q checks js t (visit q checks v st))

pub changes_few : (q : ℕ) (checks : ℕ → List ℕ) (js : List ℕ) → length js ≤ 4096 → (ts : List ℕ) (st : State)
    → change_count q checks (passes js ts) st ≤ 4096 * length ts
unfolding passes change_count
changes_few q checks js h [] st = omega arith
changes_few q checks js h (t ∷ ts) st =
    omega (
      arith,
      changes_append q checks (pass js t) (passes js ts) st,
      pass-few q checks js t st,
      changes_few q checks js h ts (after q checks (pass js t) st),
    )

-- the nonzero symbols of S and D are at most all of them
pub weight_few : (q m k : ℕ) (st : State) → Sized q m k st → state_weight st ≤ m + k
unfolding state_weight
weight_few q m k st z = omega (arith, zeros_weight st.difference, zeros_weight st.syndrome, z.len_difference, z.len_syndrome)
