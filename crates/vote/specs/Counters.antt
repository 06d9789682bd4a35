-- A counter for each of w values, over the estimates passed.
use Rattle.std.specs.Prelude.{◌≡◌, refl, true, false, ltb, length, get_or, set, take, drop, replicate}
use Rattle.std.proofs.Math.Path.{sym, ap}
use mathlib.Core.List.{List}
use Prim.Native.Nat.{ℕ, ◌+◌, ◌≤◌, ◌<◌}
use Rattle.std.proofs.Math.Decide.{ℕ_discrete}
use Rattle.std.proofs.Common.{arith, lt→ltb, take-append-drop, length-take, length-set, get_or-set_same, get_or-set_other, take_all}
use Rattle.std.proofs.Math.Dec.{ltb→lt}
use Rattle.std.proofs.lemmas.List.{length-replicate}
use Rattle.model.specs.Symbols.{count}
use Rattle.model.specs.Vote.{leader, lead_count}
use Rattle.theory.specs.Counting.{is_true, is_false, same_yes, same_no, count_misses}
use Rattle.theory.specs.Parts.{cleared}
use Rattle.theory.specs.Tables.{count_append}
use Rattle.theory.specs.Turns.{count_none, count_turn}
use Rattle.theory.specs.Voting.{lead_max}

-- a value stands among some of the estimates no more often than among all
count_part : (v : ℕ) (es : List ℕ) (i : ℕ) → count v (take i es) ≤ count v es
count_part v es i = omega (arith, ap (λ (l : List ℕ). count v l) (take-append-drop i es), count_append v (take i es) (drop i es))

-- the counters of the first i estimates, of which no value stands more than `bound` times
pub record Counted (w bound : ℕ) (es : List ℕ) (i : ℕ) (counters : List ℕ) : Type 0 where
  pub sized : length counters ≡ w
  pub counts : (v : ℕ) → get_or counters v 0 ≡ count v (take i es)
  pub bounded : (v : ℕ) → get_or counters v 0 ≤ bound

module _ (w bound : ℕ) (es : List ℕ) where
  pub counted_none : Counted w bound es 0 (replicate w 0)
  counted_none = record {
    sized = length-replicate {A = ℕ} w 0;
    counts = (λ v. omega (arith, cleared w v, count_none v es));
    bounded = (λ v. omega (arith, cleared w v));
  }

  module _ (i : ℕ) (counters : List ℕ) (s : Counted w bound es i counters) where
    -- a counter is no more than the number of estimates passed
    pub counted_few : (v : ℕ) → get_or counters v 0 ≤ i
    counted_few v = omega (arith, s.counts v, count_misses v (take i es), length-take i es)

    -- one estimate more, whose count stays within the bound
    pub counted_more : i < length es → get_or es i 0 < w → get_or counters (get_or es i 0) 0 + 1 ≤ bound
        → Counted w bound es (i + 1) (set counters (get_or es i 0) (get_or counters (get_or es i 0) 0 + 1))
    counted_more h low more = record {
      sized = simp length-set s.sized;
      counts = (λ v. (each v).0);
      bounded = (λ v. (each v).1);
    }
      where
        each : (v : ℕ)
            → (get_or (set counters (get_or es i 0) (get_or counters (get_or es i 0) 0 + 1)) v 0 ≡ count v (take (i + 1) es))
            × (get_or (set counters (get_or es i 0) (get_or counters (get_or es i 0) 0 + 1)) v 0 ≤ bound)
        each v =
            let e : ℕ = get_or es i 0 in
            let n : ℕ = get_or counters e 0 + 1 in
            elim (ℕ_discrete v e) as (λ o. (get_or (set counters e n) v 0 ≡ count v (take (i + 1) es)) × (get_or (set counters e n) v 0 ≤ bound)) [
              | yes p ↦ rw p (
                omega (arith, get_or-set_same counters e n 0 (omega arith), s.counts e, count_turn e es i h, same_yes e e refl),
                omega (arith, get_or-set_same counters e n 0 (omega arith)),
              )
              | no d ↦ (
                omega (arith, get_or-set_other counters e v n 0 d, s.counts v, count_turn v es i h, same_no v e d),
                omega (arith, get_or-set_other counters e v n 0 d, s.bounded v),
              )
            ]

    -- one estimate more, whose count is above the bound: so is the leader's
    pub counted_above : i < length es → bound < get_or counters (get_or es i 0) 0 + 1 → true ≡ ltb bound (lead_count es)
    counted_above h more =
        let e : ℕ = get_or es i 0 in
        sym (is_true (ltb bound (lead_count es)) (lt→ltb bound (lead_count es)
        (omega (arith, s.counts e, count_turn e es i h, same_yes e e refl, count_part e es (i + 1), lead_max es e))))

    -- all estimates passed: the leader's count is within the bound
    pub counted_within : length es ≤ i → false ≡ ltb bound (lead_count es)
    unfolding lead_count
    counted_within h =
        let v : ℕ = leader es in
        sym (is_false (ltb bound (count v es))
        (λ t. omega (arith, ltb→lt bound (count v es) t, s.bounded v, s.counts v, ap (λ (l : List ℕ). count v l) (take_all i es h))))
