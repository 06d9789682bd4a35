-- The loops that count the estimates and clear their counters.
use Rattle.std.specs.Prelude.{◌≡◌, ℕ, ◌+◌, ◌≤◌, ◌<◌, length, get_or, set, drop}
use Rattle.std.proofs.Math.Path.{sym, ap}
use Rattle.std.proofs.Common.{◌∙◌, arith, add-one, length-set, drop_of_length-le, get_or-set_same, get_or-set_other, take_all, drop-cons}
use mathlib.Core.List.{List, ◌∷◌}
use Rattle.std.proofs.Math.Decide.{ℕ_discrete, dec_lt}
use Rattle.std.proofs.Math.ListN.{get_or-eq_default}
use Rattle.std.proofs.Math.Seq.{ext_get_or}
use Rattle.model.specs.Symbols.{count}
use Rattle.model.specs.Vote.{zero_counters, counted}
use Rattle.theory.specs.Counters.{length_counted}
use Rattle.theory.specs.Counting.{count_nil, count_cons, same_no}
use Rattle.theory.specs.Distance.{length_tabulate, get_d_tabulate}
use Rattle.theory.specs.Turns.{count_none}
use Rattle.vote.specs.Counters.{Counted}

-- counters that are all zero
zero_at : (w v : ℕ) → get_or (zero_counters w) v 0 ≡ 0
zero_at w v = elim (dec_lt v w) as (λ o. get_or (zero_counters w) v 0 ≡ 0) [
  | yes h ↦ get_d_tabulate w (λ u. 0) v h
  | no h ↦ get_or-eq_default (zero_counters w) 0 {n = v} (omega (arith, length_tabulate w (λ (u : ℕ). 0)))
]

pub zero_sized : (counters : List ℕ) {w : ℕ} → counters ≡ zero_counters w → length counters ≡ w
zero_sized counters {w} z = ap length z ∙ length_tabulate w (λ v. 0)

-- the counters while they are cleared: those of values that no estimate from i on has are zero
pub record Clearing (w : ℕ) (es : List ℕ) (i : ℕ) (counters : List ℕ) : Type 0 where
  pub sized : length counters ≡ w
  pub clear : (v : ℕ) → v < w → count v (drop i es) ≡ 0 → get_or counters v 0 ≡ 0

module _ (w : ℕ) (es : List ℕ) where
  -- counting starts where all counters are zero
  pub counting_none : (bound : ℕ) → Counted w bound es 0 (zero_counters w)
  counting_none bound = record {
    sized = length_tabulate w (λ v. 0);
    counts = (λ v. omega (arith, zero_at w v, count_none v es));
    bounded = (λ v. omega (arith, zero_at w v));
  }

  -- and ends where each holds how often its value occurs
  pub counting_all : (bound i : ℕ) (counters : List ℕ) → Counted w bound es i counters → length es ≤ i → counters ≡ counted w es
  unfolding counted
  counting_all bound i counters s h =
      ext_get_or 0 counters (counted w es) (s.sized ∙ sym (length_counted w es))
      (λ v l. s.counts v ∙ ap (λ (xs : List ℕ). count v xs) (take_all i es h) ∙ sym (get_d_tabulate w (λ u. count u es) v (omega (arith, s.sized))))

  -- clearing starts where each holds how often its value occurs
  pub clearing_none : Clearing w es 0 (counted w es)
  unfolding counted
  clearing_none = record { sized = length_counted w es; clear = (λ v l z. get_d_tabulate w (λ u. count u es) v l ∙ z) }

  module _ (i : ℕ) (counters : List ℕ) (s : Clearing w es i counters) where
    -- one estimate more
    pub clearing_more : i < length es → get_or es i 0 < w → Clearing w es (i + 1) (set counters (get_or es i 0) 0)
    clearing_more h low = record { sized = simp length-set s.sized; clear = each }
      where
        each : (v : ℕ) → v < w → count v (drop (i + 1) es) ≡ 0 → get_or (set counters (get_or es i 0) 0) v 0 ≡ 0
        each v l z =
            let e : ℕ = get_or es i 0 in
            elim (ℕ_discrete v e) as (λ o. get_or (set counters e 0) v 0 ≡ 0) [
              | yes p ↦ rw p (get_or-set_same counters e 0 0 (omega arith))
              | no d ↦
                  let next : drop i es ≡ e ∷ drop (i + 1) es = rw add-one (drop-cons es i 0 h) in
                  let rest : count v (drop i es) ≡ 0 = omega (arith, ap (λ (xs : List ℕ). count v xs) next, count_cons v e (drop (i + 1) es), same_no v e d) in
                  get_or-set_other counters e v 0 0 d ∙ s.clear v l rest
            ]

    -- and ends where all are zero
    pub clearing_all : length es ≤ i → counters ≡ zero_counters w
    clearing_all h =
        ext_get_or 0 counters (zero_counters w) (s.sized ∙ sym (length_tabulate w (λ v. 0)))
        (λ v l. s.clear v (omega (arith, s.sized)) (ap (λ (xs : List ℕ). count v xs) (drop_of_length-le es {i = i} h) ∙ count_nil v) ∙ sym (zero_at w v))
