-- The largest count of a value other than 0, by one estimate more.
use Rattle.std.specs.Prelude.{◌≡◌, refl, ◌≢◌, List, ℕ, ◌+◌, ◌≤◌, ◌<◌, max, eqb, length, get_or, take}
use Rattle.std.proofs.Common.{ap, ◌∙◌, arith, take_all}
use Rattle.std.proofs.Math.Decide.{ℕ_discrete, dec_le}
use Rattle.model.specs.Symbols.{choose, count}
use Rattle.model.specs.Vote.{other_by, other_count}
use Rattle.theory.specs.Counting.{eqb_yes, eqb_no, same_yes, same_no}
use Rattle.theory.specs.Turns.{count_turn}
use Rattle.theory.specs.Voting.{other_max, other_least}

-- the count of the other values
abbrev pub others : List ℕ → ℕ
others es = other_count es 0 es

pub others_none : (es : List ℕ) → others (take 0 es) ≡ 0
unfolding other_by
others_none es = refl

others_bound : (es : List ℕ) (v : ℕ) → v ≢ 0 → count v es ≤ others es
others_bound es v n = elim (dec_le (count v es) 0) as (λ o. count v es ≤ others es) [ yes z ↦ omega arith | no m ↦ other_max es 0 es v n (omega arith) ]

pub others_turn : (es : List ℕ) (i : ℕ) → i < length es
    → others (take (i + 1) es) ≡ max (others (take i es)) (choose (eqb (get_or es i 0) 0) 0 (count (get_or es i 0) (take i es) + 1))
others_turn es i h =
    let e : ℕ = get_or es i 0 in
    let xs : List ℕ = take i es in
    let ys : List ℕ = take (i + 1) es in
    let rise : others xs ≤ others ys = other_least xs 0 xs (others ys) (λ v n. omega (arith, count_turn v es i h, others_bound ys v n)) in
    elim (ℕ_discrete e 0) as (λ o. others ys ≡ max (others xs) (choose (eqb e 0) 0 (count e xs + 1))) [
      | yes p ↦ rw (eqb_yes e 0 p)
          (let top : others ys ≤ others xs = other_least ys 0 ys (others xs) (λ v n. omega (arith, count_turn v es i h, same_no v e (λ z. n (z ∙ p)), others_bound xs v n)) in
          omega arith)
      | no d ↦ rw (eqb_no e 0 d)
          (let own : count e xs + 1 ≤ others ys = omega (arith, count_turn e es i h, same_yes e e refl, others_bound ys e d) in
          let top : others ys ≤ max (others xs) (count e xs + 1) = other_least ys 0 ys (max (others xs) (count e xs + 1)) (λ v n. each v n) in
          omega arith)
    ]
  where
    each : (v : ℕ) → v ≢ 0 → count v (take (i + 1) es) ≤ max (others (take i es)) (count (get_or es i 0) (take i es) + 1)
    each v n = elim (ℕ_discrete v (get_or es i 0)) as (λ o. count v (take (i + 1) es) ≤ max (others (take i es)) (count (get_or es i 0) (take i es) + 1)) [
      | yes p ↦ rw p (omega (arith, count_turn (get_or es i 0) es i h, same_yes (get_or es i 0) (get_or es i 0) refl))
      | no d ↦ omega (arith, count_turn v es i h, same_no v (get_or es i 0) d, others_bound (take i es) v n)
    ]

pub others_all : (es : List ℕ) (i : ℕ) → length es ≤ i → others (take i es) ≡ others es
others_all es i h = ap others (take_all i es h)
