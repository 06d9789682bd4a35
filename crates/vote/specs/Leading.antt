-- What the vote tells, a value with its count, and the turns of the loops that find them.
use Rattle.std.specs.Prelude.{◌≡◌, Bool, true, false, ◌&&◌, ◌||◌, List, ℕ, ◌+◌, ◌<◌, eqb, ltb, length, take}
use Rattle.std.proofs.Math.Path.{refl}
use Rattle.std.proofs.Common.{sym, ap, arith}
use Rattle.std.proofs.Math.Decide.{ℕ_discrete}
use Rattle.model.specs.Symbols.{choose, count}
use Rattle.model.specs.Vote.{before_by, first_by, other_by, leader, lead_count, next_count, zero_count}
use Rattle.theory.specs.Counting.{count_misses, count_other}
use Rattle.theory.specs.Voting.{lead_max}
use Rattle.vote.specs.declared.Commonest.{Commonest}
use Rattle.vote.specs.declared.Vote.{Vote}

-- a value with its count, by the count m of each value
abbrev pub lead_by : (ℕ → ℕ) → ℕ → Commonest ℕ
lead_by m v = record { value = v; count = m v }

-- a value, and how many of the estimates have it
abbrev pub lead_of : List ℕ → ℕ → Commonest ℕ
lead_of es = lead_by (λ v. count v es)

-- what the vote over estimates tells
abbrev pub vote_of : List ℕ → Vote ℕ
vote_of es = record { leader = leader es; lead = lead_count es; next = next_count es; zeros = zero_count es }

-- both of any estimates, as numbers
abbrev pub lead_numbers : {E : Type 0} → (E → ℕ) → Commonest E → Commonest ℕ
lead_numbers number c = record { value = number c.value; count = number c.count }

abbrev pub vote_numbers : {E : Type 0} → (E → ℕ) → Vote E → Vote ℕ
vote_numbers number v = record { leader = number v.leader; lead = number v.lead; next = number v.next; zeros = number v.zeros }

module _ (m : ℕ → ℕ) where
  lead_choose : (t : Bool) (a b : ℕ) → choose t (lead_by m a) (lead_by m b) ≡ lead_by m (choose t a b)
  lead_choose true a b = refl
  lead_choose false a b = refl

  -- the first of the leader so far and a candidate, each with its count
  pub lead_first : (best : Commonest ℕ) (b a n : ℕ) → best ≡ lead_by m b → n ≡ m a
      → choose (ltb best.count n || (eqb best.count n && ltb a best.value)) (record { value = a; count = n }) best ≡ lead_by m (choose (before_by m a b) a b)
  lead_first best b a n e f = rw (e, f) (lead_choose (before_by m a b) a b)

  -- the first of a value and itself
  pub lead_same : (t : Bool) (a b : ℕ) → a ≡ b → lead_by m b ≡ lead_by m (choose t a b)
  lead_same true a b e = ap (λ (v : ℕ). lead_by m v) (sym e)
  lead_same false a b e = refl

  -- where no candidate was passed
  pub first_none : (b : ℕ) (cs : List ℕ) → first_by m b (take 0 cs) ≡ b
  unfolding first_by
  first_none b cs = refl

  pub other_none : (h : ℕ) (cs : List ℕ) → other_by m h (take 0 cs) ≡ 0
  unfolding other_by
  other_none h cs = refl

-- a value that is more than half of the estimates is their leader
pub more_than_half : (es : List ℕ) (v : ℕ) → length es < count v es + count v es → v ≡ leader es
unfolding lead_count
more_than_half es v h = elim (ℕ_discrete v (leader es)) as (λ o. v ≡ leader es) [
  | yes e ↦ e
  | no n ↦ absurd (omega (arith, lead_max es v, count_other (leader es) v es (λ e. n (sym e)), count_misses v es))
]
