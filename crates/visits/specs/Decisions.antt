-- What a visit subtracts: h0 where its estimates are a change, else 0; by the counts of the vote, and by the zeros alone where they settle it.
use Rattle.std.specs.Prelude.{◌≡◌, refl, ◌≢◌, Bool, true, false, List, ℕ, ◌+◌, ◌-◌, ◌≤◌, ◌<◌, T, length}
use Rattle.std.proofs.Common.{sym, subst, arith}
use Rattle.std.proofs.Math.Decide.{ℕ_discrete}
use Rattle.model.specs.Decoder.{is_change}
use Rattle.model.specs.Symbols.{choose, bit, count, Below}
use Rattle.model.specs.Vote.{leader, lead_count, next_count}
use Rattle.theory.proofs.BitVote.{change_one}
use Rattle.theory.specs.Counting.{is_true, is_false, count_misses, count_other}
use Rattle.theory.specs.Falling.{choose_case, is_change_facts, is_change_make, is_change_zero}
use Rattle.theory.specs.Voting.{leader_below, next_max}

-- h0 where estimates are a change at a threshold, else 0
unfoldable pub to_subtract : ℕ → List ℕ → ℕ
to_subtract t es = choose (is_change t es) (leader es) 0

subtract_left : (t : ℕ) (es : List ℕ) → (T (is_change t es) → ⊥) → 0 ≡ to_subtract t es
unfolding to_subtract
subtract_left t es n = rw (is_false (is_change t es) n) refl

-- nothing, where the zeros, counted twice, and t make up the number of estimates: the leader is 0 or no more than t ahead
pub subtract_by_zeros : (t : ℕ) (es : List ℕ) → length es ≤ count 0 es + count 0 es + t → 0 ≡ to_subtract t es
unfolding lead_count
subtract_by_zeros t es h =
    subtract_left t es
    (λ w. let f = is_change_facts t es w in omega (arith, f.0, next_max es 0 f.1, count_other 0 (leader es) es f.1, count_misses (leader es) es))

-- nothing, where the leader stands no more often than the zeros and t together
pub subtract_by_lead : (t : ℕ) (es : List ℕ) → lead_count es ≤ count 0 es + t → 0 ≡ to_subtract t es
subtract_by_lead t es h =
    subtract_left t es (λ w. let f = is_change_facts t es w in omega (arith, f.0, next_max es 0 f.1))

-- by the counts of the vote
pub subtract_behind : (t : ℕ) (es : List ℕ) → lead_count es - next_count es ≤ t → 0 ≡ to_subtract t es
subtract_behind t es h = subtract_left t es (λ w. omega (arith, (is_change_facts t es w).0))

pub subtract_leader : (t : ℕ) (es : List ℕ) → t < lead_count es - next_count es → leader es ≡ to_subtract t es
unfolding to_subtract
subtract_leader t es h = elim (ℕ_discrete (leader es) 0) as (λ o. leader es ≡ choose (is_change t es) (leader es) 0) [
  | yes e ↦ rw (is_change_zero t es e) e
  | no n ↦ rw (is_true (is_change t es) (is_change_make t es h n)) refl
]

-- on bits, 1 where they are a change
pub subtract_bit : (t : ℕ) (es : List ℕ) → Below 2 es → 0 < length es → bit (is_change t es) ≡ to_subtract t es
unfolding to_subtract
subtract_bit t es low some = go (is_change t es) refl
  where
    go : (b : Bool) → is_change t es ≡ b → bit b ≡ choose b (leader es) 0
    go true e = sym (change_one es low some t e)
    go false e = refl

-- what it says of the visit
pub subtract_zero : (t : ℕ) (es : List ℕ) → to_subtract t es ≡ 0 → is_change t es ≡ false
unfolding to_subtract
subtract_zero t es = go (is_change t es) refl
  where
    go : (b : Bool) → is_change t es ≡ b → choose b (leader es) 0 ≡ 0 → is_change t es ≡ false
    go true e z = absurd ((is_change_facts t es (subst T (sym e) tt)).1 (sym z))
    go false e z = e

pub subtract_some : (t : ℕ) (es : List ℕ) → to_subtract t es ≢ 0 → (is_change t es ≡ true) × (to_subtract t es ≡ leader es)
unfolding to_subtract
subtract_some t es = go (is_change t es) refl
  where
    go : (b : Bool) → is_change t es ≡ b → choose b (leader es) 0 ≢ 0 → (is_change t es ≡ true) × (choose b (leader es) 0 ≡ leader es)
    go true e n = (e, refl)
    go false e n = absurd (n refl)

pub subtract_below : (q : ℕ) → 0 < q → (t : ℕ) (es : List ℕ) → Below q es → to_subtract t es < q
unfolding to_subtract
subtract_below q pos t es b = choose_case (λ x n. n < q) (is_change t es) (leader es) 0 (λ w. leader_below q es b) (λ w. pos)
