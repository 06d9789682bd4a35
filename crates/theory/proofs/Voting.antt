-- A clear majority. An edit of must-fail/ changes this law, so what rests on it stands in another file, Recovery.
use Rattle.std.specs.Prelude.{◌≡◌, List, ℕ, suc, ◌+◌, ◌≤◌, length}
use Rattle.std.proofs.Common.{arith}
use Rattle.std.proofs.Math.Decide.{ℕ_discrete}
use Rattle.model.specs.Vote.{leader, lead_count}
use Rattle.theory.specs.Counting.{misses, count_misses, count_other}
use Rattle.theory.specs.Voting.{lead_max}

-- where no more than t of J + 1 estimates miss e, and 2 t is at most J, e is h0, and m1 is at most t
pub majority : (es : List ℕ) (e J t : ℕ) → length es ≡ suc J → misses e es ≤ t → t + t ≤ J → leader es ≡ e
unfolding lead_count
majority es e J t len few room = elim (ℕ_discrete (leader es) e) as (λ o. leader es ≡ e) [
  | yes p ↦ p
  | no n ↦ absurd (omega (arith, count_other (leader es) e es n, lead_max es e, count_misses e es))
]
