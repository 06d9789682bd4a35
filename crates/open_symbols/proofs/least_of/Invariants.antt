-- `least_of`: the number is at most each of the numbers so far.
use Rattle.std.proofs.Common.{ℕ, ◌<◌, ◌≤◌, get_or}
use Rattle.open_symbols.proofs.least_of.Given as goal

abbrev pub invariant-loop-z : goal.invariant-loop-z
invariant-loop-z l = (i : ℕ) → i < l.z-index → l.least ≤ get_or l.zeros i 0
