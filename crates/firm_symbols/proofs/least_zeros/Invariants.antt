-- `least_zeros`: the number is at most the zeros of each of the first i.
use Rattle.std.proofs.Common.{ℕ, ◌<◌, ◌≤◌}
use Rattle.firm_symbols.specs.Phases.{zeros_at}
use Rattle.firm_symbols.proofs.least_zeros.Given as goal

abbrev pub invariant-loop-i : goal.invariant-loop-i
invariant-loop-i l = (j : ℕ) → j < l.i → l.least ≤ zeros_at l.zeros l.d j
