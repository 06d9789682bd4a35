-- `write_by_zeros`: the bytes of the first i margins are written.
use Rattle.std.proofs.Common.{length}
use Rattle.firm_symbols.specs.Phases.{zeros_margin}
use Rattle.margin_bytes.specs.Fronts.{Front}
use Rattle.margin_bytes.proofs.write_by_zeros.Given as goal

abbrev pub invariant-loop-i : goal.invariant-loop-i
invariant-loop-i l = Front (zeros_margin l.each l.zeros l.d) (length l.d) l.out l.i
