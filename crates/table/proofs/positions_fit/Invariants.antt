-- `positions_fit`: the test of what is left gives the test of all.
use Rattle.std.proofs.Common.{◌≡◌, drop}
use Rattle.model.specs.Calls.{positions_fit}
use Rattle.table.proofs.positions_fit.Given as goal

abbrev pub invariant-loop-p : goal.invariant-loop-p
invariant-loop-p l = positions_fit l.k l.least (drop l.p-index l.positions) ≡ positions_fit l.k 0 l.positions
