-- `total_of`: the sum of the symbols so far.
use Rattle.std.proofs.Common.{◌≡◌, ◌*◌, ◌≤◌, get_or}
use Rattle.model.specs.Symbols.{sum_of_first}
use Rattle.blocks.proofs.total_of.Given as goal

abbrev pub invariant-loop-x : goal.invariant-loop-x
invariant-loop-x l = (l.total ≡ sum_of_first l.x-index (λ p. get_or l.s p 0)) × (l.total ≤ 256 * l.x-index)
