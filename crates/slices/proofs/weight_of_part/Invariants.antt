-- `weight_of_part`: n is the weight of the symbols so far, at most 1 for each.
use Rattle.std.proofs.Common.{◌≡◌, ◌≤◌, take}
use Rattle.model.specs.Symbols.{weight}
use Rattle.slices.proofs.weight_of_part.Given as goal

abbrev pub invariant-loop-x : goal.invariant-loop-x
invariant-loop-x l = (l.n ≡ weight (take l.x-index l.s)) × (l.n ≤ l.x-index)
