-- `weight_of`: n and the weight of the parts that are left are the weight of all, and a byte counts a part.
use Rattle.std.proofs.Common.{◌≡◌, ◌+◌, ◌≤◌}
use Rattle.std.specs.Slice.Iter.{chunks_rest, chunks_size}
use Rattle.model.specs.Symbols.{weight}
use Rattle.slices.proofs.weight_of.Given as goal

abbrev pub invariant-loop-part : goal.invariant-loop-part
invariant-loop-part l = (chunks_size l.part-iterator ≤ 255) × (l.n + weight (chunks_rest l.part-iterator) ≡ weight l.s)
