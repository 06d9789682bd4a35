-- `sums_to`: what is left of n is to be the sum of the lengths that are left.
use Rattle.std.proofs.Common.{◌≡◌, ◌+◌, drop}
use Rattle.model.specs.Files.{total}
use Rattle.file_lists.proofs.sums_to.Given as goal

abbrev pub invariant-loop-size : goal.invariant-loop-size
invariant-loop-size l = total (drop l.size-index l.sizes) + l.n ≡ total l.sizes + l.left
