-- `highest_of`: top is the highest of the symbols so far.
use Rattle.std.proofs.Common.{◌≡◌, take}
use Rattle.slices.specs.Scans.{highest}
use Rattle.slices.proofs.highest_of.Given as goal

abbrev pub invariant-loop-x : goal.invariant-loop-x
invariant-loop-x l = l.top ≡ highest (take l.x-index l.s)
