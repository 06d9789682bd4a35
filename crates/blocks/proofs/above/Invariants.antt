-- `above`: q is doubled.
use Rattle.std.proofs.Common.{◌+◌, ◌-◌, ◌≤◌}
use Rattle.blocks.specs.Blocks.{Doubled}
use Rattle.blocks.proofs.above.Given as goal

abbrev pub invariant-loop-m : goal.invariant-loop-m
invariant-loop-m l = Doubled l.q l.m × (1 ≤ l.m)

abbrev pub decreases-loop-m : goal.decreases-loop-m
decreases-loop-m l = l.n + 1 - l.m
