-- `first_broken`: all blocks passed sum to 0.
use Rattle.std.proofs.Common.{◌-◌, length}
use Rattle.blocks.specs.Blocks.{BrokenFrom}
use Rattle.blocks.proofs.first_broken.Given as goal

abbrev pub invariant-loop-at : goal.invariant-loop-at
invariant-loop-at l = BrokenFrom l.q l.block l.s l.from l.at

abbrev pub decreases-loop-at : goal.decreases-loop-at
decreases-loop-at l = length l.s - l.at
