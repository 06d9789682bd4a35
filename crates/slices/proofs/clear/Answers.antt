use Rattle.std.proofs.Common.{arith}
use Rattle.theory.specs.Written.{opened, turned, closed}
use Rattle.slices.proofs.clear.Goals as goal

pub loop-x-init : goal.loop-x-init
loop-x-init c = opened _ _

pub loop-x-preserved : goal.loop-x-preserved
loop-x-preserved c = turned c.loop-x.invariant (omega arith) (omega arith)

pub returns : goal.returns
returns c = closed c.loop-x.invariant (omega arith)
