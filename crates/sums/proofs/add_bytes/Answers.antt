use Rattle.std.proofs.Common.{arith}
use Rattle.model.specs.Symbols.{add_each}
use Rattle.theory.specs.Written.{opened, turned, closed}
use Rattle.sums.proofs.add_bytes.Goals as goal

pub loop-i-init : goal.loop-i-init
loop-i-init c = opened _ _

pub loop-i-preserved : goal.loop-i-preserved
loop-i-preserved c = turned c.loop-i.invariant (omega arith) c.add_byte.ensures

pub returns : goal.returns
unfolding add_each
returns c = closed c.loop-i.invariant (omega arith)
