use Rattle.std.proofs.Common.{arith}
use Rattle.theory.specs.Written.{opened, kept, turned, closed}
use Rattle.zeros.specs.Runs.{add_zeros}
use Rattle.zeros.proofs.add_zeros.Goals as goal

pub loop-i-init : goal.loop-i-init
loop-i-init c = opened _ _

pub overflow_add-a : goal.overflow_add-a
overflow_add-a c = omega (arith, kept c.loop-i.invariant (omega arith), c.requires.1 c.loop-i.i, c.equal.ensures)

pub loop-i-preserved : goal.loop-i-preserved
loop-i-preserved c = turned c.loop-i.invariant (omega arith) (omega (arith, c.equal.ensures))

pub returns : goal.returns
unfolding add_zeros
returns c = closed c.loop-i.invariant (omega arith)
