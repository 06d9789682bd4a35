use Rattle.std.proofs.Common.{arith}
use Rattle.recount.specs.Recount.{recount_none, recount_turn, recount_all}
use Rattle.recount.proofs.recount_run.Goals as goal

pub loop-p-init : goal.loop-p-init
loop-p-init c = recount_none c.requires

pub overflow_add-zeros : goal.overflow_add-zeros
overflow_add-zeros c = omega (arith, (recount_turn c.requires c.loop-p.invariant (omega arith) c.symbol_of-x.ensures).room)

pub overflow_sub-zeros : goal.overflow_sub-zeros
overflow_sub-zeros c = omega (arith, (recount_turn c.requires c.loop-p.invariant (omega arith) c.symbol_of-x.ensures).holds)

pub loop-p-preserved : goal.loop-p-preserved
loop-p-preserved c = (recount_turn c.requires c.loop-p.invariant (omega arith) c.symbol_of-x.ensures).next

pub returns : goal.returns
returns c = recount_all c.requires c.loop-p.invariant (omega arith)
