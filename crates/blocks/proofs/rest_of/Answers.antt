use Rattle.blocks.specs.Blocks.{dividing_turn}
use Rattle.blocks.proofs.rest_of.Goals as goal

pub loop-m-preserved : goal.loop-m-preserved
loop-m-preserved c = dividing_turn c.loop-m.invariant c.loop-m-test.true _ c.less-rest.ensures
