-- `state_weight`: the two weights are at most 4,096 each, so their sum does not overflow.
use Rattle.std.proofs.Common.{arith}
use Rattle.correction.specs.Decoded.{weights_small}
use Rattle.correction.proofs.state_weight.Goals as goal

pub overflow_add-result : goal.overflow_add-result
overflow_add-result c = omega (arith, c.weight_of.ensures, c.weight_of-2.ensures, weights_small c.args.d.now c.args.s.now c.requires.0 c.requires.1)
