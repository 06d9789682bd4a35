use Rattle.std.proofs.Common.{arith}
use Rattle.theory.proofs.Margins.{zeros_others}
use Rattle.wide_vote.proofs.most_other.Goals as goal

pub overflow_cast-result : goal.overflow_cast-result
overflow_cast-result c = omega (arith, c.next_count.ensures, zeros_others c.args.es.now)
