-- `add_zeros_from`: its two runs are the data symbols whose check wraps and those whose check does not, and together all.
use Rattle.std.proofs.Common.{arith}
use Rattle.zeros.specs.Runs.{runs}
use Rattle.zeros.proofs.add_zeros_from.Goals as goal

pub returns : goal.returns
returns c =
    let a = c.args in
    runs a.k a.p a.acc.now a.src.now (omega arith) (omega arith) (omega arith) _ _ c.add_zeros.ensures c.add_zeros-2.ensures
