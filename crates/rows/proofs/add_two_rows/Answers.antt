-- `add_two_rows`: from r on both rows are straight, and before r `add_two_before` adds them.
use Rattle.std.proofs.Common.{arith}
use Rattle.rows.specs.Rows.{added_two}
use Rattle.rows.proofs.add_two_rows.Goals as goal

pub returns : goal.returns
returns c =
    let a = c.args in
    added_two a.q a.p a.r a.src.now (omega arith) (omega arith) a.acc.now (omega arith) _ _ c.add_two_parts.ensures c.add_two_before.ensures
