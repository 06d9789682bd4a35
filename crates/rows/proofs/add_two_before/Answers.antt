-- `add_two_before`: in each of its two runs both rows are straight.
use Rattle.std.proofs.Common.{arith}
use Rattle.rows.specs.Rows.{added_before}
use Rattle.rows.proofs.add_two_before.Goals as goal

pub returns : goal.returns
returns c =
    let a = c.args in
    added_before a.q a.p a.r a.src.now (omega arith) (omega arith) a.acc.now (omega arith) _ _ c.add_two_parts.ensures c.add_two_parts-2.ensures
