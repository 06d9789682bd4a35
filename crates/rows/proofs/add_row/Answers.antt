-- `add_row`: each of its two runs adds a straight part of the row.
use Rattle.std.proofs.Common.{arith}
use Rattle.rows.specs.Rows.{added_row}
use Rattle.rows.proofs.add_row.Goals as goal

pub returns : goal.returns
returns c =
    let a = c.args in
    added_row a.p a.acc.now a.src.now (omega arith) (omega arith) a.q _ _ c.add_into.ensures c.add_into-2.ensures
