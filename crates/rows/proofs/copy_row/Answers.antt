-- `copy_row`: each of its two runs copies a straight part of the row.
use Rattle.std.proofs.Common.{arith}
use Rattle.rows.specs.Rows.{copied_row}
use Rattle.rows.proofs.copy_row.Goals as goal

pub returns : goal.returns
returns c =
    let a = c.args in
    copied_row a.p a.dst.now a.src.now (omega arith) (omega arith) _ _ c.copy_into.ensures c.copy_into-2.ensures
