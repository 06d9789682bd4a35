-- `copy_row_less`: each of its two runs writes a straight part of the row, less the list there.
use Rattle.std.proofs.Common.{arith}
use Rattle.rows.specs.Rows.{copied_less}
use Rattle.rows.proofs.copy_row_less.Goals as goal

pub returns : goal.returns
returns c =
    let a = c.args in
    copied_less a.p a.dst.now a.src.now (omega arith) (omega arith) a.q a.less.now (omega arith) _ _ c.sub_into.ensures c.sub_into-2.ensures
