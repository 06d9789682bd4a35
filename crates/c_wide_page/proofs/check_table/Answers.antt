use Rattle.std.proofs.Common.{◌∙◌}
use Rattle.model.specs.Bytes.{positions_of}
use Rattle.model.specs.Code.{highest}
use Rattle.position_bytes.specs.Reads.{table_read}
use Rattle.c_wide_page.proofs.check_table.Goals as goal

pub returns-then-table-le64 : goal.returns-then-table-le64
returns-then-table-le64 g c =
    let f = g.S.WideSymbol.profile in
    c.table_answer.ensures ∙ table_read f (highest f) c.args.k c.args.b _ (positions_of c.args.table.now) c.read_positions-n.ensures.read

pub returns : goal.returns
returns g c =
    let f = g.S.WideSymbol.profile in
    c.table_answer-2.ensures ∙ table_read f (highest f) c.args.k c.args.b _ (positions_of c.args.table.now) c.read_positions-n-2.ensures.read
