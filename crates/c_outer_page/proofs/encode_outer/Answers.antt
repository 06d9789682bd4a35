-- `encode_outer`: the outcome by the positions read is that by the table's, and so is the code word, in either buffer.
use Rattle.std.proofs.Common.{◌∙◌}
use Rattle.std.proofs.lemmas.Result.{on_ok_weaker}
use Rattle.model.specs.Bytes.{positions_of}
use Rattle.model.specs.Code.{byte_pages}
use Rattle.position_bytes.specs.Reads.{encode_outer_read, encodes_outer_read}
use Rattle.c_outer_page.proofs.encode_outer.Goals as goal

pub returns-then-table-le64-clause-outcome : goal.returns-then-table-le64-clause-outcome
returns-then-table-le64-clause-outcome c =
    let a = c.args in
    c.encode_outer.ensures.outcome ∙ encode_outer_read byte_pages a.q a.k a.b _ (positions_of a.table.now) c.read_positions-n.ensures.read _ _ _

pub returns-then-table-le64-clause-word : goal.returns-then-table-le64-clause-word
returns-then-table-le64-clause-word c =
    let a = c.args in
    on_ok_weaker c.encode_outer.result (encodes_outer_read byte_pages a.q a.k a.b _ (positions_of a.table.now) c.read_positions-n.ensures.read _ _ _)
    c.encode_outer.ensures.word

pub returns-clause-outcome : goal.returns-clause-outcome
returns-clause-outcome c =
    let a = c.args in
    c.encode_outer-2.ensures.outcome ∙ encode_outer_read byte_pages a.q a.k a.b _ (positions_of a.table.now) c.read_positions-n-2.ensures.read _ _ _

pub returns-clause-word : goal.returns-clause-word
returns-clause-word c =
    let a = c.args in
    on_ok_weaker c.encode_outer-2.result (encodes_outer_read byte_pages a.q a.k a.b _ (positions_of a.table.now) c.read_positions-n-2.ensures.read _ _ _)
    c.encode_outer-2.ensures.word
