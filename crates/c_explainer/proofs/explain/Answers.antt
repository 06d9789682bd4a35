-- `explain`: the outcome by the positions read is that by the table's, in either buffer.
use Rattle.std.proofs.Common.{◌∙◌}
use Rattle.model.specs.Bytes.{positions_of}
use Rattle.params.specs.Codes.{profile_of}
use Rattle.position_bytes.specs.Reads.{explain_read}
use Rattle.c_explainer.proofs.explain.Goals as goal

pub returns-then-table-le64 : goal.returns-then-table-le64
returns-then-table-le64 c =
    let a = c.args in
    c.explain_into.ensures ∙ explain_read (profile_of a.bits) a.q a.k a.b _ (positions_of a.table.now) c.read_positions-n.ensures.read _ _ _ _

pub returns : goal.returns
returns c =
    let a = c.args in
    c.explain_into-2.ensures ∙ explain_read (profile_of a.bits) a.q a.k a.b _ (positions_of a.table.now) c.read_positions-n-2.ensures.read _ _ _ _
