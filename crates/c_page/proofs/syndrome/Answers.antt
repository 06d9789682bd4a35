-- `syndrome`: the outcome by the positions read is that by the table's, in either buffer.
use Rattle.std.proofs.Common.{◌∙◌}
use Rattle.model.specs.Bytes.{positions_of}
use Rattle.params.specs.Codes.{profile_of}
use Rattle.position_bytes.specs.Reads.{syndrome_read}
use Rattle.c_page.proofs.syndrome.Goals as goal

pub returns-then-table-le64 : goal.returns-then-table-le64
returns-then-table-le64 c =
    let a = c.args in
    c.syndrome_in.ensures ∙ syndrome_read (profile_of a.bits) a.q a.k a.b _ (positions_of a.table.now) c.read_positions-n.ensures.read _ _

pub returns : goal.returns
returns c =
    let a = c.args in
    c.syndrome_in-2.ensures ∙ syndrome_read (profile_of a.bits) a.q a.k a.b _ (positions_of a.table.now) c.read_positions-n-2.ensures.read _ _
