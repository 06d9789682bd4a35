-- `decode`: what holds of decode with the positions that are read holds with those of the table, in either buffer.
use Rattle.std.proofs.Common.{true}
use Rattle.model.specs.Bytes.{positions_of}
use Rattle.model.specs.Code.{code_in}
use Rattle.model.specs.Decoder.{state_by}
use Rattle.params.specs.Codes.{profile_of}
use Rattle.position_bytes.specs.Reads.{decode_read}
use Rattle.theory.proofs.InBlocks.{c_decode_done}
use Rattle.std.proofs.Common.{◌∙◌}
use Rattle.c_decoder.proofs.decode.Goals as goal

pub returns-then-table-le64 : goal.returns-then-table-le64
returns-then-table-le64 c =
    let a = c.args in
    let profile = profile_of a.bits in
    let ps = positions_of a.table.now in
    let lent = state_by a.res.now a.syndrome.now a.difference.now in
    let done = c_decode_done (code_in profile a.q a.k a.b ps) true a.page.now a.thresholds.now lent a.margins.now a.counts.now _ _
    (c.decode_sized.ensures.outcome ∙ decode_read profile a.q a.k a.b _ ps c.read_positions-n.ensures.read 1 true a.page.now a.thresholds.now lent a.margins.now a.counts.now) in
    record { outcome = done.0; falling = done.1.0; recovery = done.1.1 }

pub returns : goal.returns
returns c =
    let a = c.args in
    let profile = profile_of a.bits in
    let ps = positions_of a.table.now in
    let lent = state_by a.res.now a.syndrome.now a.difference.now in
    let done = c_decode_done (code_in profile a.q a.k a.b ps) true a.page.now a.thresholds.now lent a.margins.now a.counts.now _ _
    (c.decode_sized-2.ensures.outcome ∙ decode_read profile a.q a.k a.b _ ps c.read_positions-n-2.ensures.read 1 true a.page.now a.thresholds.now lent a.margins.now a.counts.now) in
    record { outcome = done.0; falling = done.1.0; recovery = done.1.1 }
