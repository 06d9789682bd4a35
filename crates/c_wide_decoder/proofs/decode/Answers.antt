-- By either buffer for the positions; Demand 3 follows from the outcome.
use Rattle.std.proofs.Common.{false}
use Rattle.model.specs.Bytes.{positions_of}
use Rattle.model.specs.Code.{wide_code}
use Rattle.model.specs.Decoder.{state_by}
use Rattle.wide_answers.specs.Own.{own}
use Rattle.c_wide.specs.Decodes.{decode_holds}
use Rattle.c_wide_decoder.proofs.decode.Goals as goal

pub returns-then-table-le64 : goal.returns-then-table-le64
returns-then-table-le64 g c =
    let a = c.args in
    let ps = positions_of a.table.now in
    let h = decode_holds (wide_code g.S.WideSymbol.profile a.k a.b ps) (own g.met.S.WideSymbol.is_wide (record { q = 256; k = a.k; b = a.b; bits = false }) ps)
    a.page.now a.thresholds.now (state_by a.res.now a.syndrome.now a.difference.now) a.margins.now a.counts.now _ _ c.decode_with.ensures in
    record { outcome = h.0; falling = h.1.0; recovery = h.1.1 }

pub returns : goal.returns
returns g c =
    let a = c.args in
    let ps = positions_of a.table.now in
    let h = decode_holds (wide_code g.S.WideSymbol.profile a.k a.b ps) (own g.met.S.WideSymbol.is_wide (record { q = 256; k = a.k; b = a.b; bits = false }) ps)
    a.page.now a.thresholds.now (state_by a.res.now a.syndrome.now a.difference.now) a.margins.now a.counts.now _ _ c.decode_with-2.ensures in
    record { outcome = h.0; falling = h.1.0; recovery = h.1.1 }
