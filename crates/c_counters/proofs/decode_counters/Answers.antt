-- `decode_counters`: counters that fit are clear; what holds of decode with the positions that are read holds with those of the table.
use Rattle.std.proofs.Common.{Bool, refl, sym, ◌∙◌, ap, arith}
use Rattle.model.specs.Bytes.{positions_of, c_decode_outcome, c_decode_counters_outcome}
use Rattle.model.specs.Code.{byte_pages, code_of}
use Rattle.model.specs.Decoder.{state_by}
use Rattle.position_bytes.specs.Reads.{decode_read}
use Rattle.theory.specs.Counters.{clear_made, fit_clear}
use Rattle.theory.proofs.InBlocks.{c_decode_done}
use Rattle.c_counters.proofs.decode_counters.Goals as goal

pub decode_into-requires : goal.decode_into-requires
decode_into-requires c = (omega arith, omega arith, λ h. h, clear_made 4096, λ e. fit_clear _ (sym c.counters_fit-fit.ensures ∙ e), refl)

pub returns : goal.returns
unfolding c_decode_counters_outcome
returns c =
    let a = c.args in
    let fit = c.counters_fit-fit in
    let ps = positions_of a.table.now in
    let code = code_of a.q a.k a.b ps in
    let lent = state_by a.res.now a.syndrome.now a.difference.now in
    let e = c.decode_into.ensures in
    let done = c_decode_done code fit.result a.page.now a.thresholds.now lent a.margins.now a.counts.now _ _
    (e.outcome ∙ decode_read byte_pages a.q a.k a.b _ ps c.read_positions-n.ensures.read 1 fit.result a.page.now a.thresholds.now lent a.margins.now a.counts.now) in
    let given = done.0 ∙ ap (λ (b : Bool). c_decode_outcome code b a.page.now a.thresholds.now lent a.margins.now a.counts.now) fit.ensures in
    record { outcome = λ i. record { given = given i; counters = e.kept i }; falling = done.1.0; recovery = done.1.1 }
