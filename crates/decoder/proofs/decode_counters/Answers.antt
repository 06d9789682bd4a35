-- `decode_counters`: counters that fit are clear; it is `decode_blocks` in blocks of 1.
use Rattle.std.proofs.Common.{Bool, sym, ◌∙◌, ap}
use Rattle.model.specs.Calls.{decode_outcome, decode_counters_outcome}
use Rattle.model.specs.Code.{code_of}
use Rattle.model.specs.Decoder.{state_by}
use Rattle.theory.specs.Counters.{fit_clear}
use Rattle.theory.proofs.InBlocks.{decode_done}
use Rattle.decoder.proofs.decode_counters.Goals as goal

pub decode_blocks-requires : goal.decode_blocks-requires
decode_blocks-requires c = λ e. fit_clear _ (sym c.counters_fit-fit.ensures ∙ e)

pub returns : goal.returns
unfolding decode_counters_outcome
returns c =
    let a = c.args in
    let code = code_of a.q a.k a.b a.positions.now in
    let lent = state_by a.res.now a.syndrome.now a.difference.now in
    let e = c.decode_blocks.ensures in
    let done = decode_done code c.counters_fit-fit.result a.page.now a.thresholds.now lent a.margins.now _ _ e.outcome in
    let given = done.0 ∙ ap (λ (b : Bool). decode_outcome code b a.page.now a.thresholds.now lent a.margins.now) c.counters_fit-fit.ensures in
    record { outcome = λ i. record { given = given i; counters = e.kept i }; falling = done.1.0; recovery = done.1.1 }
