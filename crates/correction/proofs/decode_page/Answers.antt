-- `decode_page`: the page is opened; at distance 0 its passes are idle, else the passes run from the opened page are the decode.
use Rattle.std.proofs.Common.{refl, sym, ◌∙◌, ap, subst, arith}
use Rattle.model.specs.Decoder.{State}
use Rattle.params.specs.Codes.{in_bytes, bits_two, code_by}
use Rattle.tally.specs.declared.Tally.{Tally}
use Rattle.visits.specs.Progress.{Ready, both}
use Rattle.passes.specs.Runs.{run_of}
use Rattle.correction.specs.Decoded.{opened_ready, clean_decoded, run_decoded, run_lengths}
use Rattle.correction.proofs.decode_page.Goals as goal

pub returns-then-start-eq0-clause-done : goal.returns-then-start-eq0-clause-done
returns-then-start-eq0-clause-done c =
    let a = c.args in
    let o = c.open_page-start.ensures in
    let opens = c.requires.0.opens in
    rw (c.passed.ensures, c.opened.ensures)
    (both o.state refl
    ∙ clean_decoded (code_by a.code a.positions.now) a.page.now opens.usable opens.whole (sym o.distance ∙ c.if-start-eq0.true) a.thresholds.now _ c.idle_passes-idle.ensures)

pub run-ran-requires : goal.run-ran-requires
run-ran-requires c =
    let a = c.args in
    let r = c.requires in
    let opens = r.0.opens in
    let code = code_by a.code a.positions.now in (
      subst (λ (st : State). Ready code st) (sym c.open_page-start.ensures.state)
          (opened_ready code a.page.now opens.usable opens.whole (let h = in_bytes a.code.bits in omega (arith, h, opens.high))),
      r.0.few,
      ap (λ (t : Tally). t.changes) c.opened-opened.ensures,
      r.1,
      r.2,
      r.3,
      λ e. bits_two a.code.bits a.code.q opens.high (sym r.4 ∙ e),
    )

pub state_weight-requires : goal.state_weight-requires
state_weight-requires c =
    let a = c.args in
    let opens = c.requires.0.opens in
    run_lengths (code_by a.code a.positions.now) a.page.now opens.usable opens.whole a.thresholds.now _ _
    (c.run-ran.ensures.ran ∙ ap (run_of _ _) (both c.open_page-start.ensures.state c.opened-opened.ensures))

pub returns-clause-done : goal.returns-clause-done
returns-clause-done c =
    let a = c.args in
    let o = c.open_page-start.ensures in
    let opens = c.requires.0.opens in
    let code = code_by a.code a.positions.now in
    rw c.ended.ensures
    (run_decoded code a.page.now opens.usable opens.whole a.thresholds.now _ _
    (c.run-ran.ensures.ran ∙ ap (run_of code a.thresholds.now) (both o.state c.opened-opened.ensures)) _ o.distance c.state_weight.ensures)
