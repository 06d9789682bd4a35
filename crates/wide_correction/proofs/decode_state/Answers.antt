use Rattle.std.proofs.Common.{◌++◌, ap, refl, sym, subst, ◌∙◌, arith}
use Rattle.model.specs.Code.{highest}
use Rattle.model.specs.Decoder.{State}
use Rattle.tally.specs.declared.Tally.{Tally}
use Rattle.visits.specs.Progress.{ReadyIn, both}
use Rattle.passes.specs.Runs.{run_of}
use Rattle.correction.specs.Decoded.{opened_ready, clean_decoded, run_decoded}
use Rattle.wide_symbols.specs.Codes.{wide_code_by}
use Rattle.wide_correction.proofs.decode_state.Goals as goal

pub returns-then-start-eq0-clause-done : goal.returns-then-start-eq0-clause-done
returns-then-start-eq0-clause-done g c =
    let a = c.args in
    let f = g.S.Symbol.numbers in
    let o = c.open_state-start.ensures in
    let opens = c.requires.0.opens in
    rw (c.passed.ensures, c.opened.ensures)
    (both o.state refl
    ∙ clean_decoded (wide_code_by g.S.WideSymbol.profile a.code a.positions.now) (f a.res.now ++ f a.s.now) opens.usable opens.whole
    (sym o.distance ∙ c.if-start-eq0.true) a.thresholds.now _ c.idle_passes-idle.ensures)

pub run-ran-requires : goal.run-ran-requires
run-ran-requires g c =
    let a = c.args in
    let f = g.S.Symbol.numbers in
    let code = wide_code_by g.S.WideSymbol.profile a.code a.positions.now in
    let opens = c.requires.0.opens in (
      subst (λ (st : State). ReadyIn (highest g.S.WideSymbol.profile) code st) (sym c.open_state-start.ensures.state)
          (opened_ready code (f a.res.now ++ f a.s.now) opens.usable opens.whole (omega arith)),
      c.requires.0.few,
      ap (λ (t : Tally). t.changes) c.opened-opened.ensures,
      c.requires.1,
      c.requires.2,
      c.requires.3,
    )

pub returns-clause-done : goal.returns-clause-done
returns-clause-done g c =
    let a = c.args in
    let f = g.S.Symbol.numbers in
    let code = wide_code_by g.S.WideSymbol.profile a.code a.positions.now in
    let o = c.open_state-start.ensures in
    let opens = c.requires.0.opens in
    rw c.ended.ensures
    (run_decoded code (f a.res.now ++ f a.s.now) opens.usable opens.whole a.thresholds.now _ _
    (c.run-ran.ensures.ran ∙ ap (run_of code a.thresholds.now) (both o.state c.opened-opened.ensures)) _ o.distance c.state_weight.ensures)
