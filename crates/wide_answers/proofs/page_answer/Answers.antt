use Rattle.std.proofs.Common.{sym, ◌∙◌}
use Rattle.std.proofs.lemmas.Result.{err_from_is_err_and}
use Rattle.refusals.specs.Numbers.{not_zero}
use Rattle.wide_calls.specs.Later.{page_shape, page-six, page_none}
use Rattle.wide_answers.specs.Own.{own, shape_own}
use Rattle.wide_symbols.specs.Codes.{wide_code_by}
use Rattle.wide_answers.proofs.page_answer.Goals as goal

pub returns-in_err-shape_answer : goal.returns-in_err-shape_answer
returns-in_err-shape_answer g c = λ input low.
    let f = g.S.WideSymbol.profile in
    let ps = c.args.positions.now in
    let p = err_from_is_err_and c.from_residual.result c.from_residual.ensures.1 in
    let shaped = c.in_err-shape_answer.ensures ∙ shape_own f c.args.code ps in
    rw (p.1, p.2) (shaped ∙ page_shape (wide_code_by f c.args.code ps) (own g.met.S.WideSymbol.is_wide c.args.code ps).one c.args.fits input low (λ z. not_zero _ (shaped ∙ z)))

pub returns-then-not-fits : goal.returns-then-not-fits
returns-then-not-fits g c = λ input low.
    let f = g.S.WideSymbol.profile in
    let ps = c.args.positions.now in
    page-six (wide_code_by f c.args.code ps) (own g.met.S.WideSymbol.is_wide c.args.code ps).one c.args.fits input low
    (sym (c.in_ok-shape_answer.ensures ∙ shape_own f c.args.code ps)) c.if-not-fits.true

pub returns : goal.returns
returns g c = λ input low.
    let f = g.S.WideSymbol.profile in
    let ps = c.args.positions.now in
    page_none (wide_code_by f c.args.code ps) (own g.met.S.WideSymbol.is_wide c.args.code ps).one c.args.fits input low
    (sym (c.in_ok-shape_answer.ensures ∙ shape_own f c.args.code ps)) c.if-not-fits.false
