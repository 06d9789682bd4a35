use Rattle.std.proofs.Common.{refl, arith}
use Rattle.std.proofs.lemmas.Result.{err_from_is_err_and}
use Rattle.refusals.specs.Numbers.{not_zero}
use Rattle.model.specs.Calls.{state_symbols}
use Rattle.wide_calls.specs.Later.{pass_page, pass_nine, pass_zero}
use Rattle.wide_symbols.specs.Codes.{wide_code_by}
use Rattle.wide_answers.proofs.pass_answer.Goals as goal

pub returns-in_err-page_answer : goal.returns-in_err-page_answer
returns-in_err-page_answer g c = λ st low.
    let code = wide_code_by g.S.WideSymbol.profile c.args.code c.args.positions.now in
    let p = err_from_is_err_and c.from_residual.result c.from_residual.ensures.1 in
    rw (p.1, p.2) (pass_page code c.args.fits c.args.threshold st _ (c.in_err-page_answer.ensures (state_symbols st) low) (not_zero _))

pub returns-then-threshold-gt32 : goal.returns-then-threshold-gt32
returns-then-threshold-gt32 g c = λ st low.
    let code = wide_code_by g.S.WideSymbol.profile c.args.code c.args.positions.now in
    pass_nine code c.args.fits c.args.threshold st _ (c.in_ok-page_answer.ensures (state_symbols st) low) refl (omega (arith, c.if-threshold-gt32.true))

pub returns : goal.returns
returns g c = λ st low.
    let code = wide_code_by g.S.WideSymbol.profile c.args.code c.args.positions.now in
    pass_zero code c.args.fits c.args.threshold st _ (c.in_ok-page_answer.ensures (state_symbols st) low) refl (omega (arith, c.if-threshold-gt32.false))
