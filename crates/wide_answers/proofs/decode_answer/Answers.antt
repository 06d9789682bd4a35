use Rattle.std.proofs.Common.{sym, ◌∙◌}
use Rattle.std.proofs.lemmas.Result.{err_from_is_err_and}
use Rattle.refusals.specs.Numbers.{handed_on}
use Rattle.theory.specs.Answers.{decode_refused, decode_passed}
use Rattle.wide_symbols.specs.Codes.{wide_code_by}
use Rattle.wide_answers.proofs.decode_answer.Goals as goal

pub returns-in_err-page_answer : goal.returns-in_err-page_answer
returns-in_err-page_answer g c = λ page low.
    let code = wide_code_by g.S.WideSymbol.profile c.args.code c.args.positions.now in
    let p = err_from_is_err_and c.from_residual.result c.from_residual.ensures.1 in
    rw (p.1, p.2) (handed_on _ _ _ (c.in_err-page_answer.ensures page low) (decode_refused code c.args.fits page c.args.thresholds.now))

pub returns : goal.returns
returns g c = λ page low.
    let code = wide_code_by g.S.WideSymbol.profile c.args.code c.args.positions.now in
    c.threshold_answer.ensures ∙ sym (decode_passed code c.args.fits page c.args.thresholds.now (sym (c.in_ok-page_answer.ensures page low)))
