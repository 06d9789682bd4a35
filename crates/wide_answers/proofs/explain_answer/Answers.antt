use Rattle.std.proofs.Common.{sym, arith}
use Rattle.std.proofs.lemmas.Result.{err_from_is_err_and}
use Rattle.refusals.specs.Numbers.{handed_on}
use Rattle.theory.specs.Answers.{explain_refused, explain_beyond, explain_takes}
use Rattle.wide_symbols.specs.Codes.{wide_code_by}
use Rattle.wide_answers.proofs.explain_answer.Goals as goal

pub returns-in_err-pass_answer : goal.returns-in_err-pass_answer
returns-in_err-pass_answer g c = λ st low.
    let code = wide_code_by g.S.WideSymbol.profile c.args.code c.args.positions.now in
    let p = err_from_is_err_and c.from_residual.result c.from_residual.ensures.1 in
    rw (p.1, p.2) (handed_on _ _ _ (c.in_err-pass_answer.ensures st low) (explain_refused code c.args.fits c.args.threshold c.args.symbol st))

pub returns-then-n-symbol : goal.returns-then-n-symbol
returns-then-n-symbol g c = λ st low.
    let code = wide_code_by g.S.WideSymbol.profile c.args.code c.args.positions.now in
    sym (explain_beyond code c.args.fits c.args.threshold c.args.symbol st (sym (c.in_ok-pass_answer.ensures st low)) (omega (arith, c.data_count-n.ensures, c.if-n-symbol.true)))

pub returns : goal.returns
returns g c = λ st low.
    let code = wide_code_by g.S.WideSymbol.profile c.args.code c.args.positions.now in
    sym (explain_takes code c.args.fits c.args.threshold c.args.symbol st (sym (c.in_ok-pass_answer.ensures st low)) (omega (arith, c.data_count-n.ensures, c.if-n-symbol.false)))
