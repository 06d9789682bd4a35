-- `explain_answer` walks the tests of a pass, and then 11.
use Rattle.std.proofs.Common.{sym, arith}
use Rattle.std.proofs.lemmas.Result.{err_from_is_err_and}
use Rattle.refusals.specs.Numbers.{handed_on}
use Rattle.theory.specs.Answers.{explain_refused, explain_beyond, explain_takes}
use Rattle.answers.proofs.explain_answer.Goals as goal

pub returns-in_err-pass_answer : goal.returns-in_err-pass_answer
returns-in_err-pass_answer c =
    let p = err_from_is_err_and c.from_residual.result c.from_residual.ensures.1 in
    rw (p.1, p.2) (handed_on _ _ _ c.in_err-pass_answer.ensures (explain_refused _ _ _ _ _))

pub returns-then-data_count-symbol : goal.returns-then-data_count-symbol
returns-then-data_count-symbol c = sym (explain_beyond _ _ _ _ _ (sym c.in_ok-pass_answer.ensures) (omega arith))

pub returns : goal.returns
returns c = sym (explain_takes _ _ _ _ _ (sym c.in_ok-pass_answer.ensures) (omega arith))
