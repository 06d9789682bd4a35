-- `decode_answer` walks two lists of tests: the page's, then the thresholds'.
use Rattle.std.proofs.Common.{sym, ◌∙◌}
use Rattle.std.proofs.lemmas.Result.{err_from_is_err_and}
use Rattle.refusals.specs.Numbers.{handed_on}
use Rattle.theory.specs.Answers.{decode_refused, decode_passed}
use Rattle.answers.proofs.decode_answer.Goals as goal

pub returns-in_err-page_answer : goal.returns-in_err-page_answer
returns-in_err-page_answer c =
    let p = err_from_is_err_and c.from_residual.result c.from_residual.ensures.1 in
    rw (p.1, p.2) (handed_on _ _ _ c.in_err-page_answer.ensures (decode_refused _ _ _ _))

pub returns : goal.returns
returns c = c.threshold_answer.ensures ∙ sym (decode_passed _ _ _ _ (sym c.in_ok-page_answer.ensures))
