-- `page_answer` walks the list of tests: the table's first, then 6 and 7.
use Rattle.std.proofs.Common.{sym, ◌∙◌, arith}
use Rattle.std.proofs.lemmas.Result.{err_from_is_err_and}
use Rattle.refusals.specs.Numbers.{handed_on}
use Rattle.theory.specs.Answers.{refused_by, passed_by, nothing_applies, table_usable, page_refused, page_passed}
use Rattle.answers.proofs.page_answer.Goals as goal

pub returns-in_err-table_answer : goal.returns-in_err-table_answer
returns-in_err-table_answer c =
    let p = err_from_is_err_and c.from_residual.result c.from_residual.ensures.1 in
    rw (p.1, p.2) (handed_on _ _ _ c.in_err-table_answer.ensures (page_refused _ _ _))

pub returns-then-not-fits : goal.returns-then-not-fits
returns-then-not-fits c = sym (page_passed _ _ _ (sym c.in_ok-table_answer.ensures) ∙ refused_by 6 _ _ c.if-not-fits.true)

pub all_below-requires : goal.all_below-requires
all_below-requires c = omega (arith, (table_usable _ (sym c.in_ok-table_answer.ensures)).q_low)

pub returns-then-not-all_below : goal.returns-then-not-all_below
returns-then-not-all_below c =
    sym (page_passed _ _ _ (sym c.in_ok-table_answer.ensures)
    ∙ passed_by 6 _ _ c.if-not-fits.false
    ∙ refused_by 7 _ _ (sym c.all_below.ensures ∙ c.if-not-all_below.true))

pub returns : goal.returns
returns c =
    sym (page_passed _ _ _ (sym c.in_ok-table_answer.ensures)
    ∙ passed_by 6 _ _ c.if-not-fits.false
    ∙ passed_by 7 _ _ (sym c.all_below.ensures ∙ c.if-not-all_below.false)
    ∙ nothing_applies)
