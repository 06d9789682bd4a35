-- `shape_answer` walks the list of tests: the sizes first, then 4 and 5.
use Rattle.std.proofs.Common.{sym, ◌∙◌}
use Rattle.std.proofs.lemmas.Result.{err_from_is_err_and}
use Rattle.refusals.specs.Numbers.{handed_on}
use Rattle.theory.specs.Answers.{refused_by, passed_by, nothing_applies}
use Rattle.table.specs.Table.{sized_answer, unsized_answer, shape_taken, fitting_limits}
use Rattle.table.proofs.shape_answer.Goals as goal

pub returns-in_err-sizes_answer : goal.returns-in_err-sizes_answer
returns-in_err-sizes_answer c =
    let p = err_from_is_err_and c.from_residual.result c.from_residual.ensures.1 in
    rw (p.1, p.2) (handed_on _ _ _ c.in_err-sizes_answer.ensures (unsized_answer _))

pub table_fits-requires : goal.table_fits-requires
table_fits-requires c = shape_taken _ (sym c.in_ok-sizes_answer.ensures)

pub returns-then-not-table_fits : goal.returns-then-not-table_fits
returns-then-not-table_fits c =
    sym (sized_answer _ (sym c.in_ok-sizes_answer.ensures) ∙ refused_by 4 _ _ (sym c.table_fits.ensures ∙ c.if-not-table_fits.true))

pub self_orthogonal-requires : goal.self_orthogonal-requires
self_orthogonal-requires c = fitting_limits _ (shape_taken _ (sym c.in_ok-sizes_answer.ensures)) (sym c.table_fits.ensures ∙ c.if-not-table_fits.false)

pub returns-then-not-self_orthogonal : goal.returns-then-not-self_orthogonal
returns-then-not-self_orthogonal c =
    sym (sized_answer _ (sym c.in_ok-sizes_answer.ensures)
    ∙ passed_by 4 _ _ (sym c.table_fits.ensures ∙ c.if-not-table_fits.false)
    ∙ refused_by 5 _ _ (sym c.self_orthogonal.ensures ∙ c.if-not-self_orthogonal.true))

pub returns : goal.returns
returns c =
    sym (sized_answer _ (sym c.in_ok-sizes_answer.ensures)
    ∙ passed_by 4 _ _ (sym c.table_fits.ensures ∙ c.if-not-table_fits.false)
    ∙ passed_by 5 _ _ (sym c.self_orthogonal.ensures ∙ c.if-not-self_orthogonal.false)
    ∙ nothing_applies)
