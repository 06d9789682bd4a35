-- `table_answer`: test 1, and then those of the shape.
use Rattle.std.proofs.Common.{sym, ◌∙◌}
use Rattle.model.specs.Calls.{table_answer, table_tests, size_tests}
use Rattle.theory.specs.Answers.{refused_by, passed_by}
use Rattle.table.proofs.table_answer.Goals as goal

pub returns-then-not-q_fits : goal.returns-then-not-q_fits
unfolding table_answer table_tests size_tests
returns-then-not-q_fits c = sym (refused_by 1 _ _ (sym c.q_fits.ensures ∙ c.if-not-q_fits.true))

pub returns : goal.returns
unfolding table_answer table_tests size_tests
returns c = c.shape_answer.ensures ∙ sym (passed_by 1 _ _ (sym c.q_fits.ensures ∙ c.if-not-q_fits.false))
