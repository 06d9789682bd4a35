-- `encode_outer_answer` walks two lists of tests: the page's, then that of the blocks.
use Rattle.std.proofs.Common.{refl, sym, ◌∙◌}
use Rattle.std.proofs.lemmas.Result.{err_from_is_err_and}
use Rattle.model.specs.Calls.{page_tests, table_tests, size_tests}
use Rattle.refusals.specs.Numbers.{handed_on}
use Rattle.theory.specs.Answers.{refused_first, passed_first, page_taken}
use Rattle.answers.proofs.encode_outer_answer.Goals as goal

pub returns-in_err-page_answer : goal.returns-in_err-page_answer
returns-in_err-page_answer c =
    let p = err_from_is_err_and c.from_residual.result c.from_residual.ensures.1 in
    rw (p.1, p.2) (handed_on _ _ _ c.in_err-page_answer.ensures (refused_first _ _))

pub block_answer-requires : goal.block_answer-requires
block_answer-requires c = (page_taken _ _ _ (sym c.in_ok-page_answer.ensures)).limits.table.sizes.data-high

pub returns : goal.returns
unfolding page_tests table_tests size_tests
returns c = c.block_answer.ensures _ ∙ sym (passed_first _ _ refl (sym c.in_ok-page_answer.ensures))
