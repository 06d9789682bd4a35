-- `blocks_answer` walks two lists of tests: decode's, then, but for blocks of 1, that of the blocks.
use Rattle.std.proofs.Common.{ℕ, refl, ap, sym, ◌∙◌}
use Rattle.std.proofs.lemmas.Result.{err_from_is_err_and}
use Rattle.model.specs.Calls.{first_that_applies, decode_answer, size_tests, table_tests, page_tests, threshold_tests}
use Rattle.params.specs.Codes.{code_by}
use Rattle.refusals.specs.Numbers.{handed_on}
use Rattle.theory.specs.Answers.{taken_first, page_taken}
use Rattle.theory.specs.InBlocks.{blocks_answer, one_test, other_test, blocks_refused, blocks_passed}
use Rattle.answers.proofs.blocks_answer.Goals as goal

pub returns-in_err-decode_answer : goal.returns-in_err-decode_answer
returns-in_err-decode_answer c =
    let p = err_from_is_err_and c.from_residual.result c.from_residual.ensures.1 in
    rw (p.1, p.2) (handed_on _ _ _ c.in_err-decode_answer.ensures (blocks_refused _ _ _ _ _))

pub returns-then-block-eq1 : goal.returns-then-block-eq1
returns-then-block-eq1 c =
    let code = code_by c.args.code c.args.positions.now in
    sym (ap (λ (n : ℕ). blocks_answer code n c.args.fits c.args.page.now c.args.thresholds.now) c.if-block-eq1.true
    ∙ blocks_passed _ _ _ _ 1 (sym c.in_ok-decode_answer.ensures)
    ∙ one_test code)

pub block_answer-requires : goal.block_answer-requires
unfolding decode_answer page_tests table_tests size_tests
block_answer-requires c =
    let code = code_by c.args.code c.args.positions.now in
    let first = (taken_first (page_tests code c.args.fits c.args.page.now) (threshold_tests c.args.thresholds.now) refl (sym c.in_ok-decode_answer.ensures)).0 in
    (page_taken code c.args.fits c.args.page.now first).limits.table.sizes.data-high

pub returns : goal.returns
returns c =
    c.block_answer.ensures _ ∙ sym (blocks_passed _ _ _ _ _ (sym c.in_ok-decode_answer.ensures) ∙ ap first_that_applies (other_test _ _ c.if-block-eq1.false))
