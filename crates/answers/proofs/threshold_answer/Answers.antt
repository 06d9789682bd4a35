-- `threshold_answer`: a return names the tests passed on the way to it, 8 before 9.
use Rattle.std.proofs.Common.{sym, ◌∙◌}
use Rattle.model.specs.Calls.{threshold_tests}
use Rattle.theory.specs.Answers.{refused_by, passed_by, nothing_applies}
use Rattle.answers.proofs.threshold_answer.Goals as goal

pub returns-then-not-within : goal.returns-then-not-within
unfolding threshold_tests
returns-then-not-within c = sym (refused_by 8 _ _ (sym c.within.ensures ∙ c.if-not-within.true))

pub returns-then-not-all_small : goal.returns-then-not-all_small
unfolding threshold_tests
returns-then-not-all_small c =
    sym (passed_by 8 _ _ (sym c.within.ensures ∙ c.if-not-within.false) ∙ refused_by 9 _ _ (sym c.all_small.ensures ∙ c.if-not-all_small.true))

pub returns : goal.returns
unfolding threshold_tests
returns c =
    sym (passed_by 8 _ _ (sym c.within.ensures ∙ c.if-not-within.false)
    ∙ passed_by 9 _ _ (sym c.all_small.ensures ∙ c.if-not-all_small.false)
    ∙ nothing_applies)
