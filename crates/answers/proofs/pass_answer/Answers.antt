-- `pass_answer` walks the list of tests: those of the page with the result for input, then 7 of S and of D, then 9.
use Rattle.std.proofs.Common.{sym, ◌∙◌, arith}
use Rattle.std.proofs.lemmas.Result.{err_from_is_err_and}
use Rattle.refusals.specs.Numbers.{handed_on}
use Rattle.theory.specs.Answers.{page_taken, pass_refused, pass_syndrome, pass_difference, pass_high, pass_none}
use Rattle.answers.proofs.pass_answer.Goals as goal

pub returns-in_err-page_answer : goal.returns-in_err-page_answer
returns-in_err-page_answer c =
    let p = err_from_is_err_and c.from_residual.result c.from_residual.ensures.1 in
    rw (p.1, p.2) (handed_on _ _ _ c.in_err-page_answer.ensures (pass_refused _ _ _ _))

pub all_below-requires : goal.all_below-requires
all_below-requires c = omega (arith, (page_taken _ _ _ (sym c.in_ok-page_answer.ensures)).usable.q_low)

pub returns-then-not-all_below : goal.returns-then-not-all_below
returns-then-not-all_below c = sym (pass_syndrome _ _ _ _ (sym c.in_ok-page_answer.ensures) (sym c.all_below.ensures ∙ c.if-not-all_below.true))

pub all_below-requires-2 : goal.all_below-requires-2
all_below-requires-2 c = omega (arith, (page_taken _ _ _ (sym c.in_ok-page_answer.ensures)).usable.q_low)

pub returns-then-not-all_below-2 : goal.returns-then-not-all_below-2
returns-then-not-all_below-2 c =
    sym (pass_difference _ _ _ _ (sym c.in_ok-page_answer.ensures) (sym c.all_below.ensures ∙ c.if-not-all_below.false) (sym c.all_below-2.ensures ∙ c.if-not-all_below-2.true))

pub returns-then-threshold-gt32 : goal.returns-then-threshold-gt32
returns-then-threshold-gt32 c =
    sym (pass_high _ _ _ _ (sym c.in_ok-page_answer.ensures) (sym c.all_below.ensures ∙ c.if-not-all_below.false) (sym c.all_below-2.ensures ∙ c.if-not-all_below-2.false) (omega arith))

pub returns : goal.returns
returns c =
    sym (pass_none _ _ _ _ (sym c.in_ok-page_answer.ensures) (sym c.all_below.ensures ∙ c.if-not-all_below.false) (sym c.all_below-2.ensures ∙ c.if-not-all_below-2.false) (omega arith))
