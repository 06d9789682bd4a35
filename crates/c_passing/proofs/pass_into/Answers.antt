-- `pass_into`: what `pass_with` leaves, with the changes as bytes where it is done, is the C form's outcome.
use Rattle.std.proofs.Common.{ℕ, eqb, length, sym, ◌∙◌, ap, refl}
use Rattle.std.proofs.lemmas.Result.{err_from_is_err_and}
use Rattle.model.specs.Bytes.{word_of, c_pass_outcome}
use Rattle.model.specs.Calls.{Passed, pass_outcome}
use Rattle.model.specs.Decoder.{state_by}
use Rattle.params.specs.Codes.{code_by}
use Rattle.theory.specs.Answers.{eqb-true, pass_taken}
use Rattle.theory.specs.Outcomes.{left_as_lent, left_as_done, outcome_number, outcome_lent, outcome_done}
use Rattle.refusals.specs.Numbers.{number, not_zero}
use Rattle.c_passing.proofs.pass_into.Goals as goal

pub returns-in_err-count : goal.returns-in_err-count
unfolding pass_outcome c_pass_outcome
returns-in_err-count c =
    let o = c.in_err-count.ensures.outcome in
    let n = number c.in_err-count.field-0.0 in
    let p = err_from_is_err_and c.from_residual.result c.from_residual.ensures.1 in
    rw (p.1, p.2)
    (ap (λ (x : Passed ℕ). record { number = n; left = record { state = x.state; changes = c.args.changes.now } }) (outcome_lent _ _ _ _ _ o (not_zero _))
    ∙ left_as_lent _ _ _ n (outcome_number _ _ _ _ _ o) (not_zero _))

pub put_changes-requires : goal.put_changes-requires
unfolding pass_outcome
put_changes-requires c =
    let a = c.args in
    eqb-true _ _ (pass_taken (code_by a.code a.positions.now) (eqb (length a.changes.now) 4) a.threshold (state_by a.res.now a.syndrome.now a.difference.now)
    (sym (outcome_number _ _ _ _ _ c.in_ok-count.ensures.outcome))).0

pub returns : goal.returns
unfolding pass_outcome c_pass_outcome
returns c =
    let o = c.in_ok-count.ensures.outcome in
    let made = outcome_done _ _ _ _ _ o refl in
    left_as_done _ _ _ _ (outcome_number _ _ _ _ _ o)
    (λ i. record { state = (made i).state; changes = (c.put_changes.ensures ∙ ap (λ (x : Passed ℕ). word_of x.changes) made) i })
