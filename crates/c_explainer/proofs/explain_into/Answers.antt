-- `explain_into`: what `explain_with` hands back, as bytes where it is done, is the C form's outcome.
use Rattle.std.proofs.Common.{◌&&◌, eqb, length, sym, ◌∙◌, ap, refl}
use Rattle.std.proofs.lemmas.Result.{err_from_is_err_and}
use Rattle.model.specs.Bytes.{explained_bytes, c_explain_outcome}
use Rattle.model.specs.Calls.{Explained, state_fits, explain_outcome}
use Rattle.model.specs.Decoder.{state_by}
use Rattle.params.specs.Codes.{code_by}
use Rattle.theory.specs.Answers.{eqb-true, pass_taken, explain_taken}
use Rattle.theory.specs.Outcomes.{left_as_lent, left_as_done, outcome_number, outcome_done}
use Rattle.refusals.specs.Numbers.{not_zero}
use Rattle.c_explainer.proofs.explain_into.Goals as goal

pub returns-in_err-told : goal.returns-in_err-told
unfolding explain_outcome c_explain_outcome
returns-in_err-told c =
    let p = err_from_is_err_and c.from_residual.result c.from_residual.ensures.1 in
    rw (p.1, p.2) (left_as_lent _ _ _ _ (outcome_number _ _ _ _ _ c.in_err-told.ensures) (not_zero _))

pub put_answer-requires : goal.put_answer-requires
unfolding explain_outcome
put_answer-requires c =
    let a = c.args in
    let code = code_by a.code a.positions.now in
    let read = state_by a.res.now a.syndrome.now a.difference.now in
    let fits = eqb (length a.explanation.now) 24 in
    let t = explain_taken code (fits && state_fits code read) a.threshold a.symbol read (sym (outcome_number _ _ _ _ _ c.in_ok-told.ensures)) in
    eqb-true _ _ (pass_taken code fits a.threshold read t.0).0

pub returns : goal.returns
unfolding explain_outcome c_explain_outcome
returns c =
    let o = c.in_ok-told.ensures in
    left_as_done _ _ _ _ (outcome_number _ _ _ _ _ o) (c.put_answer.ensures ∙ ap (λ (e : Explained). explained_bytes e) (outcome_done _ _ _ _ _ o refl))
