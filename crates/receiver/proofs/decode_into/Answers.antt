-- `decode_into`: where `decode_with` is done, the lent margins have their length.
use Rattle.std.proofs.Common.{◌≡◌, ◌&&◌, ℕ, eqb, length, sym, ◌∙◌, ap}
use Rattle.model.specs.Calls.{decode_fits}
use Rattle.model.specs.Code.{Code, data_count}
use Rattle.model.specs.Decoder.{State, state_by}
use Rattle.params.specs.Codes.{code_by}
use Rattle.theory.specs.Answers.{and_true, eqb-true, decode_opens}
use Rattle.theory.specs.InBlocks.{blocks_answer, blocks_taken}
use Rattle.theory.specs.Outcomes.{outcome_number}
use Rattle.receiver.specs.Received.{ran_outcome}
use Rattle.receiver.proofs.decode_into.Goals as goal

pub fill-requires : goal.fill-requires
unfolding ran_outcome
fill-requires c =
    let a = c.args in
    let code : Code = code_by a.code a.positions.now in
    let lent : State = state_by a.res.now a.syndrome.now a.difference.now in
    let fits : c.also.result ≡ (a.others && eqb (length a.margins.now) (data_count code)) =
    c.also.ensures ∙ ap (λ (n : ℕ). a.others && eqb (length a.margins.now) n) c.data_count-n.ensures in
    let number : 0 ≡ blocks_answer code a.block (c.also.result && decode_fits code a.page.now lent) a.page.now a.thresholds.now =
    outcome_number _ _ _ _ _ c.in_ok-tally.ensures.outcome in
    let o = decode_opens code c.also.result a.page.now a.thresholds.now lent (blocks_taken code _ a.page.now a.thresholds.now a.block (sym number)).0 in
    let left = c.in_ok-tally.ensures.left in
    (left.0, eqb-true (length a.margins.now) (data_count code) (and_true a.others _ (sym fits ∙ o.0)).1, left.1)
