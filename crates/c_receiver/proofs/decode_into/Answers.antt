-- `decode_into`: where `decode_with` is done, the lent margins and counts have their lengths.
use Rattle.std.proofs.Common.{◌≡◌, Bool, ◌&&◌, ℕ, ◌*◌, eqb, length, refl, sym, ◌∙◌, ap}
use Rattle.model.specs.Calls.{decode_fits}
use Rattle.model.specs.Code.{Code, data_count}
use Rattle.model.specs.Decoder.{State, state_by}
use Rattle.params.specs.Codes.{code_by}
use Rattle.theory.specs.Answers.{and_true, eqb-true, decode_opens}
use Rattle.theory.specs.InBlocks.{blocks_answer, blocks_taken}
use Rattle.theory.specs.Outcomes.{outcome_number}
use Rattle.receiver.specs.Received.{ran_outcome}
use Rattle.c_receiver.proofs.decode_into.Goals as goal

-- both lengths fit where the number is 0
lengths : (c : Code) (block m n l : ℕ) (others bytes fits : Bool) (page thresholds : _) (lent : State) (number : ℕ) → number ≡ blocks_answer c block (fits && decode_fits c page lent) page thresholds
    → fits ≡ (others && bytes) → bytes ≡ (eqb m (4 * n) && eqb l 16) → n ≡ data_count c → number ≡ 0 → (m ≡ 4 * data_count c) × (l ≡ 16)
lengths c block m n l others bytes fits page thresholds lent number e f g d z =
    let o = decode_opens c fits page thresholds lent (blocks_taken c _ page thresholds block (sym e ∙ z)).0 in
    let b = and_true (eqb m (4 * n)) (eqb l 16) (sym g ∙ (and_true others bytes (sym f ∙ o.0)).1) in
    (eqb-true m (4 * n) b.0 ∙ ap (λ (x : ℕ). 4 * x) d, eqb-true l 16 b.1)

pub put_margins-requires : goal.put_margins-requires
unfolding ran_outcome
put_margins-requires c =
    let a = c.args in
    let e = c.in-Ok.ensures in (
      e.left.0,
      (lengths (code_by a.code a.positions.now) a.block (length a.margins.now) _ (length a.counts.now) a.others _ c.also.result a.page.now a.thresholds.now
          (state_by a.res.now a.syndrome.now a.difference.now) 0 (outcome_number _ _ _ _ _ e.outcome) c.also.ensures c.bytes_fit-bytes.ensures
          c.data_count-n.ensures refl).0,
      e.left.1,
    )

pub put_counts-requires : goal.put_counts-requires
unfolding ran_outcome
put_counts-requires c =
    let a = c.args in
    (lengths (code_by a.code a.positions.now) a.block (length a.margins.now) _ (length a.counts.now) a.others _ c.also.result a.page.now a.thresholds.now
    (state_by a.res.now a.syndrome.now a.difference.now) 0 (outcome_number _ _ _ _ _ c.in-Ok.ensures.outcome) c.also.ensures c.bytes_fit-bytes.ensures
    c.data_count-n.ensures refl).1
