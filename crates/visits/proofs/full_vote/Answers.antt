-- `full_vote`: on bit pages the ones decide; else the quick test settles that nothing is subtracted, or the part of the buffer that is voted
-- on holds the estimates.
use Rattle.std.proofs.Common.{List, ℕ, ◌+◌, ap, refl, sym, ◌∙◌, subst, arith, length, length-append}
use mathlib.Core.Bool.{Bool, not}
use lib.Dec.{T, nltb→le}
use lib.Seq.{length-take-le}
use Rattle.checks.specs.Checks.{estimates_by}
use Rattle.checks.specs.Estimates.{estimates_length, gathered}
use Rattle.model.specs.Vote.{lead_count}
use Rattle.ones.specs.Words.{estimates_low}
use Rattle.visits.specs.Decisions.{to_subtract, subtract_bit, subtract_by_lead}
use Rattle.visits.proofs.full_vote.Goals as goal

pub decided_at-requires : goal.decided_at-requires
decided_at-requires c = let r = c.requires in let low = r.5 c.if-bits.true in (r.0, r.1, low.0, low.1)

pub returns-then-bits-clause-subtracts : goal.returns-then-bits-clause-subtracts
returns-then-bits-clause-subtracts c =
    let a = c.args in
    let low = c.requires.5 c.if-bits.true in
    c.decided_at.ensures
    ∙ subtract_bit a.threshold (estimates_by a.code.k a.positions.now a.j a.own a.syndrome.now) (estimates_low a.own a.syndrome.now _ low.0 low.1) (omega arith)

pub returns-then-not-lead_above-clause-subtracts : goal.returns-then-not-lead_above-clause-subtracts
returns-then-not-lead_above-clause-subtracts c =
    let a = c.args in
    let es = estimates_by a.code.k a.positions.now a.j a.own a.syndrome.now in
    subtract_by_lead a.threshold es
    (omega (
      arith,
      c.requires.2,
      nltb→le (a.zeros + a.threshold) (lead_count es)
          (subst (λ (w : Bool). T (not w)) (sym (c.if-not-lead_above.true) ∙ c.lead_above.ensures) tt),
    ))

pub slice_bounds-gather-end : goal.slice_bounds-gather-end
slice_bounds-gather-end c = sym (length-take-le _ _ (omega (arith, c.requires.0.J-high)))

pub gather-requires : goal.gather-requires
gather-requires c = let r = c.requires in (r.0, r.1, length-take-le _ _ (omega (arith, r.0.J-high)))

pub slice_bounds-es-end-2 : goal.slice_bounds-es-end-2
slice_bounds-es-end-2 c =
    let a = c.args in
    simp length-append (omega (arith, ap length c.gather.ensures, estimates_length a.code.k a.positions.now a.j a.own a.syndrome.now))

pub slice_bounds-decided-end : goal.slice_bounds-decided-end
slice_bounds-decided-end c = sym (gathered c.requires.0 c.args.j c.args.own _ _ _ c.gather.ensures refl).len

pub decided-requires : goal.decided-requires
decided-requires c =
    let g = gathered c.requires.0 c.args.j c.args.own _ _ _ c.gather.ensures refl in
    (g.low, g.high, c.requires.4)

pub returns-clause-subtracts : goal.returns-clause-subtracts
returns-clause-subtracts c =
    let g = gathered c.requires.0 c.args.j c.args.own _ _ _ c.gather.ensures refl in
    c.decided.ensures.subtracts ∙ ap (λ (l : List ℕ). to_subtract c.args.threshold l) g.same
