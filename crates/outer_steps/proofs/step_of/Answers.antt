-- `step_of`: the part that is summed is the block, and its last symbol's reliability is compared with the least of the others.
use Rattle.std.proofs.Common.{◌≡◌, ℕ, ◌+◌, ◌-◌, ◌/◌, ◌≤◌, Bool, true, false, sym, ◌∙◌, arith}
use lib.IntN.{ℤ}
use lib.Signed.{lt_z}
use Rattle.model.specs.Code.{Code, data_count}
use Rattle.model.specs.Decoder.{State, state_by, estimates}
use Rattle.model.specs.Outer.{reliability_of}
use Rattle.params.specs.Codes.{code_by}
use Rattle.theory.specs.Integers.{least_is}
use Rattle.blocks.specs.Blocks.{part_summed}
use Rattle.margins.specs.Margins.{read_back}
use Rattle.visits.specs.Progress.{Ready, at_table}
use Rattle.outer_steps.specs.Blocks.{BlockAt, sum_lent, block-end, at_block, step_zero, step_made, step_left}
use Rattle.outer_steps.proofs.step_of.Goals as goal

-- the block lies in the data
ends : {c : Code} {L bound at : ℕ} {st : State} → Ready c st → BlockAt c L bound at → (at + L ≤ data_count c) × (data_count c ≤ 4096)
ends {c} {L} {bound} {at} r b = (omega (arith, b.whole, block-end c L b.fits _ (at_block c L b.fits at b.whole b.inside)), r.usable.table.sizes.data-high)

pub overflow_add-end : goal.overflow_add-end
overflow_add-end c = omega (arith, ends c.requires.0 c.requires.1)

pub slice_bounds-sum_of-end : goal.slice_bounds-sum_of-end
slice_bounds-sum_of-end c = omega (arith, ends c.requires.0 c.requires.1, c.requires.0.sized.len_result)

pub sum_of-sum-requires : goal.sum_of-sum-requires
sum_of-sum-requires c =
    let a = c.args in
    let r = c.requires.0 in
    let n = ends r c.requires.1 in
    part_summed a.code.q a.block a.at a.bound a.res.now (omega (arith, r.usable.q_low)) r.bytes r.sized.in_result
    (omega (arith, n, r.sized.len_result)) (omega (arith, n)) c.requires.1.doubled c.requires.1.high

pub returns-then-sum-eq0 : goal.returns-then-sum-eq0
returns-then-sum-eq0 c =
    let a = c.args in
    let r = c.requires.0 in
    step_zero (code_by a.code a.positions.now) _ _ (state_by a.res.now a.s.now a.d.now) _
    (c.sum_of-sum.ensures ∙ sum_lent a.code.q a.block (a.at / a.block) a.at a.res.now c.requires.1.whole (omega (arith, ends r c.requires.1, r.sized.len_result))) c.if-sum-eq0.true

pub weakest_of-symbol-requires : goal.weakest_of-symbol-requires
weakest_of-symbol-requires c =
    let r = c.requires in
    (at_table _ _ r.0, r.0.sized.len_difference, omega (arith, r.1.fits.low), omega (arith, ends r.0 r.1))

pub reliability_at-least-requires : goal.reliability_at-least-requires
reliability_at-least-requires c =
    let a = c.args in
    let r = c.requires in
    let least = least_is (a.at + a.block - 1 - a.at) (λ p. reliability_of (code_by a.code a.positions.now) c.sum_of-sum.result (state_by a.res.now a.s.now a.d.now) (a.at + p)) (omega (arith, r.1.fits.low)) in
    (at_table _ _ r.0, r.0.sized.len_difference, omega (arith, c.weakest_of-symbol.ensures a.res.now, least.below, ends r.0 r.1))

pub reliability_at-other-requires : goal.reliability_at-other-requires
reliability_at-other-requires c =
    let r = c.requires in
    (at_table _ _ r.0, r.0.sized.len_difference, omega (arith, r.1.fits.low, ends r.0 r.1))

-- the two reliabilities, as they are compared
compared : {x y v w : ℤ} {b : Bool} → v ≡ x → w ≡ y → lt_z v w ≡ b → lt_z x y ≡ b
compared e f h = (λ i. lt_z (sym e i) (sym f i)) ∙ h

pub returns-then-least-other : goal.returns-then-least-other
unfolding estimates
returns-then-least-other c =
    let a = c.args in
    let r = c.requires.0 in
    let f = c.requires.1 in
    step_made (code_by a.code a.positions.now) a.block (a.at / a.block) (state_by a.res.now a.s.now a.d.now) _
    (c.sum_of-sum.ensures ∙ sum_lent a.code.q a.block (a.at / a.block) a.at a.res.now f.whole (omega (arith, ends r f, r.sized.len_result)))
    c.if-sum-eq0.false a.at _ _ f.whole (omega (arith, f.whole, f.fits.low)) (c.weakest_of-symbol.ensures a.res.now)
    (compared (read_back _ c.reliability_at-least.type_inv ∙ c.reliability_at-least.ensures) (read_back _ c.reliability_at-other.type_inv ∙ c.reliability_at-other.ensures) c.if-least-other.true)

pub returns : goal.returns
unfolding estimates
returns c =
    let a = c.args in
    let r = c.requires.0 in
    let f = c.requires.1 in
    step_left (code_by a.code a.positions.now) a.block (a.at / a.block) (state_by a.res.now a.s.now a.d.now) _
    (c.sum_of-sum.ensures ∙ sum_lent a.code.q a.block (a.at / a.block) a.at a.res.now f.whole (omega (arith, ends r f, r.sized.len_result)))
    c.if-sum-eq0.false a.at _ _ f.whole (omega (arith, f.whole, f.fits.low)) (c.weakest_of-symbol.ensures a.res.now)
    (compared (read_back _ c.reliability_at-least.type_inv ∙ c.reliability_at-least.ensures) (read_back _ c.reliability_at-other.type_inv ∙ c.reliability_at-other.ensures) c.if-least-other.false)
