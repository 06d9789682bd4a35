-- `correct_page`: what the passes leave, the outer steps from there, and the counts of both.
use Rattle.std.proofs.Common.{ℕ, ap, refl, ◌∙◌, arith}
use Rattle.model.specs.Decoder.{State, state_by, state_weight}
use Rattle.params.specs.Codes.{in_bytes, code_by}
use Rattle.outer_steps.specs.Blocks.{Stepped}
use Rattle.tally.specs.declared.Tally.{Tally}
use Rattle.visits.specs.Progress.{progress, both}
use Rattle.zeros.specs.Counts.{zero_counts}
use Rattle.outer_correction.specs.Corrected.{passed_ready, one_corrected, clean_corrected, stepped-few, left-corrected, steps-corrected}
use Rattle.outer_correction.proofs.correct_page.Goals as goal

-- a tally with its distance at the end
abbrev ended : ℕ → Tally → Tally
ended w t = record { passes = t.passes; changes = t.changes; start = t.start; end = w }

pub outer_steps-steps-requires : goal.outer_steps-steps-requires
outer_steps-steps-requires c =
    let a = c.args in
    let r = c.decode_page-ran in (
      passed_ready (code_by a.code a.positions.now) a.block _ _ _ c.requires.0.opens (progress r.new.res r.new.s r.new.d r.result) r.ensures.done (in_bytes a.code.bits),
      c.requires.1 c.if-block-ne1.true,
    )

pub changed_by-requires : goal.changed_by-requires
changed_by-requires c =
    let a = c.args in
    let r = c.decode_page-ran in
    let o = c.outer_steps-steps in
    let x : Stepped = record { state = state_by o.new.res o.new.syndrome o.new.difference; steps = o.result } in
    omega (arith, stepped-few (code_by a.code a.positions.now) a.block _ _ _ c.requires.0.opens (progress r.new.res r.new.s r.new.d r.result) r.ensures.done (c.requires.1 c.if-block-ne1.true) x o.ensures)

-- some steps are made
pub returns-then-steps-ne0-clause-done : goal.returns-then-steps-ne0-clause-done
unfolding state_weight
returns-then-steps-ne0-clause-done c =
    let a = c.args in
    let r = c.decode_page-ran in
    let o = c.outer_steps-steps in
    let x : Stepped = record { state = state_by o.new.res o.new.syndrome o.new.difference; steps = o.result } in
    both refl (c.ended.ensures ∙ ap (ended c.state_weight-end.result) c.changed_by.ensures)
    ∙ steps-corrected (code_by a.code a.positions.now) _ _ _ _ c.requires.0.opens (progress r.new.res r.new.s r.new.d r.result) r.ensures.done (c.requires.1 c.if-block-ne1.true) x o.ensures _ c.state_weight-end.ensures

-- none is
pub returns-else-steps-ne0-clause-done : goal.returns-else-steps-ne0-clause-done
returns-else-steps-ne0-clause-done c =
    let a = c.args in
    let r = c.decode_page-ran in
    let o = c.outer_steps-steps in
    let x : Stepped = record { state = state_by o.new.res o.new.syndrome o.new.difference; steps = o.result } in
    (left-corrected (code_by a.code a.positions.now) _ _ _ _ c.requires.0.opens (progress r.new.res r.new.s r.new.d r.result) r.ensures.done (c.requires.1 c.if-block-ne1.true) x o.ensures c.if-steps-ne0.false).1

pub returns-else-steps-ne0-clause-counted : goal.returns-else-steps-ne0-clause-counted
returns-else-steps-ne0-clause-counted c n =
    let a = c.args in
    let r = c.decode_page-ran in
    let o = c.outer_steps-steps in
    let code = code_by a.code a.positions.now in
    let x : Stepped = record { state = state_by o.new.res o.new.syndrome o.new.difference; steps = o.result } in
    r.ensures.counted n
    ∙ ap (λ (st : State). zero_counts code st.syndrome)
    (left-corrected code _ _ _ _ c.requires.0.opens (progress r.new.res r.new.s r.new.d r.result) r.ensures.done (c.requires.1 c.if-block-ne1.true) x o.ensures c.if-steps-ne0.false).0

-- blocks of 1
pub returns-else-block-ne1-clause-done : goal.returns-else-block-ne1-clause-done
returns-else-block-ne1-clause-done c =
    let a = c.args in
    let r = c.decode_page-ran in
    one_corrected (code_by a.code a.positions.now) _ _ _ _ c.requires.0.opens (progress r.new.res r.new.s r.new.d r.result) r.ensures.done c.if-block-ne1.false

-- no distance
pub returns-else-ran-ne0-clause-done : goal.returns-else-ran-ne0-clause-done
returns-else-ran-ne0-clause-done c =
    let a = c.args in
    let r = c.decode_page-ran in
    clean_corrected (code_by a.code a.positions.now) _ _ _ _ c.requires.0.opens (progress r.new.res r.new.s r.new.d r.result) r.ensures.done c.requires.1 c.if-ran-ne0.false
