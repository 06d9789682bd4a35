-- `outer_step`: the change at the symbol that was found is the block's step.
use Rattle.std.proofs.Common.{◌≡◌, ℕ, ◌/◌, ◌<◌, ap, ◌∙◌, arith, Some}
use Rattle.model.specs.Code.{Code, data_count, checks_of}
use Rattle.model.specs.Decoder.{State, state_by, change}
use Rattle.model.specs.Outer.{block_sum}
use Rattle.params.specs.Codes.{code_by}
use Rattle.checks.specs.declared.Place.{Place}
use Rattle.checks.specs.Numbers.{placed_by}
use Rattle.visits.specs.Progress.{Ready}
use Rattle.outer_steps.specs.declared.Step.{Step}
use Rattle.outer_steps.specs.Blocks.{BlockAt, step_of, made, not_made, stepped_made, weakest_in, at_block, sum_in}
use Rattle.outer_steps.proofs.outer_step.Goals as goal

-- the symbol and the sum of a step are in range
in_range : {c : Code} {L bound at : ℕ} {st : State} {x : Step} → Ready c st → BlockAt c L bound at → Some x ≡ step_of c L (at / L) st → (x.symbol < data_count c) × (x.sum < c.q)
in_range {c} {L} {bound} {at} {st} {x} r b e =
    let m = made c L (at / L) st x e in (
      omega (arith, m.symbol_is, weakest_in c L b.fits (at / L) (at_block c L b.fits at b.whole b.inside) (block_sum c.q L st.result (at / L)) st),
      omega (arith, m.sum_is, sum_in c.q L (at / L) st.result (omega (arith, r.usable.q_low))),
    )

pub returns-in-None : goal.returns-in-None
returns-in-None c =
    let a = c.args in
    not_made (code_by a.code a.positions.now) a.block (a.at / a.block) (state_by a.res.now a.syndrome.now a.difference.now) c.in-None.ensures

pub place_of-place-requires : goal.place_of-place-requires
place_of-place-requires c =
    let r = c.requires in
    let z = r.0.usable.table.sizes in
    (z.k_low, z.k_high, omega (arith, c.checks_each-each.ensures, z.J-high), omega (arith, (in_range r.0 r.1 c.in-Some.ensures).0, z.data-high))

pub change_at-requires : goal.change_at-requires
change_at-requires c =
    let r = c.requires in
    let i = in_range r.0 r.1 c.in-Some.ensures in
    (r.0, placed_by _ _ _ _ c.checks_each-each.ensures i.0 c.place_of-place.ensures, i.1)

pub returns : goal.returns
returns c =
    let a = c.args in
    let code = code_by a.code a.positions.now in
    let st = state_by a.res.now a.syndrome.now a.difference.now in
    let x = c.in-Some.step in
    let e = c.in-Some.ensures in
    stepped_made code a.block (a.at / a.block) st x e (made code a.block (a.at / a.block) st x e) _
    (c.change_at.ensures ∙ ap (λ (q : Place). change a.code.q (checks_of code q.symbol) q.symbol x.sum st) c.place_of-place.ensures)
