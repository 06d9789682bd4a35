use Rattle.std.proofs.Common.{◌≡◌, ℕ, ◌∙◌, ap, refl, arith}
use Rattle.model.specs.Vote.{margin}
use Rattle.checks.specs.Places.{branch_first, branch_some}
use Rattle.checks.specs.Estimates.{estimates_at}
use Rattle.margins.specs.Margins.{margins_are, front_none, front_turn, front_all, placed_fits, placed_margin, read_back}
use Rattle.wide_symbols.specs.Codes.{wide_code_by}
use Rattle.wide_symbols.specs.Numbers.{number_read}
use Rattle.wide_margins.proofs.Turns.{own, passed, placed, place, zeros_in}
use Rattle.wide_margins.proofs.write_margins.Goals as goal

pub loop-place-init : goal.loop-place-init
loop-place-init g c =
    let e = c.opening-place.ensures in
    (branch_first _ _ _ c.checks_each.ensures e, rw e (front_none _ _ _ (omega (arith, c.requires.2, c.requires.3))))

pub slice_bounds-run-end : goal.slice_bounds-run-end
slice_bounds-run-end g c =
    let p = c.requires in
    let w = own p.0 c.loop-place.invariant.0 (omega (arith, p.2)) in
    (place p.0 w c.loop-place.place.symbol (omega arith) (branch_some p.0.table c.loop-place.invariant.0)).last_in

pub bounds-d-j : goal.bounds-d-j
bounds-d-j g c =
    let p = c.requires in
    omega (arith, (placed p.0 (own p.0 c.loop-place.invariant.0 (omega (arith, p.2))) c.loop-j.j c.loop-j.auto.j (omega arith)).inside, p.2)

pub bounds-margins-j : goal.bounds-margins-j
bounds-margins-j g c =
    let p = c.requires in
    omega (arith, (placed p.0 (own p.0 c.loop-place.invariant.0 (omega (arith, p.2))) c.loop-j.j c.loop-j.auto.j (omega arith)).inside, p.2)

pub bounds-zeros-j : goal.bounds-zeros-j
bounds-zeros-j g c =
    let t = c.requires.0 in
    let w = own t c.loop-place.invariant.0 (omega (arith, c.requires.2)) in
    zeros_in t w c.loop-j.j c.loop-j.auto.j (omega arith) _ c.requires.1

pub margin_at-requires : goal.margin_at-requires
margin_at-requires g c =
    let p = c.requires in
    let j = c.loop-j.j in
    let w = own p.0 c.loop-place.invariant.0 (omega (arith, p.2)) in
    placed_fits (place p.0 w j c.loop-j.auto.j (omega arith)) _ refl (placed p.0 w j c.loop-j.auto.j (omega arith)).inside _ p.1

pub loop-j-preserved : goal.loop-j-preserved
loop-j-preserved g c =
    let h = g.S.WideSymbol in
    let p = c.requires in
    let a = c.args in
    let j = c.loop-j.j in
    let w = own p.0 c.loop-place.invariant.0 (omega (arith, p.2)) in
    let inside = (placed p.0 w j c.loop-j.auto.j (omega arith)).inside in
    let read = number_read g.met.S.Symbol.are_numbers a.d.now j (omega (arith, inside, p.2)) c.index-d-j.is in
    front_turn _ _ _ _ c.loop-j.invariant (omega (arith, inside, p.2)) _
    (read_back _ c.margin_at.type_inv ∙ placed_margin (place p.0 w j c.loop-j.auto.j (omega arith)) _ refl _ _ c.margin_at.ensures
    ∙ ap (λ (x : ℕ). margin (estimates_at (wide_code_by h.profile a.code a.positions.now) j x (g.S.Symbol.numbers a.s.now))) read)

pub loop-place-preserved : goal.loop-place-preserved
loop-place-preserved g c =
    let p = c.requires in
    let w = own p.0 c.loop-place.invariant.0 (omega (arith, p.2)) in
    let n = passed p.0 c.loop-place.invariant.0 (omega (arith, p.2)) _ _ c.at.ensures c.onward-place.ensures in
    let e : c.onward-place.result.symbol ≡ c.loop-j.j = omega (arith, n.1, w.high) in
    (n.0, rw e c.loop-j.invariant)

pub returns : goal.returns
returns g c r =
    front_all _ _ _ _ c.loop-place.invariant.1 (omega arith) ∙ margins_are _ r _ _ _ c.requires.2
