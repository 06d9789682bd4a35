use Rattle.std.proofs.Common.{◌≡◌, ap, ◌∙◌, refl, arith}
use Rattle.model.specs.Bytes.{twos, margin_bytes}
use Rattle.checks.specs.Places.{branch_first}
use Rattle.ones.specs.Pages.{bits_at}
use Rattle.margins.specs.Margins.{margins_are, placed_fits, placed_margin, read_back}
use Rattle.margin_bytes.specs.Fronts.{front_none, front_turn, front_all}
use Rattle.margin_bytes.proofs.Turns.{own, passed, placed, place, zeros_in}
use Rattle.margin_bytes.proofs.write_each.Goals as goal

pub loop-place-init : goal.loop-place-init
loop-place-init c =
    let e = c.opening-place.ensures in
    (branch_first _ _ _ c.checks_each.ensures e, rw e (front_none _ _ _ (omega (arith, c.requires.2, c.requires.3))))

pub bounds-zeros-j : goal.bounds-zeros-j
bounds-zeros-j c =
    let t = c.requires.0 in
    let w = own t c.loop-place.invariant.0 (omega (arith, c.requires.2)) in
    zeros_in t w c.loop-j.j c.loop-j.auto.j (omega arith) _ c.requires.1

pub margin_at-m-requires : goal.margin_at-m-requires
margin_at-m-requires c =
    let p = c.requires in
    let j = c.loop-j.j in
    let w = own p.0 c.loop-place.invariant.0 (omega (arith, p.2)) in
    let f = placed_fits (place p.0 w j c.loop-j.auto.j (omega arith)) _ refl (placed p.0 w j c.loop-j.auto.j (omega arith)).inside _ p.1 in
    (f.0, f.1, f.2, bits_at c.args.bits c.args.s.now c.args.d.now j p.4)

pub loop-j-preserved : goal.loop-j-preserved
loop-j-preserved c =
    let p = c.requires in
    let j = c.loop-j.j in
    let w = own p.0 c.loop-place.invariant.0 (omega (arith, p.2)) in
    front_turn _ _ _ _ c.loop-j.invariant (omega (arith, (placed p.0 w j c.loop-j.auto.j (omega arith)).inside, p.2)) _ _
    (c.twos_of.ensures ∙ ap twos (read_back _ c.margin_at-m.type_inv ∙ placed_margin (place p.0 w j c.loop-j.auto.j (omega arith)) _ refl _ _ c.margin_at-m.ensures)) c.put_word.ensures

pub loop-place-preserved : goal.loop-place-preserved
loop-place-preserved c =
    let p = c.requires in
    let w = own p.0 c.loop-place.invariant.0 (omega (arith, p.2)) in
    let n = passed p.0 c.loop-place.invariant.0 (omega (arith, p.2)) _ _ c.at.ensures c.onward-place.ensures in
    let e : c.onward-place.result.symbol ≡ c.loop-j.j = omega (arith, n.1, w.high) in
    (n.0, rw e c.loop-j.invariant)

pub returns : goal.returns
returns c r =
    front_all _ _ _ _ c.loop-place.invariant.1 (omega arith) ∙ ap margin_bytes (margins_are _ r _ _ _ c.requires.2)
