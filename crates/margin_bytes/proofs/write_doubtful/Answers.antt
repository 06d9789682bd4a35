use Rattle.std.proofs.Common.{ap, ◌∙◌, refl, arith}
use Rattle.model.specs.Bytes.{twos}
use Rattle.ones.specs.Pages.{bits_at}
use Rattle.margins.specs.Margins.{placed_counted, placed_margin, read_back}
use Rattle.firm_symbols.specs.Phases.{zeros_below}
use Rattle.margin_bytes.specs.Phases.{bytes_one, bytes_turn, bytes_length}
use Rattle.margin_bytes.proofs.Turns.{placed, place, zeros_in}
use Rattle.margin_bytes.proofs.write_doubtful.Goals as goal
use Rattle.margin_bytes.proofs.write_doubtful.Goals.{then-n-each, else-n-each}

pub bounds-zeros-j : goal.bounds-zeros-j
bounds-zeros-j c = zeros_in c.requires.0 c.requires.4 c.loop-j.j c.loop-j.auto.j (omega (arith, c.requires.6)) _ c.requires.1

pub zeros_with-n-requires : goal.zeros_with-n-requires
zeros_with-n-requires c = omega (arith, zeros_below _ c.requires.0.table c.args.s.now _ c.requires.1 c.loop-j.j)

pub margin_counted-m-requires : goal.margin_counted-m-requires
margin_counted-m-requires c =
    let p = c.requires in
    let f = place p.0 p.4 c.loop-j.j c.loop-j.auto.j (omega (arith, p.6)) in
    let w = placed_counted f _ refl (placed p.0 p.4 c.loop-j.j c.loop-j.auto.j (omega (arith, p.6))).inside _ p.1 _ _ c.zeros_with-n.ensures in
    (w.0, w.1, w.2, bits_at c.args.bits c.args.s.now c.args.d.now c.loop-j.j p.8)

pub put_word-requires : goal.put_word-requires
put_word-requires c =
    let p = c.requires in
    omega (arith, (placed p.0 p.4 c.loop-j.j c.loop-j.auto.j (omega (arith, p.6))).inside, p.2, bytes_length c.loop-j.invariant)

pub loop-j-preserved : goal.loop-j-preserved
loop-j-preserved c =
    let p = c.requires in
    let q = place p.0 p.4 c.loop-j.j c.loop-j.auto.j (omega (arith, p.6)) in
    let inside = (placed p.0 p.4 c.loop-j.j c.loop-j.auto.j (omega (arith, p.6))).inside in
    elim c.if-n-each.branch [
      | then-n-each w ↦
          bytes_turn c.loop-j.invariant (omega (arith, inside, p.2)) _ _
          (w.twos_of.ensures ∙ ap twos (read_back _ w.margin_counted-m.type_inv ∙ placed_margin q _ refl _ _ w.margin_counted-m.ensures)) (w.out-is ∙ w.put_word.ensures)
      | else-n-each w ↦
          rw w.out-is (bytes_one c.loop-j.invariant (omega (arith, inside, p.2)) (omega (arith, c.zeros_with-n.ensures, p.3, w.if-n-each.false)))
    ]
