use Rattle.std.proofs.Common.{◌≡◌, ℕ, ◌+◌, ◌<◌, ap, ◌∙◌, refl, length, get_or, arith}
use Rattle.model.specs.Bytes.{twos}
use Rattle.model.specs.Symbols.{same}
use Rattle.model.specs.Vote.{margin}
use Rattle.checks.specs.Estimates.{estimates_at}
use Rattle.checks.specs.Places.{branch_some, branch_next, in_end, in_placed, found}
use Rattle.margins.specs.Margins.{placed_counted, placed_margin, read_back}
use Rattle.firm_symbols.specs.Phases.{zeros_below}
use Rattle.margin_bytes.specs.Phases.{bytes_one, bytes_turn, bytes_length}
use Rattle.wide_margins.proofs.Turns.{placed, place, zeros_in}
use Rattle.wide_symbols.specs.Codes.{wide_code_by}
use Rattle.wide_symbols.specs.Numbers.{numbers_length, number_read}
use Rattle.wide_margin_bytes.proofs.write_doubtful.Goals as goal
use Rattle.wide_margin_bytes.proofs.write_doubtful.Goals.{then-n-each, else-n-each}

pub slice_bounds-run-end : goal.slice_bounds-run-end
slice_bounds-run-end g c =
    let t = c.requires.0 in
    let w = c.requires.4 in
    let some = branch_some t.table w.opens in
    (found t (in_placed t.table (branch_next t.table w.opens (omega (arith, some, in_end t.table w))) some)).last_in

pub bounds-d-j : goal.bounds-d-j
bounds-d-j g c = let p = c.requires in omega (arith, (placed p.0 p.4 c.loop-j.j c.loop-j.auto.j (omega (arith, p.6))).inside, p.2)

pub bounds-zeros-j : goal.bounds-zeros-j
bounds-zeros-j g c = zeros_in c.requires.0 c.requires.4 c.loop-j.j c.loop-j.auto.j (omega (arith, c.requires.6)) _ c.requires.1

pub overflow_add-n : goal.overflow_add-n
overflow_add-n g c = omega (arith, zeros_below _ c.requires.0.table (g.S.Symbol.numbers c.args.s.now) _ c.requires.1 c.loop-j.j, c.zeros_of.ensures.1)

pub margin_counted-m-requires : goal.margin_counted-m-requires
margin_counted-m-requires g c =
    let p = c.requires in
    let j = c.loop-j.j in
    let f = place p.0 p.4 j c.loop-j.auto.j (omega (arith, p.6)) in
    placed_counted f _ refl (placed p.0 p.4 j c.loop-j.auto.j (omega (arith, p.6))).inside _ p.1 _ _ (ap (λ (x : ℕ). get_or c.args.zeros.now j 0 + x) c.zeros_of.ensures.0)

pub put_word-requires : goal.put_word-requires
put_word-requires g c =
    let p = c.requires in
    let n = g.met.S.Symbol.are_numbers in
    omega (arith, (placed p.0 p.4 c.loop-j.j c.loop-j.auto.j (omega (arith, p.6))).inside, p.2, bytes_length c.loop-j.invariant, numbers_length n c.args.d.now)

pub loop-j-preserved : goal.loop-j-preserved
loop-j-preserved g c =
    let h = g.S.WideSymbol in
    let n = g.met.S.Symbol.are_numbers in
    let a = c.args in
    let p = c.requires in
    let j = c.loop-j.j in
    let q = place p.0 p.4 j c.loop-j.auto.j (omega (arith, p.6)) in
    let inside : j < length a.d.now = omega (arith, (placed p.0 p.4 j c.loop-j.auto.j (omega (arith, p.6))).inside, p.2) in
    let in_numbers : j < length (g.S.Symbol.numbers a.d.now) = omega (arith, inside, numbers_length n a.d.now) in
    let read : g.S.Symbol.number c.index-d-j.result ≡ get_or (g.S.Symbol.numbers a.d.now) j 0 = number_read n a.d.now j inside c.index-d-j.is in
    elim c.if-n-each.branch [
      | then-n-each w ↦
          bytes_turn c.loop-j.invariant in_numbers _ _
          (w.twos_of.ensures ∙ ap twos (read_back _ w.margin_counted-m.type_inv ∙ placed_margin q _ refl _ _ w.margin_counted-m.ensures
          ∙ ap (λ (x : ℕ). margin (estimates_at (wide_code_by h.profile a.code a.positions.now) j x (g.S.Symbol.numbers a.s.now))) read)) (w.out-is ∙ w.put_word.ensures)
      | else-n-each w ↦
          rw w.out-is (bytes_one c.loop-j.invariant in_numbers (omega (arith, c.zeros_of.ensures.0, ap (same 0) read, p.3, w.if-n-each.false)))
    ]
