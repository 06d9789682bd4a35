use Rattle.std.proofs.Common.{ap, sym, ◌∙◌, arith}
use Rattle.model.specs.Symbols.{same}
use Rattle.any_symbols.specs.Numbers.{numbers_length, number_read}
use Rattle.theory.specs.Turns.{count_none, count_turn}
use Rattle.vote.proofs.count_equal.Goals as goal

pub loop-e-init : goal.loop-e-init
loop-e-init g c =
    let e = g.E.Symbol in
    (omega (arith, c.counted-n.ensures), c.counted-n.ensures ∙ sym (count_none (e.number c.args.v) (e.numbers c.args.es.now)))

pub loop-e-preserved : goal.loop-e-preserved
loop-e-preserved g c =
    let n = g.met.E.Symbol.are_numbers in
    let es = c.args.es.now in
    let v = g.E.Symbol.number c.args.v in
    let i = c.loop-e.e-index in
    let one = c.equal.ensures.0 ∙ ap (same v) (number_read n es i (omega arith) c.e-item.is) in (
      omega (arith, c.plus-n.ensures, c.equal.ensures.1, c.loop-e.invariant.0),
      omega (arith, c.plus-n.ensures, c.loop-e.invariant.1, one, count_turn v (g.E.Symbol.numbers es) i (omega (arith, numbers_length n es))),
    )
