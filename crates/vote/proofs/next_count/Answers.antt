use Rattle.std.proofs.Common.{ℕ, max, eqb, sym, ap, ◌∙◌, take, arith}
use Rattle.model.specs.Symbols.{choose, count}
use Rattle.model.specs.Vote.{other_count}
use Rattle.any_symbols.specs.Numbers.{numbers_length, number_read}
use Rattle.theory.specs.Turns.{other_turn}
use Rattle.vote.specs.Leading.{other_none}
use Rattle.vote.proofs.next_count.Goals as goal

pub loop-a-init : goal.loop-a-init
loop-a-init g c =
    let es = g.E.Symbol.numbers c.args.es.now in
    c.counted-m.ensures ∙ sym (other_none (λ v. count v es) (g.E.Symbol.number c.args.h) es)

pub loop-a-preserved : goal.loop-a-preserved
loop-a-preserved g c =
    let n = g.met.E.Symbol.are_numbers in
    let es = g.E.Symbol.numbers c.args.es.now in
    let h = g.E.Symbol.number c.args.h in
    let i = c.loop-a.a-index in
    let other : ℕ → ℕ = λ a. choose (eqb a h) 0 (count a es) in
    c.larger_other-m.ensures
    ∙ ap (λ (x : ℕ). max x (other (g.E.Symbol.number c.a-item.result))) c.loop-a.invariant
    ∙ ap (λ (a : ℕ). max (other_count es h (take i es)) (other a)) (number_read n c.args.es.now i (omega arith) c.a-item.is)
    ∙ sym (other_turn (λ v. count v es) h es i (omega (arith, numbers_length n c.args.es.now)))
