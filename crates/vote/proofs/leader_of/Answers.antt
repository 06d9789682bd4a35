use Rattle.std.proofs.Common.{List, ℕ, sym, ap, ◌∙◌, get_or, take, take_all, arith}
use Rattle.model.specs.Symbols.{choose, count}
use Rattle.model.specs.Vote.{goes_before, first_of, leader}
use Rattle.any_symbols.specs.Numbers.{numbers_length, number_read}
use Rattle.theory.specs.Counting.{count_misses}
use Rattle.theory.specs.Turns.{first_turn}
use Rattle.vote.specs.declared.Commonest.{Commonest}
use Rattle.vote.specs.Leading.{lead_of, first_none, more_than_half}
use Rattle.vote.proofs.leader_of.Goals as goal

pub loop-a-init : goal.loop-a-init
loop-a-init g c =
    let n = g.met.E.Symbol.are_numbers in
    let es = g.E.Symbol.numbers c.args.es.now in
    let first = g.E.Symbol.number c.index-es-0.result in
    ap (λ (m : ℕ). record { value = first; count = m }) c.count_equal.ensures
    ∙ ap (λ (v : ℕ). lead_of es v) (number_read n c.args.es.now 0 (omega arith) c.index-es-0.is ∙ sym (first_none (λ v. count v es) (get_or es 0 0) es))

pub overflow_add-m : goal.overflow_add-m
overflow_add-m g c =
    let es = g.E.Symbol.numbers c.args.es.now in
    omega (
      arith,
      c.widened-m.ensures,
      ap (λ (l : Commonest ℕ). l.count) c.loop-a.invariant,
      count_misses (first_of es (get_or es 0 0) (take c.loop-a.a-index es)) es,
      numbers_length g.met.E.Symbol.are_numbers c.args.es.now,
    )

pub returns-then-es-m : goal.returns-then-es-m
returns-then-es-m g c =
    let es = g.E.Symbol.numbers c.args.es.now in
    c.loop-a.invariant
    ∙ ap (λ (v : ℕ). lead_of es v) (more_than_half es (first_of es (get_or es 0 0) (take c.loop-a.a-index es))
    (omega (arith, c.widened-m.ensures, ap (λ (l : Commonest ℕ). l.count) c.loop-a.invariant, c.if-es-m.true, numbers_length g.met.E.Symbol.are_numbers c.args.es.now)))

pub loop-a-preserved : goal.loop-a-preserved
loop-a-preserved g c =
    let n = g.met.E.Symbol.are_numbers in
    let es = g.E.Symbol.numbers c.args.es.now in
    let i = c.loop-a.a-index in
    let b = g.E.Symbol.number c.loop-a.best.value in
    let a : ℕ = get_or es i 0 in
    c.first_in-best.ensures
    ∙ ap (λ (x : ℕ). lead_of es (choose (goes_before es x b) x b)) (number_read n c.args.es.now i (omega arith) c.a-item.is)
    ∙ ap (λ (l : Commonest ℕ). lead_of es (choose (goes_before es a l.value) a l.value)) c.loop-a.invariant
    ∙ ap (λ (v : ℕ). lead_of es v) (sym (first_turn (λ v. count v es) (get_or es 0 0) es i (omega (arith, numbers_length n c.args.es.now))))

pub returns : goal.returns
unfolding leader
returns g c =
    let es = g.E.Symbol.numbers c.args.es.now in
    c.loop-a.invariant
    ∙ ap (λ (l : List ℕ). lead_of es (first_of es (get_or es 0 0) l)) (take_all c.loop-a.a-index es (omega (arith, numbers_length g.met.E.Symbol.are_numbers c.args.es.now)))
