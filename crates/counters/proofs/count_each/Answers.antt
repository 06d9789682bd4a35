-- A counter is no more than the estimates passed, which are at most 33.
use Rattle.std.proofs.Common.{ℕ, List, get_or, sym, subst, arith}
use Rattle.vote.specs.Counters.{Counted, counted_few, counted_more}
use Rattle.counters.specs.Filling.{counting_none, counting_all}
use Rattle.counters.proofs.count_each.Goals as goal

pub loop-e-init : goal.loop-e-init
loop-e-init c =
    let es = c.args.es.now in subst (λ (l : List ℕ). Counted 256 255 es 0 l) (sym c.requires.1) (counting_none 256 es 255)

pub overflow_add-counters : goal.overflow_add-counters
overflow_add-counters c =
    let es = c.args.es.now in
    let l = c.loop-e in omega (arith, counted_few 256 255 es l.e-index l.counters l.invariant (get_or es l.e-index 0))

pub loop-e-preserved : goal.loop-e-preserved
loop-e-preserved c =
    let es = c.args.es.now in
    let l = c.loop-e in
    counted_more 256 255 es l.e-index l.counters l.invariant (omega arith) (omega (arith, c.type_inv.es l.e-index))
    (omega (arith, counted_few 256 255 es l.e-index l.counters l.invariant (get_or es l.e-index 0)))

pub returns : goal.returns
returns c = let l = c.loop-e in counting_all 256 c.args.es.now 255 l.e-index l.counters l.invariant (omega arith)
