-- A counter is no more than the estimates passed, which are at most 33.
use Rattle.std.proofs.Common.{ℕ, ◌+◌, max, eqb, get_or, take, sym, ap, ◌∙◌, arith}
use Rattle.model.specs.Symbols.{choose}
use Rattle.vote.specs.Counters.{counted_none, counted_few, counted_more}
use Rattle.vote.specs.Others.{others, others_none, others_turn}
use Rattle.vote.proofs.most_other.Goals as goal

pub loop-v-init : goal.loop-v-init
loop-v-init c = (counted_none 256 255 c.args.es.now, sym (others_none c.args.es.now))

pub overflow_add-n : goal.overflow_add-n
overflow_add-n c =
    let es = c.args.es.now in
    let l = c.loop-v in omega (arith, counted_few 256 255 es l.v-index l.counters l.invariant.0 (get_or es l.v-index 0))

pub loop-v-preserved : goal.loop-v-preserved
loop-v-preserved c =
    let es = c.args.es.now in
    let l = c.loop-v in
    let i = l.v-index in
    let e : ℕ = get_or es i 0 in
    let s = l.invariant.0 in (
      counted_more 256 255 es i l.counters s (omega arith) (omega (arith, c.type_inv.es i)) (omega (arith, counted_few 256 255 es i l.counters s e)),
      c.raised-most.ensures
          ∙ ap (λ (m : ℕ). max m (choose (eqb e 0) 0 (get_or l.counters e 0 + 1))) l.invariant.1
          ∙ ap (λ (n : ℕ). max (others (take i es)) (choose (eqb e 0) 0 (n + 1))) (s.counts e)
          ∙ sym (others_turn es i (omega arith)),
    )
