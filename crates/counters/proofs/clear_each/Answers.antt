use Rattle.std.proofs.Common.{ℕ, List, sym, subst, arith}
use Rattle.counters.specs.Filling.{Clearing, clearing_none, clearing_more, clearing_all}
use Rattle.counters.proofs.clear_each.Goals as goal

pub loop-e-init : goal.loop-e-init
loop-e-init c = let es = c.args.es.now in subst (λ (l : List ℕ). Clearing 256 es 0 l) (sym c.requires) (clearing_none 256 es)

pub loop-e-preserved : goal.loop-e-preserved
loop-e-preserved c =
    let l = c.loop-e in clearing_more 256 c.args.es.now l.e-index l.counters l.invariant (omega arith) (omega (arith, c.type_inv.es l.e-index))

pub returns : goal.returns
returns c = let l = c.loop-e in clearing_all 256 c.args.es.now l.e-index l.counters l.invariant (omega arith)
