use Rattle.std.proofs.Common.{ℕ, ◌+◌, ◌∷◌, List, length-set, take_all, sym, ap, ◌∙◌, arith}
use Rattle.model.specs.Code.{checks_by}
use Rattle.model.specs.Symbols.{symbols_at}
use Rattle.checks.specs.Checks.{by_position, gather_none, gather_turn}
use Rattle.checks.proofs.gather.Goals as goal

pub loop-i-init : goal.loop-i-init
loop-i-init c = let a = c.args in gather_none a.s.now a.code.k a.positions.now a.j a.own a.es.now (omega arith)

pub check_of-requires : goal.check_of-requires
check_of-requires c = by_position c.requires.0 _ _ c.requires.1 (omega arith)

pub loop-i-preserved : goal.loop-i-preserved
loop-i-preserved c =
    let a = c.args in
    let l = c.loop-i in
    gather_turn a.s.now a.code.k a.positions.now a.j a.own l.i c.check_of.result l.es (omega arith) (omega (arith, length-set a.es.now 0 a.own)) c.check_of.ensures l.invariant

pub returns : goal.returns
returns c =
    let a = c.args in
    let l = c.loop-i in
    sym (take_all (l.i + 1) l.es (omega (arith, length-set a.es.now 0 a.own))) ∙ l.invariant
    ∙ ap (λ (ps : List ℕ). a.own ∷ symbols_at a.s.now (checks_by a.code.k ps a.j)) (take_all l.i a.positions.now (omega arith))
