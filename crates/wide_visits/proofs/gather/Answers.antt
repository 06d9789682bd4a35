use Rattle.std.proofs.Common.{◌∷◌, List, ℕ, ◌∙◌, ap, sym, ◌+◌, ◌<◌, length, set, length-set, take, take_all, arith}
use Rattle.model.specs.Code.{checks_by}
use Rattle.model.specs.Symbols.{symbols_at}
use Rattle.checks.specs.Checks.{check_inside, gather_none, gather_turn}
use Rattle.wide_symbols.specs.Numbers.{numbers_length, number_read}
use Rattle.wide_visits.proofs.gather.Goals as goal

pub loop-i-init : goal.loop-i-init
loop-i-init g c =
    let a = c.args in
    ap (λ (x : ℕ). take (0 + 1) (set a.es.now 0 x)) c.widened.ensures
    ∙ gather_none (g.S.Symbol.numbers a.s.now) a.code.k a.positions.now a.j (g.S.Symbol.number a.own) a.es.now (omega arith)

pub loop-i-preserved : goal.loop-i-preserved
loop-i-preserved g c =
    let a = c.args in
    let l = c.loop-i in
    let n = g.met.S.Symbol.are_numbers in
    let s : List ℕ = g.S.Symbol.numbers a.s.now in
    let inside : c.check_of-c.result < length a.s.now = omega (arith, check_inside c.requires.0 _ _ c.check_of-c.ensures, numbers_length n a.s.now) in
    ap (λ (x : ℕ). take (l.i + 1 + 1) (set l.es (l.i + 1) x)) (c.widened-in-loop-i.ensures ∙ number_read n a.s.now c.check_of-c.result inside c.index-s-c.is)
    ∙ gather_turn s a.code.k a.positions.now a.j (g.S.Symbol.number a.own) l.i c.check_of-c.result l.es (omega arith) (omega (arith, length-set a.es.now 0 c.widened.result)) c.check_of-c.ensures l.invariant

pub returns : goal.returns
returns g c =
    let a = c.args in
    let l = c.loop-i in
    sym (take_all (l.i + 1) l.es (omega (arith, length-set a.es.now 0 c.widened.result))) ∙ l.invariant
    ∙ ap (λ (ps : List ℕ). g.S.Symbol.number a.own ∷ symbols_at (g.S.Symbol.numbers a.s.now) (checks_by a.code.k ps a.j)) (take_all l.i a.positions.now (omega arith))
