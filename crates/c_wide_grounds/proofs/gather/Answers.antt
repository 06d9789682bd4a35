use Rattle.std.proofs.Common.{◌∷◌, List, ℕ, ◌≡◌, ◌∙◌, ap, sym, ◌+◌, ◌<◌, length, set, length-set, take, take_all, arith}
use Rattle.model.specs.Bytes.{symbol_size, symbols_of}
use Rattle.model.specs.Code.{checks_by}
use Rattle.model.specs.Symbols.{symbols_at}
use Rattle.theory.specs.WideBytes.{symbol-at}
use Rattle.checks.specs.Checks.{check_inside, gather_none, gather_turn}
use Rattle.wide_bytes.specs.Places.{wide_place, wide_some, read_size}
use Rattle.c_wide_grounds.proofs.gather.Goals as goal

pub loop-i-init : goal.loop-i-init
loop-i-init g c =
    let a = c.args in
    let h = g.S.WideSymbol in
    ap (λ (x : ℕ). take (0 + 1) (set a.es.now 0 x)) c.widened.ensures
    ∙ gather_none (symbols_of (symbol_size h.profile) a.s.now) a.code.k a.positions.now a.j (g.S.Symbol.number a.own) a.es.now (omega arith)

pub overflow_mul-c : goal.overflow_mul-c
overflow_mul-c g c =
    let p = c.requires in
    let inside : c.check_of-c.result < c.args.code.k = omega (arith, check_inside p.0 _ _ c.check_of-c.ensures, p.0.len) in
    let w = wide_place g.met.S.WideSymbol.is_wide c.check_of-c.result c.args.code.k _ c.SIZE-size.ensures inside in
    omega (arith, p.0.k_high)

pub get-requires : goal.get-requires
get-requires g c =
    let p = c.requires in
    let inside : c.check_of-c.result < c.args.code.k = omega (arith, check_inside p.0 _ _ c.check_of-c.ensures, p.0.len) in
    let w = wide_place g.met.S.WideSymbol.is_wide c.check_of-c.result c.args.code.k _ c.SIZE-size.ensures inside in
    omega (arith, p.1)

pub loop-i-preserved : goal.loop-i-preserved
loop-i-preserved g c =
    let a = c.args in
    let l = c.loop-i in
    let p = c.requires in
    let h = g.S.WideSymbol in
    let wide = g.met.S.WideSymbol.is_wide in
    let m = symbol_size h.profile in
    let s : List ℕ = symbols_of m a.s.now in
    let inside : c.check_of-c.result < a.code.k = omega (arith, check_inside p.0 _ _ c.check_of-c.ensures, p.0.len) in
    ap (λ (x : ℕ). take (l.i + 1 + 1) (set l.es (l.i + 1) x))
    (c.widened-in-loop-i.ensures ∙ c.get.ensures ∙ read_size wide _ c.SIZE-size.ensures a.s.now c.check_of-c.result
    ∙ sym (symbol-at m (wide_some wide) a.code.k a.s.now p.1 c.check_of-c.result inside))
    ∙ gather_turn s a.code.k a.positions.now a.j (g.S.Symbol.number a.own) l.i c.check_of-c.result l.es (omega arith) (omega (arith, length-set a.es.now 0 c.widened.result)) c.check_of-c.ensures l.invariant

pub returns : goal.returns
returns g c =
    let a = c.args in
    let l = c.loop-i in
    let h = g.S.WideSymbol in
    sym (take_all (l.i + 1) l.es (omega (arith, length-set a.es.now 0 c.widened.result))) ∙ l.invariant
    ∙ ap (λ (ps : List ℕ). g.S.Symbol.number a.own ∷ symbols_at (symbols_of (symbol_size h.profile) a.s.now) (checks_by a.code.k ps a.j)) (take_all l.i a.positions.now (omega arith))
