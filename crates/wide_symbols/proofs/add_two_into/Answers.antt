use Rattle.std.proofs.Common.{get_or, ◌∙◌, ap, arith}
use Rattle.model.specs.Code.{highest}
use Rattle.std.proofs.Common.{refl}
use Rattle.model.specs.Symbols.{add}
use Rattle.symbols.specs.Sums.{add_twice}
use Rattle.theory.specs.Written.{opened}
use Rattle.wide_symbols.specs.Numbers.{number_read}
use Rattle.wide_symbols.specs.Turns.{turned_symbols, closed_symbols}
use Rattle.wide_symbols.proofs.add_two_into.Goals as goal

pub loop-i-init : goal.loop-i-init
loop-i-init g c = opened _ _

pub loop-i-preserved : goal.loop-i-preserved
loop-i-preserved g c =
    let n = g.met.S.Symbol.are_numbers in
    let q = highest g.S.WideSymbol.profile in
    let first = c.add_wrap.ensures ∙ ap (add q _) (number_read n c.args.xs.now c.loop-i.i (omega arith) c.index-xs-i.is) in
    turned_symbols n c.loop-i.invariant _ (omega arith)
    (c.add_wrap-in-loop-i.ensures ∙ ap (add q _) (number_read n c.args.ys.now c.loop-i.i (omega arith) c.index-ys-i.is) ∙ ap (λ x. add q x (get_or (g.S.Symbol.numbers c.args.ys.now) c.loop-i.i 0)) first)

pub returns : goal.returns
returns g c =
    let n = g.met.S.Symbol.are_numbers in
    closed_symbols n c.loop-i.invariant (omega arith) refl ∙ add_twice _ _ _ _
