use Rattle.std.proofs.Common.{◌∙◌, ap, arith}
use Rattle.model.specs.Code.{highest}
use Rattle.std.proofs.Common.{refl}
use Rattle.model.specs.Symbols.{add, add_each}
use Rattle.theory.specs.Written.{opened}
use Rattle.wide_symbols.specs.Numbers.{number_read}
use Rattle.wide_symbols.specs.Turns.{turned_symbols, closed_symbols}
use Rattle.wide_symbols.proofs.add_into.Goals as goal

pub loop-i-init : goal.loop-i-init
loop-i-init g c = opened _ _

pub loop-i-preserved : goal.loop-i-preserved
loop-i-preserved g c =
    let n = g.met.S.Symbol.are_numbers in
    turned_symbols n c.loop-i.invariant _ (omega arith)
    (c.add_wrap.ensures ∙ ap (add (highest g.S.WideSymbol.profile) _) (number_read n c.args.src.now c.loop-i.i (omega arith) c.index-src-i.is))

pub returns : goal.returns
unfolding add_each
returns g c =
    let n = g.met.S.Symbol.are_numbers in
    closed_symbols n c.loop-i.invariant (omega arith) refl
