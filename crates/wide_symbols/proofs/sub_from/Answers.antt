use Rattle.std.proofs.Common.{get_or, ◌∙◌, ap, arith}
use Rattle.model.specs.Code.{highest}
use Rattle.model.specs.Symbols.{sub, sub_each}
use Rattle.theory.specs.Written.{opened}
use Rattle.wide_symbols.specs.Numbers.{numbers_length, number_read}
use Rattle.wide_symbols.specs.Turns.{turned_symbols, closed_symbols}
use Rattle.wide_symbols.proofs.sub_from.Goals as goal

pub loop-i-init : goal.loop-i-init
loop-i-init g c = opened _ _

pub loop-i-preserved : goal.loop-i-preserved
loop-i-preserved g c =
    let n = g.met.S.Symbol.are_numbers in
    let h = g.S.WideSymbol in
    turned_symbols n c.loop-i.invariant _ (omega arith)
    (c.sub_wrap.ensures ∙ ap (λ x. sub (highest h.profile) x (g.S.Symbol.number (get_or c.loop-i.acc c.loop-i.i c.index-acc-i.result))) (number_read n c.args.src.now c.loop-i.i (omega arith) c.index-src-i.is))

pub returns : goal.returns
unfolding sub_each
returns g c =
    let n = g.met.S.Symbol.are_numbers in
    closed_symbols n c.loop-i.invariant (omega arith) (omega (arith, numbers_length n c.args.acc.now, numbers_length n c.args.src.now))
