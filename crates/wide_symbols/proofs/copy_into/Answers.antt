use Rattle.std.proofs.Common.{◌∙◌, arith}
use Rattle.theory.specs.Written.{opened}
use Rattle.theory.specs.Written.{tabulate_get_d}
use Rattle.wide_symbols.specs.Numbers.{numbers_length, number_read}
use Rattle.wide_symbols.specs.Turns.{turned_symbols, closed_symbols}
use Rattle.wide_symbols.proofs.copy_into.Goals as goal

pub loop-i-init : goal.loop-i-init
loop-i-init g c = opened _ _

pub loop-i-preserved : goal.loop-i-preserved
loop-i-preserved g c =
    let n = g.met.S.Symbol.are_numbers in
    turned_symbols n c.loop-i.invariant c.index-src-i.result (omega arith) (number_read n c.args.src.now c.loop-i.i (omega arith) c.index-src-i.is)

pub returns : goal.returns
returns g c =
    let n = g.met.S.Symbol.are_numbers in
    closed_symbols n c.loop-i.invariant (omega arith) (omega (arith, numbers_length n c.args.dst.now, numbers_length n c.args.src.now)) ∙ tabulate_get_d _
