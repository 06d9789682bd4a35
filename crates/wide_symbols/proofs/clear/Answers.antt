use Rattle.std.proofs.Common.{arith}
use Rattle.theory.specs.Written.{opened}
use Rattle.wide_symbols.specs.Numbers.{numbers_length}
use Rattle.wide_symbols.specs.Turns.{turned_symbols, closed_symbols}
use Rattle.wide_symbols.proofs.clear.Goals as goal

pub loop-x-init : goal.loop-x-init
loop-x-init g c = opened _ _

pub loop-x-preserved : goal.loop-x-preserved
loop-x-preserved g c =
    let n = g.met.S.Symbol.are_numbers in
    turned_symbols n c.loop-x.invariant c.x-item.result (omega arith) c.narrowed-zero.ensures

pub returns : goal.returns
returns g c = let n = g.met.S.Symbol.are_numbers in closed_symbols n c.loop-x.invariant (omega arith) (numbers_length n c.args.s.now)
