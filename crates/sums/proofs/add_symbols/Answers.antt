use Rattle.std.proofs.Common.{arith}
use Rattle.model.specs.Symbols.{add_each}
use Rattle.theory.specs.Written.{opened, kept, turned, closed}
use Rattle.sums.proofs.add_symbols.Goals as goal

pub loop-i-init : goal.loop-i-init
loop-i-init c = opened _ _

pub add_mod-requires : goal.add_mod-requires
add_mod-requires c =
    let i = c.loop-i.i in (omega (arith, kept c.loop-i.invariant (omega arith), c.requires.1 i), omega (arith, c.requires.2 i))

pub loop-i-preserved : goal.loop-i-preserved
loop-i-preserved c = turned c.loop-i.invariant (omega arith) c.add_mod.ensures

pub returns : goal.returns
unfolding add_each
returns c = closed c.loop-i.invariant (omega arith)
