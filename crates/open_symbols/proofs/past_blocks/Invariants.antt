-- `past_blocks`: the blocks passed have so many zeros at every symbol, and those from j on are left.
use Rattle.std.proofs.Common.{◌≡◌, ◌-◌, take, drop}
use Rattle.open_symbols.specs.Settled.{Past}
use Rattle.open_symbols.proofs.past_blocks.Given as goal

abbrev pub invariant-loop-block : goal.invariant-loop-block
invariant-loop-block l =
    (l.block-iterator.rest.now ≡ take (l.end - l.j) (drop l.j l.zeros)) × (l.block-iterator.size ≡ 64) × Past l.bound l.zeros l.from l.end l.j
