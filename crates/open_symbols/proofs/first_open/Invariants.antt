-- `first_open`: all symbols passed are settled, one by one or by blocks.
use Rattle.std.proofs.Common.{◌-◌}
use Rattle.open_symbols.specs.Settled.{FirstOpen}
use Rattle.open_symbols.proofs.first_open.Given as goal

abbrev pub invariant-loop-j : goal.invariant-loop-j
invariant-loop-j g l = FirstOpen l.each l.threshold (g.S.Symbol.numbers l.difference) l.zeros l.from l.end l.j

abbrev pub decreases-loop-j : goal.decreases-loop-j
decreases-loop-j g l = l.end - l.j
