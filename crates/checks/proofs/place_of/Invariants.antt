-- `place_of`: the branches before the symbol are passed one by one, each with its run.
use Rattle.std.proofs.Common.{◌-◌}
use Rattle.checks.specs.Numbers.{Walked}
use Rattle.checks.proofs.place_of.Given as goal

abbrev pub invariant-loop-start : goal.invariant-loop-start
invariant-loop-start l = Walked l.k l.each l.symbol l.start l.first

abbrev pub decreases-loop-start : goal.decreases-loop-start
decreases-loop-start l = l.symbol - l.start
