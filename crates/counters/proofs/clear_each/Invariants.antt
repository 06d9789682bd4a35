-- `clear_each`: the counters that no estimate from here on has are zero.
use Rattle.counters.specs.Filling.{Clearing}
use Rattle.counters.proofs.clear_each.Given as goal

abbrev pub invariant-loop-e : goal.invariant-loop-e
invariant-loop-e l = Clearing 256 l.es l.e-index l.counters
