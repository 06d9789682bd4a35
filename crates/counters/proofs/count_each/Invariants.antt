-- `count_each`: the counters are those of the estimates so far.
use Rattle.vote.specs.Counters.{Counted}
use Rattle.counters.proofs.count_each.Given as goal

abbrev pub invariant-loop-e : goal.invariant-loop-e
invariant-loop-e l = Counted 256 255 l.es l.e-index l.counters
