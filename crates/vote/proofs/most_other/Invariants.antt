-- `most_other`: the counters are those of the estimates so far, and `most` is the largest of those other than the counter of 0.
use Rattle.std.proofs.Common.{◌≡◌, take}
use Rattle.vote.specs.Counters.{Counted}
use Rattle.vote.specs.Others.{others}
use Rattle.vote.proofs.most_other.Given as goal

abbrev pub invariant-loop-v : goal.invariant-loop-v
invariant-loop-v l = Counted 256 255 l.es l.v-index l.counters × (l.most ≡ others (take l.v-index l.es))
