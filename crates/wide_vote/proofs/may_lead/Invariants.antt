-- `may_lead`: the counters are those of the low bytes passed, and none is above the bound.
use Rattle.vote.specs.Counters.{Counted}
use Rattle.wide_vote.specs.Lows.{lows}
use Rattle.wide_vote.proofs.may_lead.Given as goal

abbrev pub invariant-loop-e : goal.invariant-loop-e
invariant-loop-e l = Counted 256 l.bound (lows l.es) l.e-index l.counters
