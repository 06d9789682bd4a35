-- `leader_by`: best is the first of the candidates so far by their counters.
use Rattle.std.proofs.Common.{◌≡◌, get_or, take}
use Rattle.model.specs.Vote.{first_by}
use Rattle.vote.specs.Leading.{lead_by}
use Rattle.counters.specs.Reading.{held}
use Rattle.counters.proofs.leader_by.Given as goal

abbrev pub invariant-loop-a : goal.invariant-loop-a
invariant-loop-a l = l.best ≡ lead_by (held l.counters) (first_by (held l.counters) (get_or l.es 0 0) (take l.a-index l.es))
