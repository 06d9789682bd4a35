-- `next_by`: m is the largest counter of a candidate other than h so far.
use Rattle.std.proofs.Common.{◌≡◌, take}
use Rattle.model.specs.Vote.{other_by}
use Rattle.counters.specs.Reading.{held}
use Rattle.counters.proofs.next_by.Given as goal

abbrev pub invariant-loop-a : goal.invariant-loop-a
invariant-loop-a l = l.m ≡ other_by (held l.counters) l.h (take l.a-index l.es)
