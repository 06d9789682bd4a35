-- `mark_from` marks the folded differences from b in order: marking what is left gives what marking all gives.
use Rattle.std.proofs.Common.{◌≡◌, drop}
use Rattle.differences.specs.Marks.{mark}
use Rattle.differences.specs.Folded.{folded_from}
use Rattle.differences.proofs.mark_from.Given as goal

abbrev pub invariant-loop-a : goal.invariant-loop-a
invariant-loop-a l = mark (folded_from l.k l.b (drop l.a-index l.later)) l.seen ≡ mark (folded_from l.k l.b l.later) l.initial.seen
