-- `mark_run` marks the folded differences of a run, from one position after the other: marking what is left gives what marking all gives.
use Rattle.std.proofs.Common.{◌≡◌, drop}
use Rattle.differences.specs.Marks.{mark}
use Rattle.differences.specs.Folded.{folded_by}
use Rattle.differences.proofs.mark_run.Given as goal

abbrev pub invariant-loop-i : goal.invariant-loop-i
invariant-loop-i l = mark (folded_by l.k (drop l.i l.run)) l.seen ≡ mark (folded_by l.k l.run) l.initial.seen
