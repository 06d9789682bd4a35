-- `idle_passes`: those counted and those left are those of the whole list.
use Rattle.std.proofs.Common.{◌≡◌, ◌+◌, ◌-◌, ◌≤◌, length, drop}
use Rattle.model.specs.Decoder.{none}
use Rattle.theory.specs.Schedule.{minima}
use Rattle.schedule.proofs.idle_passes.Given as goal

abbrev pub invariant-loop-p : goal.invariant-loop-p
invariant-loop-p l =
    (l.idle ≤ l.p) × (l.p ≤ l.n) × (l.idle + length (minima none (drop l.p l.thresholds)) ≡ length (minima none l.thresholds))

abbrev pub decreases-loop-p : goal.decreases-loop-p
decreases-loop-p l = l.n - l.p
