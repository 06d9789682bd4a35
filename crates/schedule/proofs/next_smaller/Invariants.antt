-- `next_smaller`: the first smaller threshold from a place on is the first from the start on.
use Rattle.std.proofs.Common.{◌≡◌, drop}
use Rattle.model.specs.Decoder.{first_smaller}
use Rattle.schedule.proofs.next_smaller.Given as goal

abbrev pub invariant-loop-at : goal.invariant-loop-at
invariant-loop-at l = first_smaller l.threshold (drop l.at l.thresholds) ≡ first_smaller l.threshold (drop l.from l.thresholds)
