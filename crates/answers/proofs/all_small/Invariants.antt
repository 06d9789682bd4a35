-- `all_small`: whether those that are left are, is whether all are.
use Rattle.std.proofs.Common.{◌≡◌, drop}
use Rattle.model.specs.Calls.{all_below}
use Rattle.answers.proofs.all_small.Given as goal

abbrev pub invariant-loop-t : goal.invariant-loop-t
invariant-loop-t l = all_below 33 (drop l.t-index l.thresholds) ≡ all_below 33 l.thresholds
