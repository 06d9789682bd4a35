-- `run_counted`: the passes left give what the whole run gives, with at most 4,096 changes a pass.
use Rattle.std.proofs.Common.{◌≡◌, ◌≤◌, ◌*◌, ◌-◌, length, drop}
use Rattle.params.specs.Codes.{code_by}
use Rattle.zeros.specs.Counts.{zero_counts}
use Rattle.visits.specs.Progress.{progress}
use Rattle.passes.specs.Runs.{passes_from, Kept}
use Rattle.passes.proofs.run_counted.Given as goal

abbrev pub invariant-loop-p : goal.invariant-loop-p
invariant-loop-p l =
    let c = code_by l.code l.positions in
    let start = progress l.fn.res l.fn.syndrome l.fn.difference l.fn.opened in
    let now = progress l.res l.syndrome l.difference l.tally in
    record {
      few : l.count ≤ l.p;
      inside : l.p ≤ length l.thresholds;
      ready : Kept c (4096 * l.count) start now;
      left : passes_from c l.count (drop l.p l.thresholds) now ≡ passes_from c 0 l.thresholds start;
      counted : l.zeros ≡ zero_counts c l.syndrome;
      kept : l.counters ≡ l.fn.counters;
    }

abbrev pub decreases-loop-p : goal.decreases-loop-p
decreases-loop-p l = length l.thresholds - l.p
