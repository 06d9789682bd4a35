-- `run_counted`: the passes left give what the whole run gives, with at most 4,096 changes a pass.
use Rattle.std.proofs.Common.{◌≡◌, ◌≤◌, ◌*◌, ◌-◌, length, drop}
use Rattle.model.specs.Code.{highest}
use Rattle.zeros.specs.Counts.{zero_counts}
use Rattle.visits.specs.Progress.{progress}
use Rattle.passes.specs.Runs.{passes_from, KeptIn}
use Rattle.wide.specs.Marks.{marks_of}
use Rattle.wide_symbols.specs.Codes.{wide_code_by}
use Rattle.wide_passes.proofs.run_counted.Given as goal

abbrev pub invariant-loop-p : goal.invariant-loop-p
invariant-loop-p g l =
    let n = g.S.Symbol.numbers in
    let c = wide_code_by g.S.WideSymbol.profile l.code l.positions in
    let start = progress (n l.fn.res) (n l.fn.syndrome) (n l.fn.difference) l.fn.opened in
    let now = progress (n l.res) (n l.syndrome) (n l.difference) l.tally in
    record {
      few : l.count ≤ l.p;
      inside : l.p ≤ length l.thresholds;
      kept : KeptIn (highest g.S.WideSymbol.profile) c (4096 * l.count) start now;
      left : passes_from c l.count (drop l.p l.thresholds) now ≡ passes_from c 0 l.thresholds start;
      counted : l.zeros ≡ zero_counts c (n l.syndrome);
      marked : l.marks ≡ marks_of (n l.syndrome);
    }

abbrev pub decreases-loop-p : goal.decreases-loop-p
decreases-loop-p g l = length l.thresholds - l.p
