-- `pass`: after each branch, and in it, the state is that after the visits to the symbols before the place.
use Rattle.std.proofs.Common.{◌≡◌, ◌*◌, ◌-◌}
use Rattle.checks.specs.Places.{AtBranch, InBranch}
use Rattle.params.specs.Codes.{code_by}
use Rattle.zeros.specs.Counts.{zero_counts}
use Rattle.visits.specs.Progress.{progress}
use Rattle.passes.specs.Runs.{visits}
use Rattle.passes.proofs.pass.Given as goal

abbrev pub invariant-loop-branch : goal.invariant-loop-branch
invariant-loop-branch l =
    let c = code_by l.code l.positions in
    record {
      here : AtBranch c l.place;
      reached : l.place.symbol ≡ l._branch * l.code.k;
      made : progress l.res l.syndrome l.difference l.tally ≡ visits c l.threshold l.place.symbol (progress l.fn.res l.fn.syndrome l.fn.difference l.fn.opened);
      counted : l.zeros ≡ zero_counts c l.syndrome;
      kept : l.counters ≡ l.fn.counters;
    }

abbrev pub invariant-loop-place : goal.invariant-loop-place
invariant-loop-place l =
    let c = code_by l.code l.positions in
    record {
      here : InBranch c l.initial.place l.place;
      made : progress l.res l.syndrome l.difference l.tally ≡ visits c l.threshold l.place.symbol (progress l.fn.res l.fn.syndrome l.fn.difference l.fn.opened);
      counted : l.zeros ≡ zero_counts c l.syndrome;
      kept : l.counters ≡ l.fn.counters;
    }

abbrev pub decreases-loop-place : goal.decreases-loop-place
decreases-loop-place l = l.place.end - l.place.symbol
