-- `pass`: after each branch, and in it, the state is that after the visits to the symbols before the place.
use Rattle.std.proofs.Common.{◌≡◌, ◌*◌, ◌-◌}
use Rattle.checks.specs.Places.{AtBranch, InBranch}
use Rattle.zeros.specs.Counts.{zero_counts}
use Rattle.visits.specs.Progress.{progress}
use Rattle.passes.specs.Runs.{visits}
use Rattle.wide.specs.Marks.{marks_of}
use Rattle.wide_symbols.specs.Codes.{wide_code_by}
use Rattle.wide_passes.proofs.pass.Given as goal

abbrev pub invariant-loop-branch : goal.invariant-loop-branch
invariant-loop-branch g l =
    let n = g.S.Symbol.numbers in
    let c = wide_code_by g.S.WideSymbol.profile l.code l.positions in
    record {
      here : AtBranch c l.place;
      reached : l.place.symbol ≡ l._branch * l.code.k;
      made : progress (n l.res) (n l.syndrome) (n l.difference) l.tally ≡ visits c l.threshold l.place.symbol (progress (n l.fn.res) (n l.fn.syndrome) (n l.fn.difference) l.fn.opened);
      counted : l.zeros ≡ zero_counts c (n l.syndrome);
      marked : l.marks ≡ marks_of (n l.syndrome);
    }

abbrev pub invariant-loop-place : goal.invariant-loop-place
invariant-loop-place g l =
    let n = g.S.Symbol.numbers in
    let c = wide_code_by g.S.WideSymbol.profile l.code l.positions in
    record {
      here : InBranch c l.initial.place l.place;
      made : progress (n l.res) (n l.syndrome) (n l.difference) l.tally ≡ visits c l.threshold l.place.symbol (progress (n l.fn.res) (n l.fn.syndrome) (n l.fn.difference) l.fn.opened);
      counted : l.zeros ≡ zero_counts c (n l.syndrome);
      marked : l.marks ≡ marks_of (n l.syndrome);
    }

abbrev pub decreases-loop-place : goal.decreases-loop-place
decreases-loop-place g l = l.place.end - l.place.symbol
