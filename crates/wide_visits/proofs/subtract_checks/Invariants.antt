-- `subtract_checks`: h is subtracted at the checks by the first positions of the run, and the zeros and marks are those of the syndrome as it then stands.
use Rattle.std.proofs.Common.{◌≡◌, take, drop, ◌-◌}
use Rattle.model.specs.Code.{highest}
use Rattle.checks.specs.Checks.{Subtracted}
use Rattle.zeros.specs.Counts.{zero_counts}
use Rattle.wide.specs.Marks.{marks_of}
use Rattle.wide_symbols.specs.Codes.{wide_code_by}
use Rattle.wide_visits.proofs.subtract_checks.Given as goal

abbrev pub invariant-loop-p : goal.invariant-loop-p
invariant-loop-p g l =
    let w = g.S.WideSymbol in
    record {
      subtracted : Subtracted (highest w.profile) (g.S.Symbol.number l.h) l.code.k (take (l.fn.place.last - l.fn.place.first) (drop l.fn.place.first l.positions)) l.index (g.S.Symbol.numbers l.initial.s) l.p-index (g.S.Symbol.numbers l.s);
      counted : l.zeros ≡ zero_counts (wide_code_by w.profile l.code l.positions) (g.S.Symbol.numbers l.s);
      marked : l.marks ≡ marks_of (g.S.Symbol.numbers l.s);
    }
