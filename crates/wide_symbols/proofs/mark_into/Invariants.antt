-- `mark_into`: the first i marks are written, the rest is as it was.
use Rattle.std.proofs.Common.{get_or}
use Rattle.model.specs.Symbols.{differ}
use Rattle.theory.specs.Written.{Written}
use Rattle.wide_symbols.proofs.mark_into.Given as goal

abbrev pub invariant-loop-i : goal.invariant-loop-i
invariant-loop-i g l = Written (λ k x. differ (get_or (g.S.Symbol.numbers l.s) k 0) 0) l.initial.marks l.i l.marks
