-- `sub_symbols`: the first i symbols are differences modulo q, the rest is as it was.
use Rattle.std.proofs.Common.{get_or}
use Rattle.model.specs.Symbols.{sub}
use Rattle.theory.specs.Written.{Written}
use Rattle.sums.proofs.sub_symbols.Given as goal

abbrev pub invariant-loop-i : goal.invariant-loop-i
invariant-loop-i l = Written (λ n x. sub l.q (get_or l.xs n 0) (get_or l.ys n 0)) l.initial.dst l.i l.dst
