-- `add_two_symbols`: the first i symbols have both lists added modulo top + 1, the rest is as it was.
use Rattle.std.proofs.Common.{◌+◌, get_or}
use Rattle.model.specs.Symbols.{add}
use Rattle.theory.specs.Written.{Written}
use Rattle.sums.proofs.add_two_symbols.Given as goal

abbrev pub invariant-loop-i : goal.invariant-loop-i
invariant-loop-i l = Written (λ n x. add (l.top + 1) (add (l.top + 1) x (get_or l.xs n 0)) (get_or l.ys n 0)) l.initial.acc l.i l.acc
