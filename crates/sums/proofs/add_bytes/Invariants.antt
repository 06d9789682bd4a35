-- `add_bytes`: the first i symbols are sums, the rest is as it was.
use Rattle.std.proofs.Common.{get_or}
use Rattle.model.specs.Symbols.{add}
use Rattle.theory.specs.Written.{Written}
use Rattle.sums.proofs.add_bytes.Given as goal

abbrev pub invariant-loop-i : goal.invariant-loop-i
invariant-loop-i l = Written (λ n x. add 256 x (get_or l.src n 0)) l.initial.acc l.i l.acc
