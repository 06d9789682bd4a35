-- `add_zeros`: the first i counts have the zeros of src added, the rest is as it was.
use Rattle.std.proofs.Common.{◌+◌, get_or}
use Rattle.model.specs.Symbols.{same}
use Rattle.theory.specs.Written.{Written}
use Rattle.zeros.proofs.add_zeros.Given as goal

abbrev pub invariant-loop-i : goal.invariant-loop-i
invariant-loop-i l = Written (λ n x. x + same 0 (get_or l.src n 0)) l.initial.acc l.i l.acc
