-- `copy_into`: the first i symbols are those of src, the rest is as it was.
use Rattle.std.proofs.Common.{get_or}
use Rattle.theory.specs.Written.{Written}
use Rattle.slices.proofs.copy_into.Given as goal

abbrev pub invariant-loop-i : goal.invariant-loop-i
invariant-loop-i l = Written (λ n x. get_or l.src n 0) l.initial.dst l.i l.dst
