-- `clear`: the symbols so far are 0, the rest is as it was.
use Rattle.theory.specs.Written.{Written}
use Rattle.slices.proofs.clear.Given as goal

abbrev pub invariant-loop-x : goal.invariant-loop-x
invariant-loop-x l = Written (λ n x. 0) l.initial.s l.x-index l.s
