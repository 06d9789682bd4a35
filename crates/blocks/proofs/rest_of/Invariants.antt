-- `rest_of`: what is left stays the same modulo q, and below a bound that is halved down to q.
use Rattle.blocks.specs.Blocks.{Dividing}
use Rattle.blocks.proofs.rest_of.Given as goal

abbrev pub invariant-loop-m : goal.invariant-loop-m
invariant-loop-m l = Dividing l.q l.n l.m l.rest

abbrev pub decreases-loop-m : goal.decreases-loop-m
decreases-loop-m l = l.m
