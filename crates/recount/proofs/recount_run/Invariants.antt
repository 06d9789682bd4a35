-- `recount_run`: the counts of the symbols that have check c by the positions so far have gained and lost.
use Rattle.recount.specs.Recount.{Recounted}
use Rattle.recount.proofs.recount_run.Given as goal

abbrev pub invariant-loop-p : goal.invariant-loop-p
invariant-loop-p l = Recounted l.code.k l.positions l.c l.gained l.lost l.initial.zeros l.p-index l.zeros
