-- `subtract_at`: h is subtracted at the checks by the positions so far.
use Rattle.checks.specs.Checks.{Subtracted}
use Rattle.checks.proofs.subtract_at.Given as goal

abbrev pub invariant-loop-p : goal.invariant-loop-p
invariant-loop-p l = Subtracted l.code.q l.h l.code.k l.positions l.j l.initial.s l.p-index l.s
