-- `count_run`: the zeros at the checks by the positions so far are counted.
use Rattle.std.proofs.Common.{◌≡◌, take}
use Rattle.zeros.specs.Counts.{run_zeros}
use Rattle.zeros.proofs.count_run.Given as goal

abbrev pub invariant-loop-p : goal.invariant-loop-p
invariant-loop-p l = l.zeros ≡ run_zeros l.code.k (take l.p-index l.positions) l.s
