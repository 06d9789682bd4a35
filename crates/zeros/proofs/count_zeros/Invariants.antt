-- `count_zeros`: the zeros of the first r branches are counted.
use Rattle.params.specs.Codes.{code_by}
use Rattle.zeros.specs.Counting.{Counting}
use Rattle.zeros.proofs.count_zeros.Given as goal

abbrev pub invariant-loop-r : goal.invariant-loop-r
invariant-loop-r l = Counting (code_by l.code l.positions) l.s l.initial.zeros l.from l.at l._r l.zeros
