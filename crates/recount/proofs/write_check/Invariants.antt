-- `write_check`: the counts of the first r branches are those of the syndrome with v at check c.
use Rattle.params.specs.Codes.{code_by}
use Rattle.zeros.specs.Counting.{Counting}
use Rattle.recount.proofs.write_check.Given as goal

abbrev pub invariant-loop-r : goal.invariant-loop-r
invariant-loop-r l = Counting (code_by l.code l.positions) l.s l.initial.zeros l.from l.at l._r l.zeros
