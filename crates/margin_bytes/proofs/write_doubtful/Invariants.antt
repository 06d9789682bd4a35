-- `write_doubtful`: of the bytes those of the symbols before j are the margins, and of the others those of the firm symbols.
use Rattle.params.specs.Codes.{code_by}
use Rattle.margin_bytes.specs.Phases.{HeldBytes}
use Rattle.margin_bytes.proofs.write_doubtful.Given as goal

abbrev pub invariant-loop-j : goal.invariant-loop-j
invariant-loop-j l = HeldBytes (code_by l.code l.positions) l.zeros l.s l.d l.out l.j
