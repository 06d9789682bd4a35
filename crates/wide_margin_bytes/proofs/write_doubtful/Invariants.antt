-- `write_doubtful`: of the bytes those of the symbols before j are the margins, and of the others those of the firm symbols.
use Rattle.margin_bytes.specs.Phases.{HeldBytes}
use Rattle.wide_symbols.specs.Codes.{wide_code_by}
use Rattle.wide_margin_bytes.proofs.write_doubtful.Given as goal

abbrev pub invariant-loop-j : goal.invariant-loop-j
invariant-loop-j g l = let h = g.S.WideSymbol in HeldBytes (wide_code_by h.profile l.code l.positions) l.zeros (g.S.Symbol.numbers l.s) (g.S.Symbol.numbers l.d) l.out l.j
