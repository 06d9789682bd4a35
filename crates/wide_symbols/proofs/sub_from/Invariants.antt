-- `sub_from`: the first i symbols are differences, the rest is as it was.
use Rattle.std.proofs.Common.{get_or}
use Rattle.model.specs.Code.{highest}
use Rattle.model.specs.Symbols.{sub}
use Rattle.theory.specs.Written.{Written}
use Rattle.wide_symbols.proofs.sub_from.Given as goal

abbrev pub invariant-loop-i : goal.invariant-loop-i
invariant-loop-i g l = let s = g.S.WideSymbol in Written (λ k x. sub (highest s.profile) (get_or (g.S.Symbol.numbers l.src) k 0) x) (g.S.Symbol.numbers l.initial.acc) l.i (g.S.Symbol.numbers l.acc)
