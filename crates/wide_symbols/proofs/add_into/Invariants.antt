-- `add_into`: the first i symbols are sums, the rest is as it was.
use Rattle.std.proofs.Common.{get_or}
use Rattle.model.specs.Code.{highest}
use Rattle.model.specs.Symbols.{add}
use Rattle.theory.specs.Written.{Written}
use Rattle.wide_symbols.proofs.add_into.Given as goal

abbrev pub invariant-loop-i : goal.invariant-loop-i
invariant-loop-i g l = let s = g.S.WideSymbol in Written (λ k x. add (highest s.profile) x (get_or (g.S.Symbol.numbers l.src) k 0)) (g.S.Symbol.numbers l.initial.acc) l.i (g.S.Symbol.numbers l.acc)
