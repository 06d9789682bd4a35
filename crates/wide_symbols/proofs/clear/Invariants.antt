-- `clear`: the first symbols are 0, the rest is as it was.
use Rattle.theory.specs.Written.{Written}
use Rattle.wide_symbols.proofs.clear.Given as goal

abbrev pub invariant-loop-x : goal.invariant-loop-x
invariant-loop-x g l = Written (λ k x. 0) (g.S.Symbol.numbers l.initial.s) l.x-index (g.S.Symbol.numbers l.s)
