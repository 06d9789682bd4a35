-- `copy_into`: the first i symbols are those of src, the rest is as it was.
use Rattle.std.proofs.Common.{get_or}
use Rattle.theory.specs.Written.{Written}
use Rattle.wide_symbols.proofs.copy_into.Given as goal

abbrev pub invariant-loop-i : goal.invariant-loop-i
invariant-loop-i g l = Written (λ k x. get_or (g.S.Symbol.numbers l.src) k 0) (g.S.Symbol.numbers l.initial.dst) l.i (g.S.Symbol.numbers l.dst)
