-- `weight_of`: n is the weight of the symbols so far.
use Rattle.std.proofs.Common.{◌≡◌, take}
use Rattle.model.specs.Symbols.{weight}
use Rattle.wide_symbols.proofs.weight_of.Given as goal

abbrev pub invariant-loop-x : goal.invariant-loop-x
invariant-loop-x g l = g.S.Symbol.number l.n ≡ weight (take l.x-index (g.S.Symbol.numbers l.s))
