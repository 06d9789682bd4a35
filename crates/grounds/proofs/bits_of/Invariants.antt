-- `bits_of`: the bits of the estimates from i on are worked out.
use Rattle.grounds.specs.Told.{FromBits}
use Rattle.grounds.proofs.bits_of.Given as goal

abbrev pub invariant-loop-i : goal.invariant-loop-i
invariant-loop-i g l = FromBits (g.E.Symbol.numbers l.es) (g.E.Symbol.number l.h) l.i l.bits
