-- `past_firm`: the blocks passed have so many zeros at every symbol, and those from j on are left.
use Rattle.std.proofs.Common.{◌≡◌, ◌-◌, take, drop}
use Rattle.firm_symbols.specs.Phases.{zeros_at, PastFirm}
use Rattle.firm_symbols.proofs.past_firm.Given as goal

abbrev pub invariant-loop-n : goal.invariant-loop-n
invariant-loop-n l =
    (l.n-iterator.a.rest.now ≡ take (l.end - l.j) (drop l.j l.zeros))
    × (l.n-iterator.b.rest.now ≡ take (l.end - l.j) (drop l.j l.d))
    × (l.n-iterator.a.size ≡ 32)
    × (l.n-iterator.b.size ≡ 32)
    × PastFirm l.bound (zeros_at l.zeros l.d) l.from l.end l.j
