-- `gather`: the first i + 1 estimates are written: the own difference, and the syndrome at the checks by the first i positions.
use Rattle.std.proofs.Common.{◌≡◌, ◌∷◌, ◌+◌, take}
use Rattle.model.specs.Code.{checks_by}
use Rattle.model.specs.Symbols.{symbols_at}
use Rattle.wide_visits.proofs.gather.Given as goal

abbrev pub invariant-loop-i : goal.invariant-loop-i
invariant-loop-i g l =
    take (l.i + 1) l.es ≡ g.S.Symbol.number l.fn.own ∷ symbols_at (g.S.Symbol.numbers l.s) (checks_by l.code.k (take l.i l.positions) l.j)
