-- `count_equal`: n counts v among the estimates so far.
use Rattle.std.proofs.Common.{◌≡◌, ◌≤◌, take}
use Rattle.model.specs.Symbols.{count}
use Rattle.vote.proofs.count_equal.Given as goal

abbrev pub invariant-loop-e : goal.invariant-loop-e
invariant-loop-e g l =
    let e = g.E.Symbol in
    (e.number l.n ≤ l.e-index) × (e.number l.n ≡ count (e.number l.v) (take l.e-index (e.numbers l.es)))
