-- `next_count`: m is the largest count of a candidate other than h so far.
use Rattle.std.proofs.Common.{◌≡◌, take}
use Rattle.model.specs.Vote.{other_count}
use Rattle.vote.proofs.next_count.Given as goal

abbrev pub invariant-loop-a : goal.invariant-loop-a
invariant-loop-a g l =
    let e = g.E.Symbol in
    e.number l.m ≡ other_count (e.numbers l.es) (e.number l.h) (take l.a-index (e.numbers l.es))
