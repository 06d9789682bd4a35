-- `leader_of`: best is the first of the candidates so far, with its count; at the end, or where it is more than half of them, it is the leader.
use Rattle.std.proofs.Common.{◌≡◌, take, get_or}
use Rattle.model.specs.Vote.{first_of}
use Rattle.vote.specs.Leading.{lead_of, lead_numbers}
use Rattle.vote.proofs.leader_of.Given as goal

abbrev pub invariant-loop-a : goal.invariant-loop-a
invariant-loop-a g l =
    let es = g.E.Symbol.numbers l.es in
    lead_numbers g.E.Symbol.number l.best ≡ lead_of es (first_of es (get_or es 0 0) (take l.a-index es))
