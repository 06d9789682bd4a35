-- What the vote by counters tells, and that it is the vote where the estimates are counted.
use Rattle.std.specs.Prelude.{◌≡◌, List, ℕ, get_or}
use Rattle.std.proofs.Common.{ap}
use Rattle.model.specs.Symbols.{Below}
use Rattle.model.specs.Vote.{Votes, votes_read, counted}
use Rattle.theory.specs.Counters.{votes_counted}
use Rattle.vote.specs.declared.Vote.{Vote}
use Rattle.vote.specs.Leading.{vote_of}

-- what the counter of a value holds
abbrev pub held : List ℕ → ℕ → ℕ
held counters v = get_or counters v 0

-- what a vote tells, as the struct that the code hands back
abbrev pub as_vote : Votes → Vote ℕ
as_vote v = record { leader = v.leader; lead = v.lead; next = v.next; zeros = v.zeros }

-- the vote read from the counters of all estimates is the vote
pub read_counted : (es : List ℕ) → Below 256 es → as_vote (votes_read (counted 256 es) es) ≡ vote_of es
read_counted es low = ap as_vote (votes_counted 256 es low)
