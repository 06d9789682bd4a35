-- What a round of votes returns: one number for the votes over all lists, whichever way these are taken.
use Rattle.std.specs.Prelude.{ℕ, zero, suc, ◌+◌, ◌*◌, ◌/◌, ◌%◌, List, length, take, drop}
use Rattle.model.specs.Symbols.{choose}
use Rattle.model.specs.Calls.{within}
use Rattle.vote.specs.Leading.{vote_of}
use Rattle.vote.specs.declared.Vote.{Vote}

-- what a vote tells, in one number: a byte each, the leader lowest
abbrev pub packed : Vote ℕ → ℕ
packed v = v.leader + 256 * v.lead + 65536 * v.next + 16777216 * v.zeros

-- list i of those of `each` estimates, one after the other
abbrev pub list_at : ℕ → List ℕ → ℕ → List ℕ
list_at each lists i = take each (drop (i * each) lists)

-- the votes over the first n lists, added modulo 2 to the 32
unfoldable pub sum_of_votes : ℕ → List ℕ → ℕ → ℕ
sum_of_votes each lists zero = 0
sum_of_votes each lists (suc n) = (sum_of_votes each lists n + packed (vote_of (list_at each lists n))) % 4294967296

-- the votes over all whole lists, 0 where lists are not of 2 to 33 estimates
unfoldable pub checksum : ℕ → List ℕ → ℕ
checksum each lists = choose (within 2 33 each) (sum_of_votes each lists (length lists / each)) 0
