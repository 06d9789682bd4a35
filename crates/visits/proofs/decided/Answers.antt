-- `decided`: the counts of the vote settle what is subtracted.
use Rattle.std.proofs.Common.{◌≡◌, ◌∙◌, arith}
use Rattle.theory.specs.Voting.{next_le_lead}
use Rattle.vote.specs.Leading.{vote_of}
use Rattle.visits.specs.Decisions.{subtract_behind, subtract_leader}
use Rattle.visits.proofs.decided.Goals as goal

pub overflow_sub-v : goal.overflow_sub-v
overflow_sub-v c = rw c.vote_by-v.ensures.told (next_le_lead _)

pub returns-then-v-threshold-clause-subtracts : goal.returns-then-v-threshold-clause-subtracts
returns-then-v-threshold-clause-subtracts c =
    let es = c.args.es.now in
    let e = c.vote_by-v.ensures.told in
    let lead : c.vote_by-v.result.lead ≡ (vote_of es).lead = cc in
    let next : c.vote_by-v.result.next ≡ (vote_of es).next = cc in
    subtract_behind c.args.threshold es (omega arith)

pub returns-clause-subtracts : goal.returns-clause-subtracts
returns-clause-subtracts c =
    let es = c.args.es.now in
    let e = c.vote_by-v.ensures.told in
    let leader : c.vote_by-v.result.leader ≡ (vote_of es).leader = cc in
    let lead : c.vote_by-v.result.lead ≡ (vote_of es).lead = cc in
    let next : c.vote_by-v.result.next ≡ (vote_of es).next = cc in
    leader ∙ subtract_leader c.args.threshold es (omega arith)
