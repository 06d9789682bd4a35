-- `vote_by`: counters that are clear and 256 long are 256 zeros.
use Rattle.std.proofs.Common.{ap, ◌∙◌}
use Rattle.model.specs.Vote.{zero_counters}
use Rattle.visits.proofs.vote_by.Goals as goal

pub vote_counted-requires : goal.vote_counted-requires
vote_counted-requires c = let r = c.requires in (r.0, r.1, r.2 ∙ ap zero_counters c.if-counters-eq256.true)
