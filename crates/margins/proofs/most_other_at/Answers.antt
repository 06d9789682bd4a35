-- `most_other_at`: on bit pages the estimates are bits.
use Rattle.margins.proofs.most_other_at.Goals as goal

pub ones_at-requires : goal.ones_at-requires
ones_at-requires c = let r = c.requires in let low = r.2 c.if-bits.true in (r.0, r.1, low.0, low.1)
