-- `ones_at`: the word holds the estimates, and the count of its ones is that of the other value.
use Rattle.std.proofs.Common.{refl}
use Rattle.ones.specs.Words.{in_word_at, word_others}
use Rattle.ones.proofs.ones_at.Goals as goal

pub returns : goal.returns
returns c = let r = c.requires in word_others (in_word_at r.0 c.args.j c.args.own _ _ r.2 r.3 refl c.gather.ensures)
