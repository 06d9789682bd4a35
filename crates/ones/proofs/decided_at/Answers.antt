-- `decided_at`: the word holds the estimates, and its ones decide as the vote does.
use Rattle.std.proofs.Common.{ap, ◌∙◌, refl}
use Rattle.model.specs.Symbols.{bit}
use Rattle.ones.specs.Words.{in_word_at, word_decides}
use Rattle.ones.proofs.decided_at.Goals as goal

pub decide-requires : goal.decide-requires
decide-requires c = let r = c.requires in let w = in_word_at r.0 c.args.j c.args.own _ _ r.2 r.3 refl c.gather-word.ensures in (w.few, w.set)

pub returns : goal.returns
returns c =
    let r = c.requires in
    c.decide.ensures ∙ ap bit (word_decides (in_word_at r.0 c.args.j c.args.own _ _ r.2 r.3 refl c.gather-word.ensures) _)
