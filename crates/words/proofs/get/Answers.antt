-- `get`: the four bytes make the number.
use Rattle.std.proofs.Common.{◌∙◌}
use Rattle.words.specs.Four.{four-at}
use Rattle.words.proofs.get.Goals as goal

pub returns : goal.returns
returns c = c.joined.ensures ∙ four-at c.args.bytes.now c.args.at
