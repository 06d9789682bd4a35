-- `get`: the two bytes make the number.
use Rattle.std.proofs.Common.{◌∙◌}
use Rattle.pairs.specs.Two.{two_at}
use Rattle.pairs.proofs.get.Goals as goal

pub returns : goal.returns
returns c = c.joined.ensures ∙ two_at c.args.bytes.now c.args.at
