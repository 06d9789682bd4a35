-- `add_two_parts`: a part of the data for each of the two rows, in one run.
use Rattle.std.proofs.Common.{◌∙◌}
use Rattle.rows.specs.Rows.{added_parts}
use Rattle.rows.proofs.add_two_parts.Goals as goal

pub returns : goal.returns
returns c =
    let a = c.args in
    c.add_two_into.ensures ∙ added_parts a.q a.a a.b a.acc.now a.src.now
