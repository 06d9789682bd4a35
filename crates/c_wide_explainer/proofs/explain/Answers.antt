-- The outcome by the positions read is that by the table's, in either buffer.
use Rattle.std.proofs.Common.{◌∙◌}
use Rattle.model.specs.Bytes.{positions_of}
use Rattle.model.specs.Code.{highest}
use Rattle.model.specs.Decoder.{state_by}
use Rattle.c_wide.specs.Calls.{explain_whole}
use Rattle.c_wide_explainer.proofs.explain.Goals as goal

pub returns-then-table-le64 : goal.returns-then-table-le64
returns-then-table-le64 g c =
    let a = c.args in
    let f = g.S.WideSymbol.profile in
    c.explain_with.ensures
    ∙ explain_whole f (highest f) a.k a.b _ (positions_of a.table.now) c.read_positions-n.ensures.read a.threshold a.symbol (state_by a.res.now a.syndrome.now a.difference.now) a.explanation.now

pub returns : goal.returns
returns g c =
    let a = c.args in
    let f = g.S.WideSymbol.profile in
    c.explain_with-2.ensures
    ∙ explain_whole f (highest f) a.k a.b _ (positions_of a.table.now) c.read_positions-n-2.ensures.read a.threshold a.symbol (state_by a.res.now a.syndrome.now a.difference.now) a.explanation.now
