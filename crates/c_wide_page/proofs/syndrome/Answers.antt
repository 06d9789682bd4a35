use Rattle.std.proofs.Common.{◌∙◌}
use Rattle.model.specs.Bytes.{positions_of}
use Rattle.model.specs.Code.{highest}
use Rattle.c_wide.specs.Calls.{syndrome_whole}
use Rattle.c_wide_page.proofs.syndrome.Goals as goal

pub returns-then-table-le64 : goal.returns-then-table-le64
returns-then-table-le64 g c =
    let f = g.S.WideSymbol.profile in
    let a = c.args in
    c.syndrome_with.ensures ∙ syndrome_whole f (highest f) a.k a.b _ (positions_of a.table.now) c.read_positions-n.ensures.read a.page.now a.syndrome.now

pub returns : goal.returns
returns g c =
    let f = g.S.WideSymbol.profile in
    let a = c.args in
    c.syndrome_with-2.ensures ∙ syndrome_whole f (highest f) a.k a.b _ (positions_of a.table.now) c.read_positions-n-2.ensures.read a.page.now a.syndrome.now
