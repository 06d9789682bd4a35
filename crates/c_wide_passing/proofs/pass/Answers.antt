-- Demand 3 follows from the outcome.
use Rattle.model.specs.Bytes.{positions_of}
use Rattle.model.specs.Code.{wide_code}
use Rattle.model.specs.Decoder.{state_by}
use Rattle.c_wide.specs.Decodes.{pass_holds}
use Rattle.c_wide_passing.proofs.pass.Goals as goal

pub returns-then-table-le64-clause-falling : goal.returns-then-table-le64-clause-falling
returns-then-table-le64-clause-falling g c =
    let a = c.args in
    (pass_holds (wide_code g.S.WideSymbol.profile a.k a.b (positions_of a.table.now)) a.threshold (state_by a.res.now a.syndrome.now a.difference.now) a.changes.now _ _ c.pass_by.ensures).1

pub returns-clause-falling : goal.returns-clause-falling
returns-clause-falling g c =
    let a = c.args in
    (pass_holds (wide_code g.S.WideSymbol.profile a.k a.b (positions_of a.table.now)) a.threshold (state_by a.res.now a.syndrome.now a.difference.now) a.changes.now _ _ c.pass_by-2.ensures).1
