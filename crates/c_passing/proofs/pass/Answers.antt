-- `pass`: what holds of a pass with the positions that are read holds with those of the table, in either buffer.
use Rattle.model.specs.Bytes.{positions_of}
use Rattle.params.specs.Codes.{profile_of}
use Rattle.position_bytes.specs.Reads.{pass_whole}
use Rattle.refusals.specs.Numbers.{zero_on}
use Rattle.c_passing.proofs.pass.Goals as goal

pub returns-then-table-le64-clause-outcome : goal.returns-then-table-le64-clause-outcome
returns-then-table-le64-clause-outcome c =
    let a = c.args in
    (pass_whole (profile_of a.bits) a.q a.k a.b _ (positions_of a.table.now) c.read_positions-n.ensures.read _ _ _ _ _ c.pass_sized.ensures).0

pub returns-then-table-le64-clause-falling : goal.returns-then-table-le64-clause-falling
returns-then-table-le64-clause-falling c =
    let a = c.args in
    zero_on c.pass_sized.result
    (pass_whole (profile_of a.bits) a.q a.k a.b _ (positions_of a.table.now) c.read_positions-n.ensures.read _ _ _ _ _ c.pass_sized.ensures).1

pub returns-clause-outcome : goal.returns-clause-outcome
returns-clause-outcome c =
    let a = c.args in
    (pass_whole (profile_of a.bits) a.q a.k a.b _ (positions_of a.table.now) c.read_positions-n-2.ensures.read _ _ _ _ _ c.pass_sized-2.ensures).0

pub returns-clause-falling : goal.returns-clause-falling
returns-clause-falling c =
    let a = c.args in
    zero_on c.pass_sized-2.result
    (pass_whole (profile_of a.bits) a.q a.k a.b _ (positions_of a.table.now) c.read_positions-n-2.ensures.read _ _ _ _ _ c.pass_sized-2.ensures).1
