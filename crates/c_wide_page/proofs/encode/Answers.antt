use Rattle.model.specs.Bytes.{positions_of}
use Rattle.model.specs.Code.{highest}
use Rattle.c_wide.specs.Calls.{encode_whole}
use Rattle.c_wide_page.proofs.encode.Goals as goal

pub returns-then-table-le64 : goal.returns-then-table-le64
returns-then-table-le64 g c =
    let f = g.S.WideSymbol.profile in
    let a = c.args in
    let e = c.encode_with.ensures in
    let h = encode_whole f (highest f) a.k a.b _ (positions_of a.table.now) c.read_positions-n.ensures.read a.«data».now a.page.now _ _ (e.outcome, e.word) in
    record { outcome = h.0; word = h.1 }

pub returns : goal.returns
returns g c =
    let f = g.S.WideSymbol.profile in
    let a = c.args in
    let e = c.encode_with-2.ensures in
    let h = encode_whole f (highest f) a.k a.b _ (positions_of a.table.now) c.read_positions-n-2.ensures.read a.«data».now a.page.now _ _ (e.outcome, e.word) in
    record { outcome = h.0; word = h.1 }
