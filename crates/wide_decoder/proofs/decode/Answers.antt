use Rattle.model.specs.Code.{wide_code}
use Rattle.model.specs.Decoder.{state_by}
use Rattle.wide_calls.specs.Received.{decode_holds}
use Rattle.wide_decoder.proofs.decode.Goals as goal

pub returns-then-data_count-le128-clause-falling : goal.returns-then-data_count-le128-clause-falling
returns-then-data_count-le128-clause-falling g c =
    let a = c.args in
    let s = g.S.WideSymbol in
    (decode_holds (wide_code s.profile a.k a.b a.positions.now) (g.S.Symbol.numbers a.page.now) a.thresholds.now
    (state_by (g.S.Symbol.numbers a.res.now) (g.S.Symbol.numbers a.syndrome.now) (g.S.Symbol.numbers a.difference.now)) a.margins.now _ _ c.decode_within.ensures).1.0

pub returns-then-data_count-le128-clause-recovery : goal.returns-then-data_count-le128-clause-recovery
returns-then-data_count-le128-clause-recovery g c =
    let a = c.args in
    let s = g.S.WideSymbol in
    (decode_holds (wide_code s.profile a.k a.b a.positions.now) (g.S.Symbol.numbers a.page.now) a.thresholds.now
    (state_by (g.S.Symbol.numbers a.res.now) (g.S.Symbol.numbers a.syndrome.now) (g.S.Symbol.numbers a.difference.now)) a.margins.now _ _ c.decode_within.ensures).1.1

pub returns-clause-falling : goal.returns-clause-falling
returns-clause-falling g c =
    let a = c.args in
    let s = g.S.WideSymbol in
    (decode_holds (wide_code s.profile a.k a.b a.positions.now) (g.S.Symbol.numbers a.page.now) a.thresholds.now
    (state_by (g.S.Symbol.numbers a.res.now) (g.S.Symbol.numbers a.syndrome.now) (g.S.Symbol.numbers a.difference.now)) a.margins.now _ _ c.decode_within-2.ensures).1.0

pub returns-clause-recovery : goal.returns-clause-recovery
returns-clause-recovery g c =
    let a = c.args in
    let s = g.S.WideSymbol in
    (decode_holds (wide_code s.profile a.k a.b a.positions.now) (g.S.Symbol.numbers a.page.now) a.thresholds.now
    (state_by (g.S.Symbol.numbers a.res.now) (g.S.Symbol.numbers a.syndrome.now) (g.S.Symbol.numbers a.difference.now)) a.margins.now _ _ c.decode_within-2.ensures).1.1
