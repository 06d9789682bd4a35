use Rattle.std.proofs.Common.{◌∙◌, arith}
use Rattle.model.specs.Code.{highest}
use Rattle.rows.specs.Rows.{added_row}
use Rattle.wide_rows.specs.Halves.{numbers_part, numbers_lead, numbers_both}
use Rattle.wide_symbols.specs.Numbers.{numbers_length, numbers_take}
use Rattle.wide_rows.proofs.add_row.Goals as goal

pub returns : goal.returns
returns g c =
    let n = g.met.S.Symbol.are_numbers in
    let s = g.S.Symbol.numbers c.args.acc.now in
    let u = g.S.Symbol.numbers c.args.src.now in
    numbers_both n _ _ _ _
    ∙ added_row c.args.p s u (omega (arith, numbers_length n c.args.acc.now, numbers_length n c.args.src.now)) (omega (arith, numbers_length n c.args.src.now))
    (highest g.S.WideSymbol.profile) _ _
    (simp (numbers_length n) (rw (numbers_part n, numbers_take n) at c.add_into.ensures))
    (simp (numbers_length n) (rw (numbers_lead n, numbers_part n) at c.add_into-2.ensures))
