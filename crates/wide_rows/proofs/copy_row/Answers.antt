use Rattle.std.proofs.Common.{◌∙◌, arith}
use Rattle.rows.specs.Rows.{copied_row}
use Rattle.wide_rows.specs.Halves.{numbers_part, numbers_both}
use Rattle.wide_symbols.specs.Numbers.{numbers_length, numbers_take}
use Rattle.wide_rows.proofs.copy_row.Goals as goal

pub returns : goal.returns
returns g c =
    let n = g.met.S.Symbol.are_numbers in
    let s = g.S.Symbol.numbers c.args.dst.now in
    let u = g.S.Symbol.numbers c.args.src.now in
    numbers_both n _ _ _ _
    ∙ copied_row c.args.p s u (omega (arith, numbers_length n c.args.dst.now, numbers_length n c.args.src.now)) (omega (arith, numbers_length n c.args.src.now)) _ _
    (simp (numbers_length n) (c.copy_into.ensures ∙ numbers_take n _ _)) (simp (numbers_length n) (c.copy_into-2.ensures ∙ numbers_part n _ _ _))
