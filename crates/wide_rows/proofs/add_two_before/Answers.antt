use Rattle.std.proofs.Common.{◌∙◌, arith}
use Rattle.model.specs.Code.{highest}
use Rattle.rows.specs.Rows.{added_before}
use Rattle.wide_rows.specs.Halves.{numbers_part, numbers_lead, numbers_both}
use Rattle.wide_symbols.specs.Numbers.{numbers_length}
use Rattle.wide_rows.proofs.add_two_before.Goals as goal

pub returns : goal.returns
returns g c =
    let n = g.met.S.Symbol.are_numbers in
    let s = g.S.Symbol.numbers c.args.acc.now in
    let u = g.S.Symbol.numbers c.args.src.now in
    numbers_both n _ _ _ _
    ∙ added_before (highest g.S.WideSymbol.profile) c.args.p c.args.r u (omega arith) (omega (arith, numbers_length n c.args.src.now)) s
    (omega (arith, numbers_length n c.args.acc.now)) _ _
    (simp (numbers_length n) (rw (numbers_part n) at c.add_two_parts.ensures))
    (simp (numbers_length n) (rw (numbers_lead n) at c.add_two_parts-2.ensures))
