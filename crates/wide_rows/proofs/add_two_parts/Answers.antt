use Rattle.std.proofs.Common.{◌∙◌}
use Rattle.model.specs.Code.{highest}
use Rattle.rows.specs.Rows.{added_parts}
use Rattle.wide_rows.specs.Halves.{numbers_part}
use Rattle.wide_symbols.specs.Numbers.{numbers_length}
use Rattle.wide_rows.proofs.add_two_parts.Goals as goal

pub returns : goal.returns
returns g c =
    let n = g.met.S.Symbol.are_numbers in
    let s = g.S.Symbol.numbers c.args.acc.now in
    let u = g.S.Symbol.numbers c.args.src.now in
    simp (numbers_part n, ← numbers_length n) at c.add_two_into.ensures ∙ added_parts (highest g.S.WideSymbol.profile) c.args.a c.args.b s u
