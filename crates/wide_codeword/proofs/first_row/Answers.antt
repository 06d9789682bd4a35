use Rattle.std.proofs.Common.{get_or, sym, ap, subst, ◌∙◌, arith, length-take-le}
use Rattle.model.specs.Code.{highest}
use Rattle.theory.specs.Parts.{below_part}
use Rattle.theory.specs.Steps.{SymbolsBelow}
use Rattle.rows.specs.Rows.{row}
use Rattle.codeword.specs.Sums.{row_below}
use Rattle.codeword.specs.Rest.{first_inside, one-branch}
use Rattle.wide_symbols.specs.Numbers.{numbers_length, numbers_take}
use Rattle.wide_symbols.specs.Widths.{wide_low}
use Rattle.wide_codeword.proofs.first_row.Goals as goal

pub copy_row-requires : goal.copy_row-requires
copy_row-requires g c =
    let n = g.met.S.Symbol.are_numbers in
    let x = c.args.«data».now in
    let e = length-take-le c.args.code.k x (omega (arith, c.requires.1.len, numbers_length n x, one-branch _ c.requires.0)) in
    (c.requires.2 ∙ sym e, omega (arith, e, first_inside _ c.requires.0))

pub returns-clause-written : goal.returns-clause-written
returns-clause-written g c = c.copy_row.ensures ∙ ap (row (get_or c.args.positions.now 0 0)) (numbers_take g.met.S.Symbol.are_numbers c.args.code.k c.args.«data».now)

pub returns-clause-below : goal.returns-clause-below
returns-clause-below g c =
    let q = highest g.S.WideSymbol.profile in
    let u = g.S.Symbol.numbers c.args.«data».now in
    let k = c.args.code.k in
    let low = wide_low g.met.S.WideSymbol.is_wide in
    subst (SymbolsBelow q k)
    (sym (c.copy_row.ensures ∙ ap (row (get_or c.args.positions.now 0 0)) (numbers_take g.met.S.Symbol.are_numbers k c.args.«data».now)))
    (row_below q (omega (arith, low)) k _ _
    (record { len = length-take-le k u (omega (arith, c.requires.1.len, one-branch _ c.requires.0)); low = below_part q (omega (arith, low)) 0 k u c.requires.1.low }))
