use Rattle.std.proofs.Common.{get_or, sym, ap, subst, ◌∙◌, arith, length-take-le}
use Rattle.model.specs.Code.{highest}
use Rattle.model.specs.Symbols.{sub_each}
use Rattle.theory.specs.Steps.{SymbolsBelow}
use Rattle.rows.specs.Rows.{row, row_length}
use Rattle.codeword.specs.Sums.{added, less_below}
use Rattle.codeword.specs.Rest.{rest_sum, first_inside, one-branch}
use Rattle.codeword.specs.Checks.{syndrome_over}
use Rattle.wide_symbols.specs.Codes.{wide_code_by}
use Rattle.wide_symbols.specs.Numbers.{numbers_length, numbers_take}
use Rattle.wide_symbols.specs.Widths.{wide_low}
use Rattle.wide_codeword.proofs.write_syndrome.Goals as goal

pub less_row-requires : goal.less_row-requires
less_row-requires g c =
    let n = g.met.S.Symbol.are_numbers in
    let x = c.args.«data».now in
    let e = length-take-le c.args.code.k x (omega (arith, c.requires.1.len, numbers_length n x, one-branch _ c.requires.0)) in
    (c.requires.2 ∙ sym e, omega (arith, e, first_inside _ c.requires.0))

pub add_branches-requires : goal.add_branches-requires
add_branches-requires g c =
    let n = g.met.S.Symbol.are_numbers in
    let q = highest g.S.WideSymbol.profile in
    let k = c.args.code.k in
    let x = c.args.«data».now in
    let e = length-take-le k x (omega (arith, c.requires.1.len, numbers_length n x, one-branch _ c.requires.0)) in (
      c.requires.0,
      c.requires.1,
      subst (SymbolsBelow q k) (sym c.less_row.ensures)
          (less_below q (omega (arith, wide_low g.met.S.WideSymbol.is_wide)) k _ _ (row_length _ _ ∙ numbers_length n _ ∙ e)),
    )

pub returns : goal.returns
returns g c =
    let m = g.S.WideSymbol in
    let q = highest m.profile in
    let code = wide_code_by m.profile c.args.code c.args.positions.now in
    let u = g.S.Symbol.numbers c.args.«data».now in
    let s = g.S.Symbol.numbers c.args.s.now in
    c.add_branches.ensures
    ∙ ap (added q (rest_sum code u c.args.code.b))
    (c.less_row.ensures ∙ ap (λ x. sub_each q (row (get_or c.args.positions.now 0 0) x) s) (numbers_take g.met.S.Symbol.are_numbers c.args.code.k c.args.«data».now))
    ∙ syndrome_over code c.requires.0 u s c.requires.1.len
