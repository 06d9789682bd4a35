-- `first_row`: the data of branch 0, turned by the first position.
use Rattle.std.proofs.Common.{sym, ◌∙◌, subst, arith, length-take-le}
use Rattle.theory.specs.Parts.{below_part}
use Rattle.theory.specs.Steps.{SymbolsBelow}
use Rattle.codeword.specs.Sums.{row_below}
use Rattle.codeword.specs.Rest.{first_inside, one-branch}
use Rattle.codeword.proofs.first_row.Goals as goal

pub copy_row-requires : goal.copy_row-requires
copy_row-requires c =
    let r = c.requires in
    let e = length-take-le c.args.code.k c.args.«data».now (omega (arith, r.1.len, one-branch _ r.0.table)) in
    (r.2 ∙ sym e, omega (arith, e, first_inside _ r.0.table))

pub returns-clause-below : goal.returns-clause-below
returns-clause-below c =
    let a = c.args in
    let r = c.requires in
    let e = length-take-le a.code.k a.«data».now (omega (arith, r.1.len, one-branch _ r.0.table)) in
    let low = below_part a.code.q (omega (arith, r.0.q_low)) 0 a.code.k a.«data».now r.1.low in
    subst (SymbolsBelow a.code.q a.code.k) (sym c.copy_row.ensures)
    (row_below a.code.q (omega (arith, r.0.q_low)) a.code.k _ _ (record { len = e; low = low }))
