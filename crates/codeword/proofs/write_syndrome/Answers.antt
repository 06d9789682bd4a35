-- `write_syndrome`: the row of the first position less the page's checks, and the other rows added, make the syndrome.
use Rattle.std.proofs.Common.{◌-◌, length, take, sym, ◌∙◌, ap, subst, arith, length-take, length-drop, length-take-le}
use Rattle.theory.specs.Parts.{below_part}
use Rattle.theory.specs.Steps.{SymbolsBelow}
use Rattle.params.specs.Codes.{code_by}
use Rattle.rows.specs.Rows.{row_length}
use Rattle.codeword.specs.Sums.{added, less_below}
use Rattle.codeword.specs.Rest.{rest_sum, first_inside, one-branch}
use Rattle.codeword.specs.Checks.{syndrome_written}
use Rattle.codeword.proofs.write_syndrome.Goals as goal

pub copy_row_less-requires : goal.copy_row_less-requires
copy_row_less-requires c =
    let a = c.args in
    let r = c.requires in
    let n = c.data_count-n in
    let e = length-take-le a.code.k a.page.now (omega (arith, r.1.len, one-branch _ r.0.table)) in (
      r.0.q_low,
      r.0.q_high,
      r.2 ∙ sym e,
      simp (length-take, length-drop) (omega (arith, r.1.len, n.ensures)),
      omega (arith, e, first_inside _ r.0.table),
      below_part a.code.q (omega (arith, r.0.q_low)) 0 a.code.k a.page.now r.1.low,
      below_part a.code.q (omega (arith, r.0.q_low)) n.result (length a.page.now - n.result) a.page.now r.1.low,
    )

pub add_branches-requires : goal.add_branches-requires
add_branches-requires c =
    let a = c.args in
    let r = c.requires in
    let n = c.data_count-n in
    let e = length-take-le a.code.k a.page.now (omega (arith, r.1.len, one-branch _ r.0.table)) in (
      r.0,
      record {
        len = length-take-le n.result a.page.now (omega (arith, r.1.len, n.ensures)) ∙ n.ensures;
        low = below_part a.code.q (omega (arith, r.0.q_low)) 0 n.result a.page.now r.1.low;
      },
      subst (SymbolsBelow a.code.q a.code.k) (sym c.copy_row_less.ensures)
          (less_below a.code.q (omega (arith, r.0.q_low)) a.code.k _ _ (row_length _ (take a.code.k a.page.now) ∙ e)),
    )

pub returns : goal.returns
returns c =
    let a = c.args in
    let n = c.data_count-n in
    let code = code_by a.code a.positions.now in
    c.add_branches.ensures ∙ ap (added a.code.q (rest_sum code (take n.result a.page.now) a.code.b)) c.copy_row_less.ensures
    ∙ syndrome_written code c.requires.0.table a.page.now n.result c.requires.1.len n.ensures
