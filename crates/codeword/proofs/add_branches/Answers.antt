use Rattle.std.proofs.Common.{◌∙◌, arith}
use Rattle.params.specs.Codes.{code_by}
use Rattle.codeword.specs.Sums.{added_below}
use Rattle.codeword.specs.Rest.{rest_none, first_lent, stands_first, stands-next, next-lent, lent_asks, rest_added}
use Rattle.codeword.proofs.add_branches.Goals as goal

pub add_rows-requires : goal.add_rows-requires
add_rows-requires c =
    let r = c.requires in
    lent_asks _ r.0 _ r.1 _ _ _ (first_lent _ r.0.table _ c.checks_each-each.ensures _) _ r.2

pub loop-r-init : goal.loop-r-init
loop-r-init c =
    let r = c.requires in
    let code = code_by c.args.code c.args.positions.now in
    let e = c.checks_each-each.ensures in (
      stands_first _ r.0.table _ e,
      c.add_rows.ensures ∙ rest_added code r.0.table _ r.1.len 0 _ _ (first_lent code r.0.table _ e _) _ _ (rest_none code _ _ _ r.2),
    )

pub add_rows-requires-in-loop-r : goal.add_rows-requires-in-loop-r
add_rows-requires-in-loop-r c =
    let r = c.requires in
    let i = c.loop-r.invariant in
    let q = c.args.code.q in
    lent_asks _ r.0 _ r.1 _ _ _ (next-lent _ r.0.table _ c.checks_each-each.ensures _ _ _ (omega arith) i.0 _) _
    (added_below q (omega (arith, r.0.q_low)) c.args.code.k _ _ _ r.2.len i.1)

pub loop-r-preserved : goal.loop-r-preserved
loop-r-preserved c =
    let r = c.requires in
    let i = c.loop-r.invariant in
    let code = code_by c.args.code c.args.positions.now in
    let e = c.checks_each-each.ensures in (
      stands-next _ r.0.table _ e _ _ _ (omega arith) i.0,
      c.add_rows-in-loop-r.ensures
          ∙ rest_added code r.0.table _ r.1.len c.loop-r._r _ _ (next-lent _ r.0.table _ e _ _ _ (omega arith) i.0 _) _ _ i.1,
    )
