use Rattle.std.proofs.Common.{◌≡◌, sym, ◌∙◌, arith}
use Rattle.blocks.specs.Blocks.{broken_more, whole_next, part-sum}
use Rattle.blocks.proofs.first_broken.Goals as goal

pub loop-at-preserved : goal.loop-at-preserved
loop-at-preserved c =
    let a = c.args in
    let l = c.loop-at in
    let zero : c.sum_of.result ≡ 0 = omega arith in
    broken_more l.invariant c.loop-at-test.true
    (sym (part-sum a.q a.block l.at a.s.now (whole_next l.invariant.whole c.loop-at-test.true).0) ∙ sym c.sum_of.ensures ∙ zero)
