use Rattle.std.proofs.Common.{refl, ap, length, ◌∙◌, arith}
use Rattle.params.specs.Codes.{code_by}
use Rattle.theory.specs.Branches.{next-branch}
use Rattle.checks.specs.Checks.{at_run}
use Rattle.zeros.specs.Counting.{counting_none, counting_part, counting_turn, counting_all}
use Rattle.zeros.specs.Counts.{length_zero_counts}
use Rattle.recount.specs.Recount.{recounts, recounted_zeros, unchanged_zeros}
use Rattle.recount.proofs.write_check.Goals as goal

pub returns-then-gained-lost : goal.returns-then-gained-lost
returns-then-gained-lost c =
    let p = c.requires in
    (refl, p.3 ∙ unchanged_zeros _ _ _ _ (omega (arith, p.0.len)) (omega (arith, c.equal-gained.ensures.0, c.equal-lost.ensures.0)))

pub loop-r-init : goal.loop-r-init
loop-r-init c = counting_none _ _ _ (ap length c.requires.3 ∙ length_zero_counts _ _)

pub recount_run-requires : goal.recount_run-requires
recount_run-requires c =
    let p = c.requires in
    let w = c.loop-r.invariant in
    let t = p.0.table in
    rw ((next-branch t.sizes w.passed _ p.1 (omega arith)).run, counting_part t.sizes w _ p.3 (omega arith))
    (recounts (at_run (code_by c.args.code c.args.positions.now) t c.loop-r._r (omega arith) _ p.0.len) _ c.args.v p.2 _ _
    c.equal-gained.ensures.0 c.equal-lost.ensures.0)

pub loop-r-preserved : goal.loop-r-preserved
loop-r-preserved c =
    let p = c.requires in
    let w = c.loop-r.invariant in
    let t = p.0.table in
    counting_turn t.sizes w _ p.1 (omega arith) _
    (recounted_zeros (at_run (code_by c.args.code c.args.positions.now) t c.loop-r._r (omega arith) _ p.0.len) _ c.args.v p.2 _ _
    c.equal-gained.ensures.0 c.equal-lost.ensures.0 _ _ _ (next-branch t.sizes w.passed _ p.1 (omega arith)).run
    (counting_part t.sizes w _ p.3 (omega arith)) c.recount_run.ensures)

pub returns : goal.returns
returns c = (refl, counting_all c.requires.0.table.sizes c.loop-r.invariant (omega arith))
