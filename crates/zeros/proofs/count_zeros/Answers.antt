use Rattle.std.proofs.Common.{List, ℕ, ◌∙◌, ap, arith}
use Rattle.params.specs.Codes.{code_by}
use Rattle.theory.specs.Branches.{next-branch}
use Rattle.checks.specs.Checks.{at_run}
use Rattle.zeros.specs.Counting.{counting_part_length, counting_part_clear, counting_turn, counting_all}
use Rattle.zeros.specs.Counts.{run_zeros}
use Rattle.zeros.proofs.count_zeros.Goals as goal

pub count_run-requires : goal.count_run-requires
count_run-requires c =
    let l = c.loop-r.invariant in
    let t = c.requires.0 in
    let sizes = t.table.sizes in (
      rw (next-branch sizes l.passed _ c.checks_each-each.ensures (omega arith)).run
          (at_run (code_by c.args.code c.args.positions.now) t.table _ (omega arith) _ t.len),
      counting_part_length sizes l (omega arith),
      counting_part_clear sizes l c.requires.2,
    )

pub loop-r-preserved : goal.loop-r-preserved
loop-r-preserved c =
    let l = c.loop-r.invariant in
    let sizes = c.requires.0.table.sizes in
    let each = c.checks_each-each.ensures in
    counting_turn sizes l _ each (omega arith) _
    (c.count_run.ensures
    ∙ ap (λ (ps : List ℕ). run_zeros c.args.code.k ps c.args.s.now) (next-branch sizes l.passed _ each (omega arith)).run)

pub returns : goal.returns
returns c = counting_all c.requires.0.table.sizes c.loop-r.invariant (omega arith)
