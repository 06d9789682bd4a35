use Rattle.std.proofs.Common.{◌≡◌, List, ℕ, ◌+◌, ◌*◌, ap, refl, sym, ◌∙◌, arith, drop_of_length-le}
use Rattle.model.specs.Code.{Code, data_count}
use Rattle.params.specs.Codes.{code_by}
use Rattle.visits.specs.Progress.{Progress, progress}
use Rattle.passes.specs.Runs.{visits, passes_from, run_of, Kept, kept_by, passes_nil, pass_idle, pass_changed}
use Rattle.passes.proofs.run_counted.Goals as goal

-- what one pass more keeps of the start
pass_kept : {c : Code} {s p x : Progress} (n t : ℕ) → Kept c (4096 * n) s p → x ≡ visits c t (data_count c) p → Kept c (4096 * (n + 1)) s x
pass_kept {c} {s} {p} {x} n t k made =
    let m = kept_by c t (data_count c) p x k.ready made in
    record { ready = m.ready; few = omega (arith, m.few, k.few, m.ready.usable.table.sizes.data-high) }

-- after an idle pass
pub loop-p-preserved-then-tally-before : goal.loop-p-preserved-then-tally-before
loop-p-preserved-then-tally-before c =
    let o = c.loop-p in
    let e = c.next_smaller-p.ensures in
    let code = code_by c.args.code c.args.positions.now in
    let x = progress c.pass-tally.new.res c.pass-tally.new.syndrome c.pass-tally.new.difference c.pass-tally.result in
    record {
      few = omega (arith, e.0);
      inside = e.1;
      ready = pass_kept o.count _ o.invariant.ready c.pass-tally.ensures.made;
      left = ap (λ (ts : List ℕ). passes_from code (o.count + 1) ts x) e.2
          ∙ sym (pass_idle code o.count o.p (data_count code) c.args.thresholds.now _ x (omega arith) refl c.pass-tally.ensures.made (omega arith))
          ∙ o.invariant.left;
      counted = c.pass-tally.ensures.counted;
      kept = c.pass-tally.ensures.kept ∙ o.invariant.kept;
    }

-- after a pass that changed something
pub loop-p-preserved : goal.loop-p-preserved
loop-p-preserved c =
    let o = c.loop-p in
    let code = code_by c.args.code c.args.positions.now in
    let x = progress c.pass-tally.new.res c.pass-tally.new.syndrome c.pass-tally.new.difference c.pass-tally.result in
    record {
      few = omega arith;
      inside = omega arith;
      ready = pass_kept o.count _ o.invariant.ready c.pass-tally.ensures.made;
      left = sym (pass_changed code o.count o.p (data_count code) c.args.thresholds.now _ x (omega arith) refl c.pass-tally.ensures.made (λ e. omega arith))
          ∙ o.invariant.left;
      counted = c.pass-tally.ensures.counted;
      kept = c.pass-tally.ensures.kept ∙ o.invariant.kept;
    }

pub returns-clause-ran : goal.returns-clause-ran
unfolding run_of
returns-clause-ran c =
    let o = c.loop-p in
    let code = code_by c.args.code c.args.positions.now in
    let x = progress o.res o.syndrome o.difference o.tally in
    rw c.passed.ensures
    (sym (passes_nil code o.count x) ∙ ap (λ (ts : List ℕ). passes_from code o.count ts x) (sym (drop_of_length-le c.args.thresholds.now (omega arith))) ∙ o.invariant.left)
