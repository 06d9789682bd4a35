use Rattle.std.proofs.Common.{◌≡◌, List, ℕ, ◌+◌, ◌*◌, ap, refl, sym, ◌∙◌, arith, drop_of_length-le}
use Rattle.model.specs.Code.{Code, data_count}
use Rattle.visits.specs.Progress.{Progress, progress}
use Rattle.passes.specs.Runs.{visits, passes_from, run_of, KeptIn, kept_by, passes_nil, pass_idle, pass_changed}
use Rattle.wide_symbols.specs.Codes.{wide_code_by}
use Rattle.wide_passes.proofs.run_counted.Goals as goal

-- what one pass more keeps of the start
pass_kept : {w : ℕ} {c : Code} {s p x : Progress} (n t : ℕ) → KeptIn w c (4096 * n) s p → x ≡ visits c t (data_count c) p → KeptIn w c (4096 * (n + 1)) s x
pass_kept {w} {c} {s} {p} {x} n t k made =
    let m = kept_by c t (data_count c) p x k.ready made in
    record { ready = m.ready; few = omega (arith, m.few, k.few, m.ready.usable.table.sizes.data-high) }

-- after an idle pass
pub loop-p-preserved-then-tally-before : goal.loop-p-preserved-then-tally-before
loop-p-preserved-then-tally-before g c =
    let o = c.loop-p in
    let e = c.next_smaller-p.ensures in
    let n = g.S.Symbol.numbers in
    let code = wide_code_by g.S.WideSymbol.profile c.args.code c.args.positions.now in
    let x = progress (n c.pass-tally.new.res) (n c.pass-tally.new.syndrome) (n c.pass-tally.new.difference) c.pass-tally.result in
    record {
      few = omega (arith, e.0);
      inside = e.1;
      kept = pass_kept o.count _ o.invariant.kept c.pass-tally.ensures.made;
      left = ap (λ (ts : List ℕ). passes_from code (o.count + 1) ts x) e.2
          ∙ sym (pass_idle code o.count o.p (data_count code) c.args.thresholds.now _ x (omega arith) refl c.pass-tally.ensures.made c.if-tally-before.true)
          ∙ o.invariant.left;
      counted = c.pass-tally.ensures.counted;
      marked = c.pass-tally.ensures.marked;
    }

-- after a pass that changed something
pub loop-p-preserved : goal.loop-p-preserved
loop-p-preserved g c =
    let o = c.loop-p in
    let n = g.S.Symbol.numbers in
    let code = wide_code_by g.S.WideSymbol.profile c.args.code c.args.positions.now in
    let x = progress (n c.pass-tally.new.res) (n c.pass-tally.new.syndrome) (n c.pass-tally.new.difference) c.pass-tally.result in
    record {
      few = omega arith;
      inside = omega arith;
      kept = pass_kept o.count _ o.invariant.kept c.pass-tally.ensures.made;
      left = sym (pass_changed code o.count o.p (data_count code) c.args.thresholds.now _ x (omega arith) refl c.pass-tally.ensures.made c.if-tally-before.false)
          ∙ o.invariant.left;
      counted = c.pass-tally.ensures.counted;
      marked = c.pass-tally.ensures.marked;
    }

pub returns-clause-ran : goal.returns-clause-ran
unfolding run_of
returns-clause-ran g c =
    let o = c.loop-p in
    let n = g.S.Symbol.numbers in
    let code = wide_code_by g.S.WideSymbol.profile c.args.code c.args.positions.now in
    let x = progress (n o.res) (n o.syndrome) (n o.difference) o.tally in
    rw c.passed.ensures
    (sym (passes_nil code o.count x) ∙ ap (λ (ts : List ℕ). passes_from code o.count ts x) (sym (drop_of_length-le c.args.thresholds.now (omega arith))) ∙ o.invariant.left)
