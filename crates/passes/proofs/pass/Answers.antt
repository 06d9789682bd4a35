use Rattle.std.proofs.Common.{◌≡◌, List, ℕ, ◌+◌, ◌-◌, ◌<◌, ◌≤◌, length, ap, refl, sym, ◌∙◌, subst, arith, zero-mul, mul-le-mul_right}
use Rattle.model.specs.Code.{Code, data_count, checks_each}
use Rattle.params.specs.Codes.{code_by}
use Rattle.checks.specs.Places.{AtBranch, branch_first, branch_next, same_end, in_placed, in_along, in_later, in_end, in_onward}
use Rattle.checks.specs.declared.Place.{Place}
use Rattle.open_symbols.specs.Settled.{FirstOpen}
use Rattle.theory.specs.Codes.{Usable}
use Rattle.theory.specs.Counters.{Clear}
use Rattle.zeros.specs.Counts.{zero_counts, length_zero_counts}
use Rattle.visits.specs.Progress.{Progress, progress, visit_of}
use Rattle.visits.specs.Settled.{settled_left}
use Rattle.passes.specs.Runs.{visits, visits_from, visits_suc, from_none, from_skip, visits-from, kept_by}
use Rattle.tally.specs.declared.Tally.{Tally}
use Rattle.passes.proofs.pass.Goals as goal

-- visits that change nothing can be passed over
visits_skip : (c : Code) (t j m : ℕ) (p x : Progress) → x ≡ visits c t j p → j ≤ m → ((i : ℕ) → j ≤ i → i < m → x ≡ visit_of c (record { symbol = i; threshold = t }) x) → x ≡ visits c t m p
visits_skip c t j m p x e h f =
    from_skip c t j 0 (m - j) x x (from_none c t j 0 x refl) (omega arith) (λ i l u. f (j + i) (omega arith) (omega arith))
    ∙ ap (visits_from c t j (m - j)) e ∙ visits-from c t j (m - j) m p (omega arith)

-- so those to the symbols before the first one that the zeros do not settle
skipped : {c : Code} {t j b m each : ℕ} {r s d zs : List ℕ} {y : Tally} (p : Progress) → Usable c → each ≡ checks_each c → b ≤ data_count c → zs ≡ zero_counts c s
    → FirstOpen each t d zs j b m → progress r s d y ≡ visits c t j p → progress r s d y ≡ visits c t m p
skipped {c} {t} {j} {b} {m} {each} {r} {s} {d} {zs} {y} p u e inside z f made =
    visits_skip c t j m p (progress r s d y) made f.low
    (λ i l h. settled_left c u r s d zs y z t i (omega (arith, f.high)) (omega (arith, f.passed i l h)))

branch_end : {c : Code} {o : Place} → (w : AtBranch c o) → o.end ≡ o.symbol + c.k
branch_end w = omega (arith, ap (λ (x : Place). x.symbol) w.here, ap (λ (x : Place). x.end) w.here)

pub loop-branch-init : goal.loop-branch-init
unfolding visits
loop-branch-init c =
    let e = c.opening-place.ensures in
    let z : c.opening-place.result.symbol ≡ 0 = ap (λ (p : Place). p.symbol) e in
    record {
      here = branch_first _ _ _ c.requires.1 e;
      reached = omega (arith, z, zero-mul c.args.code.k);
      made = rw z refl;
      counted = c.requires.3;
      kept = refl;
    }

pub loop-place-init : goal.loop-place-init
loop-place-init c =
    let v = c.loop-branch.invariant in
    let table = c.requires.0.usable.table in
    record {
      here = branch_next table v.here (omega (arith, v.reached, table.sizes.k_low, mul-le-mul_right c.args.code.k (let z : c.loop-branch._branch + 1 ≤ c.args.code.b = omega arith in z)));
      made = v.made;
      counted = v.counted;
      kept = v.kept;
    }

pub open_from-place-requires : goal.open_from-place-requires
open_from-place-requires c =
    let v = c.loop-place.invariant in
    let ready = (kept_by _ _ _ _ _ c.requires.0 v.made).ready in
    let inside = in_end c.requires.0.usable.table v.here in (
      omega (arith, v.here.high, same_end v.here),
      omega (arith, inside, ready.sized.len_difference),
      omega (arith, inside, ap length v.counted, length_zero_counts (code_by c.args.code c.args.positions.now) c.loop-place.syndrome),
    )

pub visit-tally-requires : goal.visit-tally-requires
visit-tally-requires c =
    let v = c.loop-place.invariant in
    let n = c.open_from-place.ensures in
    let table = c.requires.0.usable.table in
    let kept = kept_by _ _ _ _ _ c.requires.0 v.made in
    let found = in_later table v.here _ n.same n.first.low n.first.high in
    let placed = in_placed table found (omega (arith, c.if-place.false)) in
    let unsettled = n.open_here (omega (arith, c.if-place.false, same_end found, same_end v.here)) in (
      kept.ready,
      placed,
      omega (arith, placed.inside, n.first.low, kept.few, table.sizes.data-high, c.requires.2),
      v.counted,
      subst Clear (sym v.kept) c.requires.4,
      omega (arith, unsettled, c.requires.1),
      c.requires.5,
    )

pub loop-place-preserved : goal.loop-place-preserved
loop-place-preserved c =
    let v = c.loop-place.invariant in
    let n = c.open_from-place.ensures in
    let u = c.requires.0.usable in
    let found = in_later u.table v.here _ n.same n.first.low n.first.high in
    record {
      here = in_along u.table found (omega (arith, c.if-place.false)) _ c.along-place.ensures;
      made = c.visit-tally.ensures.step ∙ ap (visit_of _ _) (skipped _ u c.requires.1 (in_end u.table v.here) v.counted n.first v.made)
          ∙ sym (visits_suc _ _ _ _ _ (ap (λ (p : Place). p.symbol) c.along-place.ensures));
      counted = c.visit-tally.ensures.counted;
      kept = c.visit-tally.ensures.kept ∙ v.kept;
    }

pub loop-branch-preserved : goal.loop-branch-preserved
loop-branch-preserved c =
    let a = c.args in
    let code = code_by a.code a.positions.now in
    let start = progress a.res.now a.syndrome.now a.difference.now a.opened in
    let v = c.loop-place.invariant in
    let n = c.open_from-place.ensures in
    let u = c.requires.0.usable in
    let found = in_later u.table v.here _ n.same n.first.low n.first.high in
    let e = c.onward-place.ensures in
    let symbol = ap (λ (p : Place). p.symbol) e in
    record {
      here = in_onward u.table found c.if-place.true _ e;
      reached = omega (arith, symbol, c.if-place.true, found.high, same_end found, branch_end c.loop-branch.invariant.here, c.loop-branch.invariant.reached);
      made = skipped _ u c.requires.1 (in_end u.table v.here) v.counted n.first v.made ∙ ap (λ (i : ℕ). visits code a.threshold i start) (sym symbol);
      counted = v.counted;
      kept = v.kept;
    }
