use Rattle.std.proofs.Common.{ℕ, ◌<◌, ◌≤◌, refl, sym, ap, ◌∙◌, length, arith}
use Rattle.std.proofs.Math.Decide.{dec_lt}
use Rattle.model.specs.Bytes.{margin_bytes}
use Rattle.checks.specs.Places.{branch_first, branch_next, in_own, in_later, in_end, in_onward}
use Rattle.checks.specs.declared.Place.{Place}
use Rattle.zeros.specs.Counts.{length_zero_counts}
use Rattle.margins.specs.Margins.{margins_are}
use Rattle.firm_symbols.specs.Phases.{zeros_below}
use Rattle.margin_bytes.specs.Phases.{bytes_past, bytes_all}
use Rattle.wide_margins.specs.Marked.{length_marked, past_marked}
use Rattle.wide_symbols.specs.Numbers.{numbers_length}
use Rattle.wide_margin_bytes.proofs.write_others.Goals as goal

-- a block ends after the symbol at which it was looked for
block-after : (s from r end : ℕ) → s < end → s ≤ from → from ≤ end → from ≤ r → (from < end → from < r) → s < r
block-after s from r end h l m n f = elim (dec_lt from end) as (λ o. s < r) [ yes g ↦ omega (arith, f g) | no g ↦ omega arith ]

pub loop-place-init : goal.loop-place-init
loop-place-init g c =
    let e = c.opening-place.ensures in
    (branch_first _ _ _ c.checks_each-checks.ensures e, rw e c.requires.3)

pub loop-place-2-init : goal.loop-place-2-init
loop-place-2-init g c = (branch_next c.requires.0.table c.loop-place.invariant.0 (omega (arith, c.requires.2)), c.loop-place.invariant.1)

pub past_firm-from-requires : goal.past_firm-from-requires
past_firm-from-requires g c =
    let p = c.requires in
    let n = numbers_length g.met.S.Symbol.are_numbers c.args.d.now in
    let m = length_marked c.args.zeros.now _ _ p.4 in (
      omega arith,
      omega (arith, p.2, n, m, in_end p.0.table c.loop-place-2.invariant.0),
      ap length p.1 ∙ length_zero_counts _ (g.S.Symbol.numbers c.args.s.now) ∙ sym p.2 ∙ sym n ∙ sym m,
      zeros_below _ p.0.table (g.S.Symbol.numbers c.args.s.now) _ p.1,
    )

pub write_doubtful-requires : goal.write_doubtful-requires
write_doubtful-requires g c =
    let p = c.requires in
    let t = p.0.table in
    let f = c.past_firm-from.ensures in
    let e = c.block_end-end.ensures in
    let w = c.loop-place-2.invariant in
    let d = g.S.Symbol.numbers c.args.d.now in
    rw c.at.ensures (
      p.0,
      p.1,
      p.2,
      c.checks_each-checks.ensures,
      in_own t (in_later t w.0 _ refl f.low f.high),
      e.0,
      e.1,
      bytes_past w.1 c.checks_each-checks.ensures (past_marked c.args.zeros.now d c.args.marks.now p.4 f)
          (omega (arith, p.2, numbers_length g.met.S.Symbol.are_numbers c.args.d.now, in_end t w.0)),
    )

pub loop-place-2-smaller : goal.loop-place-2-smaller
loop-place-2-smaller g c =
    let f = c.past_firm-from.ensures in
    let b = c.block_end-end.ensures in
    let e = c.at-place.ensures in
    omega (arith, ap (λ (x : Place). x.symbol) e, ap (λ (x : Place). x.end) e, b.1, block-after _ _ _ _ c.loop-place-2-test.true f.low f.high b.0 b.2)

pub loop-place-2-preserved : goal.loop-place-2-preserved
loop-place-2-preserved g c =
    let f = c.past_firm-from.ensures in
    let b = c.block_end-end.ensures in
    rw c.at-place.ensures (in_later c.requires.0.table c.loop-place-2.invariant.0 _ refl (omega (arith, f.low, b.0)) b.1, c.write_doubtful.ensures)

pub loop-place-preserved : goal.loop-place-preserved
loop-place-preserved g c =
    let e = c.onward-place.ensures in
    (in_onward c.requires.0.table c.loop-place-2.invariant.0 (omega arith) _ e, rw (ap (λ (x : Place). x.symbol) e) c.loop-place-2.invariant.1)

pub returns : goal.returns
returns g c r =
    let n = numbers_length g.met.S.Symbol.are_numbers c.args.d.now in
    bytes_all c.loop-place.invariant.1 (omega (arith, n)) ∙ ap margin_bytes (margins_are _ r _ _ _ (n ∙ c.requires.2))
