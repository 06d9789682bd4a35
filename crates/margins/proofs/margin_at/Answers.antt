-- `margin_at`: where all estimates are 0, or all but one, the zeros settle the other count; else it is counted.
use Rattle.std.proofs.Common.{◌≡◌, ◌≤◌, ◌+◌, List, ℕ, refl, ◌∙◌, ap, pos, ◌-ℤ◌, length, arith}
use Rattle.model.specs.Code.{checks_by}
use Rattle.model.specs.Symbols.{count, same, symbols_at}
use Rattle.checks.specs.Checks.{AtChecks, estimates_by}
use Rattle.checks.specs.Estimates.{estimates_length, zeros_counted}
use Rattle.theory.specs.Circulant.{length_checks_by}
use Rattle.theory.specs.Counting.{length_symbols_at}
use Rattle.theory.specs.Margins.{count_le}
use Rattle.margins.specs.Margins.{margin_firm, margin_but_one, read_back}
use Rattle.margins.proofs.margin_at.Goals as goal

-- estimates, and their zeros, of which there are at most 33
record Counted (es : List ℕ) (zeros J : ℕ) : Type 0 where
  zero-count : zeros ≡ count 0 es
  len : length es ≡ J + 1
  few : length es ≤ 33

counted : {k : ℕ} {ps s : List ℕ} → AtChecks k ps s → (j own n : ℕ) {z : ℕ} → n ≡ count 0 (symbols_at s (checks_by k ps j)) → z ≡ n + same 0 own
    → Counted (estimates_by k ps j own s) z (length ps)
counted {k} {ps} {s} a j own n e f =
    let len = estimates_length k ps j own s in
    record { zero-count = f ∙ zeros_counted own _ _ _ e refl; len = len; few = omega (arith, len, a.J-high) }

pub zeros_with-zeros-requires : goal.zeros_with-zeros-requires
zeros_with-zeros-requires c =
    let a = c.args in
    let is = checks_by a.code.k a.positions.now a.j in
    omega (arith, c.requires.2, c.requires.0.J-high, count_le 0 (symbols_at a.s.now is), length_symbols_at a.s.now is, length_checks_by a.code.k a.positions.now a.j)

pub margin_of-requires : goal.margin_of-requires
margin_of-requires c =
    let k = counted c.requires.0 c.args.j c.args.own _ c.requires.2 c.zeros_with-zeros.ensures in
    (omega (arith, k.len, k.few, c.if-zeros-n.true), omega arith)

pub returns-then-zeros-n : goal.returns-then-zeros-n
returns-then-zeros-n c =
    let k = counted c.requires.0 c.args.j c.args.own _ c.requires.2 c.zeros_with-zeros.ensures in
    read_back _ c.margin_of.type_inv ∙ c.margin_of.ensures ∙ ap (λ (n : ℕ). pos n -ℤ pos 0) k.zero-count
    ∙ margin_firm _ (omega (arith, k.zero-count, k.len, c.if-zeros-n.true))

pub margin_of-requires-then-zeros-n-2 : goal.margin_of-requires-then-zeros-n-2
margin_of-requires-then-zeros-n-2 c =
    let k = counted c.requires.0 c.args.j c.args.own _ c.requires.2 c.zeros_with-zeros.ensures in
    (omega (arith, k.len, k.few, c.if-zeros-n-2.true), omega arith)

pub returns-then-zeros-n-2 : goal.returns-then-zeros-n-2
returns-then-zeros-n-2 c =
    let k = counted c.requires.0 c.args.j c.args.own _ c.requires.2 c.zeros_with-zeros.ensures in
    let m = c.margin_of-then-zeros-n-2 in
    read_back _ m.type_inv ∙ m.ensures ∙ ap (λ (n : ℕ). pos n -ℤ pos 1) k.zero-count
    ∙ margin_but_one _ (omega (arith, k.zero-count, k.len, c.if-zeros-n-2.true))

pub margin_counted-requires : goal.margin_counted-requires
margin_counted-requires c =
    let k = counted c.requires.0 c.args.j c.args.own _ c.requires.2 c.zeros_with-zeros.ensures in
    (c.requires.0, c.requires.1, k.zero-count, c.requires.3)
