use Rattle.std.proofs.Common.{◌≡◌, ◌≤◌, ◌+◌, List, ℕ, ◌∙◌, ap, pos, ◌-ℤ◌, length, arith}
use Rattle.model.specs.Code.{checks_by}
use Rattle.model.specs.Symbols.{count, same, symbols_at}
use Rattle.theory.specs.Margins.{count_le}
use Rattle.checks.specs.Checks.{AtChecks, estimates_by}
use Rattle.checks.specs.Estimates.{estimates_length, zeros_counted}
use Rattle.margins.specs.Margins.{margin_firm, margin_but_one, read_back}
use Rattle.wide_margins.proofs.margin_at.Goals as goal

-- estimates whose zeros are counted
record Counted (es : List ℕ) (zeros J : ℕ) : Type 0 where
  zero-count : zeros ≡ count 0 es
  len : length es ≡ J + 1
  few : length es ≤ 33

counted : {k : ℕ} {ps s : List ℕ} → AtChecks k ps s → (j own n z : ℕ) → n ≡ count 0 (symbols_at s (checks_by k ps j)) → z ≡ same 0 own
    → Counted (estimates_by k ps j own s) (n + z) (length ps)
counted {k} {ps} {s} a j own n z e f =
    let len = estimates_length k ps j own s in
    record { zero-count = zeros_counted own _ _ _ e f; len = len; few = omega (arith, len, a.J-high) }

pub overflow_add-zeros : goal.overflow_add-zeros
overflow_add-zeros g c =
    let k = counted c.requires.0 c.args.j (g.S.Symbol.number c.args.own) _ _ c.requires.2 c.zeros_of.ensures.0 in
    omega (arith, k.zero-count, k.few, count_le 0 (estimates_by c.args.code.k c.args.positions.now c.args.j (g.S.Symbol.number c.args.own) (g.S.Symbol.numbers c.args.s.now)))

pub returns-then-zeros-n : goal.returns-then-zeros-n
returns-then-zeros-n g c =
    let k = counted c.requires.0 c.args.j (g.S.Symbol.number c.args.own) _ _ c.requires.2 c.zeros_of.ensures.0 in
    read_back _ c.margin_of.type_inv ∙ c.margin_of.ensures ∙ ap (λ (n : ℕ). pos n -ℤ pos 0) k.zero-count
    ∙ margin_firm _ (omega (arith, k.zero-count, k.len, c.if-zeros-n.true))

pub returns-then-zeros-n-2 : goal.returns-then-zeros-n-2
returns-then-zeros-n-2 g c =
    let k = counted c.requires.0 c.args.j (g.S.Symbol.number c.args.own) _ _ c.requires.2 c.zeros_of.ensures.0 in
    let m = c.margin_of-then-zeros-n-2 in
    read_back _ m.type_inv ∙ m.ensures ∙ ap (λ (n : ℕ). pos n -ℤ pos 1) k.zero-count
    ∙ margin_but_one _ (omega (arith, k.zero-count, k.len, c.if-zeros-n-2.true))

pub margin_counted-requires : goal.margin_counted-requires
margin_counted-requires g c =
    let k = counted c.requires.0 c.args.j (g.S.Symbol.number c.args.own) _ _ c.requires.2 c.zeros_of.ensures.0 in
    (c.requires.0, c.requires.1, k.zero-count)
