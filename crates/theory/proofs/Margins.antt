-- The range of a margin, and what its ends mean.
use Rattle.std.specs.Prelude.{◌≡◌, ◌≢◌, ◌↔◌, List, ℕ, ◌+◌, ◌≤◌, ◌<◌, ℤ, pos, neg_ℤ, length, ◌≤ℤ◌}
use Rattle.std.proofs.Common.{sym, ◌∙◌, subst, arith}
use Rattle.model.specs.Symbols.{count}
use Rattle.model.specs.Vote.{other_count, margin}
use Rattle.theory.specs.Counting.{All, misses, count_misses, count_other}
use Rattle.theory.specs.Integers.{minus_le, minus_eq, whole, minus}
use Rattle.theory.specs.Margins.{count_all, all_count}
use Rattle.theory.specs.Voting.{other_max, other_least, other_some}

-- zeros and the estimates of another value are no more than all
pub zeros_others : (es : List ℕ) → count 0 es + other_count es 0 es ≤ length es
zeros_others es = omega (arith, count_misses 0 es, other_least es 0 es (misses 0 es) (λ v n. count_other v 0 es n))

-- ---- the range

pub margin_low : (es : List ℕ) → neg_ℤ (pos (length es)) ≤ℤ margin es
unfolding margin
margin_low es = subst (λ (z : ℤ). z ≤ℤ margin es) (minus (length es))
    ((minus_le 0 (length es) (count 0 es) (other_count es 0 es)).1 (omega (arith, zeros_others es)))

pub margin_high : (es : List ℕ) → margin es ≤ℤ pos (length es)
unfolding margin
margin_high es = subst (λ (z : ℤ). margin es ≤ℤ z) (whole (length es))
    ((minus_le (count 0 es) (other_count es 0 es) (length es) 0).1 (omega (arith, zeros_others es)))

-- the upper end: every estimate is 0
pub margin_top : (es : List ℕ) → (margin es ≡ pos (length es)) ↔ All (λ e. e ≡ 0) es
unfolding margin
margin_top es = (
  (λ e. count_all 0 es (omega (arith, (minus_eq (count 0 es) (other_count es 0 es) (length es) 0).0 (e ∙ sym (whole (length es))), zeros_others es))),
  (λ a.
      (minus_eq (count 0 es) (other_count es 0 es) (length es) 0).1 (omega (arith, all_count 0 es a, zeros_others es))
      ∙ whole (length es)),
)

-- the lower end: all are one value other than 0
pub margin_bottom : (es : List ℕ) → 0 < length es → (margin es ≡ neg_ℤ (pos (length es))) ↔ ((v : ℕ) × (v ≢ 0) × All (λ e. e ≡ v) es)
unfolding margin
margin_bottom es h = (
  (λ e.
      let d : count 0 es + length es ≡ 0 + other_count es 0 es = (minus_eq (count 0 es) (other_count es 0 es) 0 (length es)).0 (e ∙ sym (minus (length es))) in
      let s = other_some es 0 es (omega arith) in
      (s.0, s.1, count_all s.0 es (omega (arith, s.2, zeros_others es)))),
  (λ p.
      let n : count p.0 es ≡ length es = all_count p.0 es p.2 in
      (minus_eq (count 0 es) (other_count es 0 es) 0 (length es)).1 (omega (arith, zeros_others es, other_max es 0 es p.0 p.1 (omega arith)))
      ∙ minus (length es)),
)
