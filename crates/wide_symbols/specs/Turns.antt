-- A loop that writes a slice of symbols from the front, one a turn, by the numbers of its symbols.
use Rattle.std.specs.Prelude.{◌≡◌, List, ℕ, ◌+◌, ◌<◌, ◌≤◌, length, get_or, set, take}
use Rattle.std.proofs.Common.{sym, ◌∙◌, ap, subst, arith}
use Rattle.std.proofs.Math.Nat.{mod-eq_of_lt}
use Rattle.model.specs.Symbols.{add, differ, weight, tabulate}
use Rattle.slices.specs.Scans.{weight_turn, weight_take_le}
use Rattle.theory.specs.Counting.{differ_le}
use Rattle.theory.specs.Written.{Written, turned, closed}
use Rattle.wide_symbols.specs.Numbers.{IsNumbers, numbers_length, numbers_at, numbers_set}

module _ {S : Type 0} {number : S → ℕ} {numbers : List S → List ℕ} (n : IsNumbers number numbers) {g : ℕ → ℕ → ℕ} {s₀ : List ℕ} {i : ℕ} {s : List S} (w : Written g s₀ i (numbers s)) where
  -- one turn
  pub turned_symbols : {v : S} (d : S) → i < length s → number v ≡ g i (number (get_or s i d)) → Written g s₀ (i + 1) (numbers (set s i v))
  turned_symbols {v} d h e =
      subst (Written g s₀ (i + 1)) (sym (numbers_set n s i v)) (turned w (omega (arith, numbers_length n s)) (e ∙ ap (g i) (sym (numbers_at n s i d h))))

  -- at the end, of a list that is as long
  pub closed_symbols : {t : ℕ} → length s ≤ i → length s₀ ≡ t → numbers s ≡ tabulate t (λ l. g l (get_or s₀ l 0))
  closed_symbols h e = closed w (omega (arith, numbers_length n s)) ∙ ap (λ (m : ℕ). tabulate m (λ l. g l (get_or s₀ l 0))) e

-- a weight that wraps at no q from 8,193 on
pub weight_wraps : (q : ℕ) (s : List ℕ) (i m : ℕ) → 65536 ≤ q → length s ≤ 8192 → i < length s → m ≡ differ (get_or s i 0) 0 → add q (weight (take i s)) m ≡ weight (take (i + 1) s)
unfolding add
weight_wraps q s i m low few h e =
    let w : weight (take i s) + m ≡ weight (take (i + 1) s) = ap (λ (x : ℕ). weight (take i s) + x) e ∙ sym (weight_turn s i h) in
    let b : weight (take i s) + m < q = omega (arith, weight_take_le s i, e, differ_le (get_or s i 0) 0) in
    mod-eq_of_lt b ∙ w
