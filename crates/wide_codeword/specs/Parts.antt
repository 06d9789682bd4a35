-- The positions of a run taken two at a time, and the parts of positions and of symbols that are lent for a branch.
use Rattle.std.specs.Prelude.{◌≡◌, List, [], ◌∷◌, ◌++◌, ℕ, suc, ◌+◌, ◌-◌, ◌*◌, ◌<◌, ◌≤◌, length, get_or, take, drop}
use Rattle.std.proofs.Common.{refl, sym, ap, ◌∙◌, arith}
use Rattle.model.specs.Code.{Code, data_count, checks_each, check_sum_by}
use Rattle.model.specs.Limits.{Ascending, TableLimits}
use Rattle.model.specs.Symbols.{add_each}
use Rattle.theory.specs.Steps.{SymbolsBelow}
use Rattle.rows.specs.Rows.{row}
use Rattle.codeword.specs.Sums.{added, rows_turn, rows_two}
use Rattle.codeword.specs.Rest.{Stands, Inside, Lent, rest_sum, first_lent, stands-inside, next-lent, lent_rows, rest_added}
use Rattle.wide_rows.specs.Halves.{numbers_part}
use Rattle.wide_symbols.specs.Numbers.{IsNumbers, numbers_length, numbers_take}

-- what is left of a run ascends as the run does
pub ascending_rest : (k : ℕ) (ps rest : List ℕ) → Ascending k (ps ++ rest) → Ascending k rest
ascending_rest k [] rest a = a
ascending_rest k (p ∷ ps) rest a = ascending_rest k ps rest (record { below = (λ i h. a.below (suc i) (omega arith)); above = (λ i h. a.above (suc i) (omega arith)) })

-- the rows of one position of it, and of two
module _ (q k : ℕ) (u : List ℕ) (same : length u ≡ k) (rest s : List ℕ) (e : length s ≡ k) where
  pub one_added : (ps : List ℕ) → length ps ≡ 1 → added q (check_sum_by k rest u) (add_each q s (row (get_or ps 0 0) u)) ≡ added q (check_sum_by k (ps ++ rest) u) s
  one_added [] h = absurd (omega (arith, h))
  one_added (p ∷ []) h = rw (← same) (sym (rows_turn q (p ∷ rest) u s 0 (omega (arith, same)) (omega arith)))
  one_added (p ∷ r ∷ ps) h = absurd (omega (arith, h))

  pub two_added : (ps : List ℕ) → length ps ≡ 2
      → added q (check_sum_by k rest u) (add_each q (add_each q s (row (get_or ps 0 0) u)) (row (get_or ps 1 0) u)) ≡ added q (check_sum_by k (ps ++ rest) u) s
  two_added [] h = absurd (omega (arith, h))
  two_added (p ∷ []) h = absurd (omega (arith, h))
  two_added (p ∷ r ∷ []) h = rw (← same) (sym (rows_two q (p ∷ r ∷ rest) u s 0 (omega (arith, same)) (omega arith)))
  two_added (p ∷ r ∷ o ∷ ps) h = absurd (omega (arith, h))

module _ {S : Type 0} {number : S → ℕ} {numbers : List S → List ℕ} (n : IsNumbers number numbers) (c : Code) (l : TableLimits c) (u : List S) where
  -- what is lent for a branch
  module _ (each : ℕ) (e : each ≡ checks_each c) where
    pub first_part : Lent c (numbers u) 0 (take (each - 1) (drop 1 c.positions)) (numbers (take c.k u))
    first_part = let t = first_lent c l each e (numbers u) in record { here = t.here; run_is = t.run_is; data_is = numbers_take n c.k u ∙ t.data_is }

    module _ (r : ℕ) (later : 1 ≤ r) (h : r < c.b) where
      stands : Stands c r (r * c.k) (r * each)
      stands = record { later = later; within = omega (arith, h); data_at = refl; run_at = ap (λ (x : ℕ). r * x) e }

      pub parts_inside : Inside c (r * c.k) (r * each) each
      parts_inside = stands-inside c l each e r (r * c.k) (r * each) h stands

      pub next_part : Lent c (numbers u) r (take (r * each + each - r * each) (drop (r * each) c.positions)) (numbers (take (r * c.k + c.k - r * c.k) (drop (r * c.k) u)))
      next_part =
          let t = next-lent c l each e r (r * c.k) (r * each) h stands (numbers u) in
          record { here = t.here; run_is = t.run_is; data_is = numbers_part n (r * c.k + c.k - r * c.k) (r * c.k) u ∙ t.data_is }

  -- what adding its rows asks, and what it makes
  module _ (whole : length (numbers u) ≡ data_count c) (r : ℕ) (run : List ℕ) (part : List S) (t : Lent c (numbers u) r run (numbers part)) where
    pub part_rows : (s : List ℕ) → SymbolsBelow c.q c.k s → Ascending (length part) run × SymbolsBelow c.q (length part) s
    part_rows s h = rw (numbers_length n part) at (lent_rows c l (numbers u) whole r run (numbers part) t s h)

    pub part_added : (s₀ s x : List ℕ) → s ≡ added c.q (rest_sum c (numbers u) r) s₀ → x ≡ added c.q (check_sum_by (length part) run (numbers part)) s
        → x ≡ added c.q (rest_sum c (numbers u) (r + 1)) s₀
    part_added s₀ s x d f = f ∙ (rw (numbers_length n part) at (rest_added c l (numbers u) whole r run (numbers part) t s₀ s d))
