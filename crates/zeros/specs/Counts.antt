-- The zeros of the syndrome at the checks of the symbols of a branch, and of every data symbol.
use Rattle.std.specs.Prelude.{◌≡◌, ℕ, ◌+◌, ◌*◌, ◌%◌, ◌<◌, ◌≤◌, length, get_or, drop}
use Rattle.std.proofs.Math.Path.{sym, ap}
use Rattle.std.proofs.Common.{◌∙◌, arith}
use mathlib.Core.List.{List}
use Rattle.std.proofs.Math.ListN.{take}
use Rattle.model.specs.Code.{Code, data_count, branch_at, checks_by, checks_of}
use Rattle.model.specs.Symbols.{same, count, Below, tabulate, symbols_at}
use Rattle.theory.specs.Branches.{checks_at}
use Rattle.theory.specs.Circulant.{length_checks_by}
use Rattle.theory.specs.Counting.{count_misses, length_symbols_at}
use Rattle.theory.specs.Distance.{length_tabulate, get_d_tabulate, tabulate_ext, below_tabulate}
use Rattle.theory.specs.Parts.{tabulate_part}
use Rattle.checks.specs.Checks.{count_none_at, count_turn_at}

-- for each symbol of a branch with the positions ps, the zeros of the syndrome at its checks
unfoldable pub run_zeros : ℕ → List ℕ → List ℕ → List ℕ
run_zeros k ps s = tabulate k (λ j. count 0 (symbols_at s (checks_by k ps j)))

-- for each data symbol, the zeros of the syndrome at its checks
unfoldable pub zero_counts : Code → List ℕ → List ℕ
zero_counts c s = tabulate (data_count c) (λ j. count 0 (symbols_at s (checks_of c j)))

pub count_le : (v : ℕ) (xs : List ℕ) → count v xs ≤ length xs
count_le v xs = omega (arith, count_misses v xs)

module _ (c : Code) (s : List ℕ) where
  pub length_zero_counts : length (zero_counts c s) ≡ data_count c
  unfolding zero_counts
  length_zero_counts = length_tabulate (data_count c) _

  pub zero_counts_at : (j : ℕ) → j < data_count c → get_or (zero_counts c s) j 0 ≡ count 0 (symbols_at s (checks_of c j))
  unfolding zero_counts
  zero_counts_at j h = get_d_tabulate (data_count c) _ j h

  -- those of branch r, which start at r · k
  pub zero_counts_part : (r at : ℕ) → at ≡ r * c.k → at + c.k ≤ data_count c → take c.k (drop at (zero_counts c s)) ≡ run_zeros c.k (branch_at c r) s
  unfolding zero_counts run_zeros
  zero_counts_part r at e h =
      ap (λ (n : ℕ). take c.k (drop n (zero_counts c s))) e
      ∙ tabulate_part (data_count c) _ (r * c.k) c.k (omega arith)
      ∙ tabulate_ext c.k _ _ (λ j l. ap (λ (is : List ℕ). count 0 (symbols_at s is)) (checks_at c r j l))

module _ (k : ℕ) (ps s : List ℕ) where
  pub length_run_zeros : length (run_zeros k ps s) ≡ k
  unfolding run_zeros
  length_run_zeros = length_tabulate k _

  pub run_zeros_at : (j : ℕ) → j < k → get_or (run_zeros k ps s) j 0 ≡ count 0 (symbols_at s (checks_by k ps j))
  unfolding run_zeros
  run_zeros_at j h = get_d_tabulate k _ j h

  -- a data symbol has no more zeros than positions
  pub run_zeros_below : (n : ℕ) → length ps < n → Below n (run_zeros k ps s)
  unfolding run_zeros
  run_zeros_below n h = below_tabulate n (omega arith) k _
      (λ j. omega (arith, count_le 0 (symbols_at s (checks_by k ps j)), length_symbols_at s (checks_by k ps j), length_checks_by k ps j))

  -- one position a turn: before the first
  pub run_zeros_none : tabulate k (λ j. 0) ≡ run_zeros k (take 0 ps) s
  unfolding run_zeros
  run_zeros_none = tabulate_ext k _ _ (λ j h. sym (count_none_at 0 s k ps j))

-- and by one more
pub run_zeros_turn : (k : ℕ) (ps s : List ℕ) (n : ℕ) → n < length ps → (zs : List ℕ) → zs ≡ run_zeros k (take n ps) s
    → tabulate k (λ j. get_or zs j 0 + same 0 (get_or s ((j + get_or ps n 0) % k) 0)) ≡ run_zeros k (take (n + 1) ps) s
unfolding run_zeros
run_zeros_turn k ps s n h zs e = tabulate_ext k _ _ (λ j l.
    ap (λ (z : List ℕ). get_or z j 0 + same 0 (get_or s ((j + get_or ps n 0) % k) 0)) e
    ∙ omega (arith, run_zeros_at k (take n ps) s j l, count_turn_at 0 s k ps j n h))
