-- The estimates of a data symbol, and as they are gathered: how many they are, in the front of a buffer, and their zeros.
use Rattle.std.specs.Prelude.{◌≡◌, List, ◌∷◌, ◌++◌, ℕ, ◌+◌, ◌≤◌, ◌<◌, length, take}
use Rattle.std.proofs.Common.{ap, ◌∙◌, arith, take_at}
use Rattle.model.specs.Code.{Code, data_count, checks_each, checks_by, checks_of}
use Rattle.model.specs.Symbols.{same, count, symbols_at}
use Rattle.theory.specs.Branches.{checks_length}
use Rattle.theory.specs.Circulant.{length_checks_by}
use Rattle.theory.specs.Counting.{count_cons, length_symbols_at}
use Rattle.checks.specs.Checks.{AtChecks, estimates_by}
use Rattle.checks.specs.Places.{AtTable}

-- the estimates of data symbol j: its own difference, and the syndrome at its checks
abbrev pub estimates_at : Code → ℕ → ℕ → List ℕ → List ℕ
estimates_at c j own s = own ∷ symbols_at s (checks_of c j)

pub estimates_length : (k : ℕ) (ps : List ℕ) (j own : ℕ) (s : List ℕ) → length (estimates_by k ps j own s) ≡ length ps + 1
estimates_length k ps j own s = omega (arith, length_symbols_at s (checks_by k ps j), length_checks_by k ps j)

-- a buffer whose front g has the estimates of a data symbol, n of them: the part of n
pub record Gathered (es part : List ℕ) (n : ℕ) : Type 0 where
  pub same : part ≡ es
  pub len : length part ≡ n
  pub low : 2 ≤ length part
  pub high : length part ≤ 33

gathered_of : (es g rest : List ℕ) (n : ℕ) → g ≡ es → length es ≡ n → 2 ≤ n → n ≤ 33 → Gathered es (take n (g ++ rest)) n
gathered_of es g rest n e l low high =
    let p : take n (g ++ rest) ≡ es = rw e (take_at es rest n l) in
    let len : length (take n (g ++ rest)) ≡ n = ap length p ∙ l in
    record { same = p; len = len; low = omega (arith, len); high = omega (arith, len) }

pub gathered : {k : ℕ} {ps s : List ℕ} → AtChecks k ps s → (j own : ℕ) (g rest : List ℕ) (n : ℕ) → g ≡ estimates_by k ps j own s → n ≡ length ps + 1
    → Gathered (estimates_by k ps j own s) (take n (g ++ rest)) n
gathered {k} {ps} {s} f j own g rest n e m =
    gathered_of (estimates_by k ps j own s) g rest n e (omega (arith, estimates_length k ps j own s)) (omega (arith, f.J-low)) (omega (arith, f.J-high))

-- the same of a data symbol by its number
pub gathered_at : (c : Code) (s : List ℕ) → AtTable c s → (j : ℕ) → j < data_count c → (own : ℕ) (g rest : List ℕ) (n : ℕ) → g ≡ estimates_at c j own s → n ≡ checks_each c + 1
    → Gathered (estimates_at c j own s) (take n (g ++ rest)) n
gathered_at c s t j h own g rest n e m =
    gathered_of (estimates_at c j own s) g rest n e (omega (arith, length_symbols_at s (checks_of c j), checks_length c t.table j h))
    (omega (arith, t.table.sizes.J-low)) (omega (arith, t.table.sizes.J-high))

-- the zeros, from those at the checks and the own difference
pub zeros_counted : (own : ℕ) (es : List ℕ) (z o : ℕ) → z ≡ count 0 es → o ≡ same 0 own → z + o ≡ count 0 (own ∷ es)
zeros_counted own es z o e f = omega (arith, count_cons 0 own es)
