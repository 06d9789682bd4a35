-- What a call over the checks of a data symbol requires, and one turn of its loop.
use Rattle.std.specs.Prelude.{◌≡◌, refl, List, [], ◌∷◌, ◌++◌, ℕ, ◌+◌, ◌%◌, ◌<◌, ◌≤◌, length, get_or, set, take}
use Rattle.std.proofs.Common.{sym, ap, ◌∙◌, mod-lt, add-one, arith, length-set, take-suc-set, take_all}
use Rattle.model.specs.Code.{Code, check_count, branch_at, checks_by}
use Rattle.model.specs.Limits.{Ascending, TableLimits}
use Rattle.model.specs.Symbols.{sub, same, count, Below, symbols_at, subtract_at}
use Rattle.theory.specs.Branches.{branch_length}
use Rattle.theory.specs.Counting.{count_nil, count_cons}
use Rattle.theory.specs.Steps.{below_subtract_at}
use Rattle.theory.specs.Tables.{count_append}
use Rattle.theory.specs.Turns.{symbols_at_turn, subtract_at_none, subtract_at_turn}

-- a run of positions within its limits, and a syndrome of k symbols
pub record AtChecks (k : ℕ) (ps s : List ℕ) : Type 0 where
  pub k_low : 1 ≤ k
  pub k_high : k ≤ 4096
  pub J-low : 1 ≤ length ps
  pub J-high : length ps ≤ 32
  pub ascending : Ascending k ps
  pub len : length s ≡ k

-- the estimates of symbol j of a branch: its own difference, and the syndrome at its checks
abbrev pub estimates_by : ℕ → List ℕ → ℕ → ℕ → List ℕ → List ℕ
estimates_by k ps j own s = own ∷ symbols_at s (checks_by k ps j)

module _ {k : ℕ} {ps s : List ℕ} (f : AtChecks k ps s) where
  -- the same of another syndrome of that length
  pub at_checks_of : (t : List ℕ) → length t ≡ length s → AtChecks k ps t
  at_checks_of t e = record { k_low = f.k_low; k_high = f.k_high; J-low = f.J-low; J-high = f.J-high; ascending = f.ascending; len = e ∙ f.len }

  -- what a check by a position, or a symbol by it, needs
  pub by_position : (j i : ℕ) → j < k → i < length ps → (k ≤ 4096) × (j < k) × (get_or ps i 0 < k)
  by_position j i h l = (f.k_high, h, f.ascending.below i l)

  -- a number modulo k is a place in the syndrome
  pub check_inside : (a n : ℕ) → a ≡ n % k → a < length s
  check_inside a n e = omega (arith, f.len, mod-lt n {m = k} f.k_low)

-- of a run of a table within its limits
pub at_run : (c : Code) → TableLimits c → (r : ℕ) → r < c.b → (s : List ℕ) → length s ≡ check_count c → AtChecks c.k (branch_at c r) s
at_run c t r h s e =
    let n = branch_length c t r h in
    let z = t.sizes in
    record { k_low = z.k_low; k_high = z.k_high; J-low = omega (arith, n, z.J-low); J-high = omega (arith, n, z.J-high); ascending = t.ascending r h; len = e }

-- how often v stands at the checks, where none is passed and by one check more
pub count_none_at : (v : ℕ) (s : List ℕ) (k : ℕ) (ps : List ℕ) (j : ℕ) → count v (symbols_at s (checks_by k (take 0 ps) j)) ≡ 0
unfolding checks_by symbols_at count
count_none_at v s k ps j = refl

pub count_turn_at : (v : ℕ) (s : List ℕ) (k : ℕ) (ps : List ℕ) (j n : ℕ) → n < length ps
    → count v (symbols_at s (checks_by k (take (n + 1) ps) j)) ≡ count v (symbols_at s (checks_by k (take n ps) j)) + same v (get_or s ((j + get_or ps n 0) % k) 0)
count_turn_at v s k ps j n h =
    ap (λ (l : List ℕ). count v l) (symbols_at_turn s k ps j n h)
    ∙ count_append v (symbols_at s (checks_by k (take n ps) j)) (get_or s ((j + get_or ps n 0) % k) 0 ∷ [])
    ∙ omega (arith, count_cons v (get_or s ((j + get_or ps n 0) % k) 0) [], count_nil v)

-- the estimates, once the own difference is written, and by one check more
pub gather_none : (s : List ℕ) (k : ℕ) (ps : List ℕ) (j own : ℕ) (es : List ℕ) → 0 < length es → take (0 + 1) (set es 0 own) ≡ own ∷ symbols_at s (checks_by k (take 0 ps) j)
unfolding checks_by symbols_at
gather_none s k ps j own es h = take-suc-set es 0 own h

pub gather_turn : (s : List ℕ) (k : ℕ) (ps : List ℕ) (j own n c : ℕ) (es : List ℕ) → n < length ps → n + 1 < length es → c ≡ (j + get_or ps n 0) % k
    → take (n + 1) es ≡ own ∷ symbols_at s (checks_by k (take n ps) j) → take (n + 1 + 1) (set es (n + 1) (get_or s c 0)) ≡ own ∷ symbols_at s (checks_by k (take (n + 1) ps) j)
gather_turn s k ps j own n c es h l e f =
    ap (λ (m : ℕ). take m (set es (n + 1) (get_or s c 0))) (add-one (n + 1))
    ∙ take-suc-set es (n + 1) (get_or s c 0) l
    ∙ ap (λ (x : List ℕ). x ++ (get_or s c 0 ∷ [])) f
    ∙ ap (λ (i : ℕ). own ∷ symbols_at s (checks_by k (take n ps) j) ++ (get_or s i 0 ∷ [])) e
    ∙ ap (λ (x : List ℕ). own ∷ x) (sym (symbols_at_turn s k ps j n h))

-- ---- a subtraction, one check a turn

-- h is subtracted from s₀ at the checks of the first n positions, and s is what that leaves
pub record Subtracted (q h k : ℕ) (ps : List ℕ) (j : ℕ) (s₀ : List ℕ) (n : ℕ) (s : List ℕ) : Type 0 where
  pub within : n ≤ length ps
  pub sized : length s ≡ length s₀
  pub taken : s ≡ subtract_at q h (checks_by k (take n ps) j) s₀

-- before the first turn
pub subtract_none : (q h k : ℕ) (ps : List ℕ) (j : ℕ) (s : List ℕ) → Subtracted q h k ps j s 0 s
subtract_none q h k ps j s = record { within = omega arith; sized = refl; taken = subtract_at_none q h k ps j s }

module _ {q h k : ℕ} {ps : List ℕ} {j : ℕ} {s₀ : List ℕ} {n : ℕ} {s : List ℕ} (w : Subtracted q h k ps j s₀ n s) where
  -- symbols are left
  pub subtract_below : 0 < q → Below q s₀ → Below q s
  subtract_below pos low = rw w.taken (below_subtract_at q pos h (checks_by k (take n ps) j) s₀ low)

  -- one turn: t is s with the difference v at check c
  pub subtract_turn : (c v : ℕ) (t : List ℕ) → n < length ps → c ≡ (j + get_or ps n 0) % k → v ≡ sub q (get_or s c 0) h → t ≡ set s c v → Subtracted q h k ps j s₀ (n + 1) t
  subtract_turn c v t l e f g = record {
    within = omega arith;
    sized = ap length g ∙ length-set s c v ∙ w.sized;
    taken = g ∙ rw (f, e, w.taken) (sym (subtract_at_turn q h k ps j n s₀ l));
  }

  -- at the end
  pub subtract_all : length ps ≤ n → s ≡ subtract_at q h (checks_by k ps j) s₀
  subtract_all l = w.taken ∙ ap (λ (rs : List ℕ). subtract_at q h (checks_by k rs j) s₀) (take_all n ps l)
