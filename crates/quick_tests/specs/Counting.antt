-- The counters of the own difference and of the syndrome at the checks by the first positions of a run.
use Rattle.std.specs.Prelude.{◌≡◌, refl, true, false, List, [], ◌∷◌, ℕ, zero, suc, ◌+◌, ◌-◌, ◌%◌, ◌≤◌, ◌<◌, ltb, length, get_or, set, replicate}
use Rattle.std.proofs.Common.{sym, ap, subst, ◌∙◌, mod-eq_of_lt, add-one, arith}
use Rattle.std.proofs.Math.Nat.{add-mod_right}
use Rattle.model.specs.Code.{checks_by}
use Rattle.model.specs.Symbols.{symbols_at}
use Rattle.model.specs.Vote.{lead_count}
use Rattle.theory.specs.Circulant.{length_checks_by}
use Rattle.theory.specs.Counting.{length_symbols_at}
use Rattle.theory.specs.Parts.{cleared}
use Rattle.vote.specs.Counters.{Counted, counted_none, counted_few, counted_more, counted_above, counted_within}
use Rattle.checks.specs.Checks.{estimates_by}

-- the estimate by a position is the syndrome at its check
symbol-at : (k : ℕ) (ps : List ℕ) (j : ℕ) (s : List ℕ) (i : ℕ) → i < length ps → get_or (symbols_at s (checks_by k ps j)) i 0 ≡ get_or s ((j + get_or ps i 0) % k) 0
unfolding symbols_at checks_by
symbol-at k [] j s i h = absurd (omega arith)
symbol-at k (p ∷ ps) j s zero h = refl
symbol-at k (p ∷ ps) j s (suc i) h = symbol-at k ps j s i (omega arith)

-- the check by a position, where k is j and room together: straight on from j, or turned
pub straight_at : (j p room : ℕ) → p < room → j + p ≡ (j + p) % (j + room)
straight_at j p room h = sym (mod-eq_of_lt (omega (arith, h)))

pub turned_at : (j p room : ℕ) → room ≤ p → p < j + room → p - room ≡ (j + p) % (j + room)
turned_at j p room h l =
    let e : j + p ≡ p - room + (j + room) = omega arith in
    sym (ap (λ (n : ℕ). n % (j + room)) e ∙ add-mod_right (p - room) (j + room) ∙ mod-eq_of_lt (omega (arith, h, l)))

module _ (k : ℕ) (ps : List ℕ) (j own : ℕ) (s : List ℕ) (bound : ℕ) where
  -- the estimates
  abbrev es : List ℕ
  es = estimates_by k ps j own s

  many : length es ≡ length ps + 1
  many = omega (arith, length_symbols_at s (checks_by k ps j), length_checks_by k ps j)

  estimate_at : (i c : ℕ) → i < length ps → c ≡ (j + get_or ps i 0) % k → get_or es (i + 1) 0 ≡ get_or s c 0
  estimate_at i c h e = ap (λ (n : ℕ). get_or es n 0) (add-one i) ∙ symbol-at k ps j s i h ∙ ap (λ (n : ℕ). get_or s n 0) (sym e)

  -- any estimate is more than no bound
  pub above_none : bound ≡ 0 → true ≡ ltb bound (lead_count es)
  above_none z = counted_above 256 bound es 0 (replicate 256 0) (counted_none 256 bound es) (omega (arith, many)) (omega arith)

  -- the own difference is counted
  pub counted_own : own < 256 → 1 ≤ bound → Counted 256 bound es (0 + 1) (set (replicate 256 0) own 1)
  counted_own low h =
      let e : get_or {A = ℕ} (replicate 256 0) own 0 + 1 ≡ 1 = omega (arith, cleared 256 own) in
      subst (λ (n : ℕ). Counted 256 bound es (0 + 1) (set (replicate 256 0) own n)) e
      (counted_more 256 bound es 0 (replicate 256 0) (counted_none 256 bound es) (omega (arith, many)) low (omega (arith, e)))

  module _ (i : ℕ) (counters : List ℕ) (w : Counted 256 bound es (i + 1) counters) where
    -- a counter is no more than the number of estimates passed
    pub few_at : (v : ℕ) → get_or counters v 0 ≤ i + 1
    few_at v = counted_few 256 bound es (i + 1) counters w v

    module _ (c : ℕ) (h : i < length ps) (at : c ≡ (j + get_or ps i 0) % k) where
      -- the syndrome at one check more, whose count stays within the bound
      pub more-at : get_or s c 0 < 256 → get_or counters (get_or s c 0) 0 + 1 ≤ bound → Counted 256 bound es (i + 1 + 1) (set counters (get_or s c 0) (get_or counters (get_or s c 0) 0 + 1))
      more-at = subst (λ (v : ℕ). v < 256 → get_or counters v 0 + 1 ≤ bound → Counted 256 bound es (i + 1 + 1) (set counters v (get_or counters v 0 + 1)))
          (estimate_at i c h at) (counted_more 256 bound es (i + 1) counters w (omega (arith, many)))

      -- or is above it
      pub above_at : bound < get_or counters (get_or s c 0) 0 + 1 → true ≡ ltb bound (lead_count es)
      above_at = subst (λ (v : ℕ). bound < get_or counters v 0 + 1 → true ≡ ltb bound (lead_count es))
          (estimate_at i c h at) (counted_above 256 bound es (i + 1) counters w (omega (arith, many)))

    -- all are passed
    pub within_at : length ps ≤ i → false ≡ ltb bound (lead_count es)
    within_at h = counted_within 256 bound es (i + 1) counters w (omega (arith, many))
