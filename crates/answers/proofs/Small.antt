-- Thresholds tested one by one, from the first on.
use Rattle.std.proofs.Common.{◌≡◌, refl, Bool, true, false, ◌&&◌, List, ℕ, ◌+◌, ◌≤◌, ◌<◌, ap, ◌∙◌, add-one, ltb, lt-ltb, le-ltb, length, get_or, drop, drop-cons, arith}
use Rattle.model.specs.Calls.{all_below}

-- where the test of threshold i is b
tested : (ts : List ℕ) (i : ℕ) (b : Bool) → i < length ts → ltb (get_or ts i 0) 33 ≡ b → all_below 33 (drop i ts) ≡ (b && all_below 33 (drop (i + 1) ts))
unfolding all_below
tested ts i b h e = ap (all_below 33) (drop-cons ts i 0 h) ∙ rw (e, add-one i) refl

-- a threshold above 32
pub not_small : (ts : List ℕ) (i : ℕ) → i < length ts → 32 < get_or ts i 0 → all_below 33 (drop i ts) ≡ false
not_small ts i h t = tested ts i false h (le-ltb (get_or ts i 0) 33 (omega arith))

-- a threshold of at most 32
pub next_small : (ts : List ℕ) (i : ℕ) → i < length ts → get_or ts i 0 ≤ 32 → all_below 33 (drop (i + 1) ts) ≡ all_below 33 (drop i ts)
next_small ts i h t = let e = tested ts i true h (lt-ltb (get_or ts i 0) 33 (omega arith)) in cc
