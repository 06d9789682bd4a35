-- The low bytes of estimates: none of their values stands more often among the estimates than its low byte among theirs.
use Rattle.std.specs.Prelude.{◌≡◌, refl, false, List, [], ◌∷◌, ℕ, zero, suc, ◌%◌, ◌≤◌, ltb, length, get_or}
use Rattle.std.proofs.Common.{sym, ap, arith, ltb-false}
use Rattle.std.proofs.Math.Decide.{ℕ_discrete}
use Rattle.model.specs.Symbols.{same, count}
use Rattle.model.specs.Vote.{leader, lead_count}
use Rattle.theory.specs.Counting.{same_yes, same_no}
use Rattle.theory.specs.Voting.{lead_max}

unfoldable pub lows : List ℕ → List ℕ
lows [] = []
lows (x ∷ xs) = x % 256 ∷ lows xs

pub lows_length : (es : List ℕ) → length (lows es) ≡ length es
unfolding lows
lows_length [] = refl
lows_length (x ∷ xs) = ap suc (lows_length xs)

pub lows_at : (es : List ℕ) (i : ℕ) → get_or (lows es) i 0 ≡ get_or es i 0 % 256
unfolding lows
lows_at [] i = refl
lows_at (x ∷ xs) zero = refl
lows_at (x ∷ xs) (suc i) = lows_at xs i

same_low : (v x : ℕ) → same v x ≤ same (v % 256) (x % 256)
same_low v x = elim (ℕ_discrete v x) as (λ o. same v x ≤ same (v % 256) (x % 256)) [
  | yes e ↦ omega (arith, same_yes v x e, same_yes (v % 256) (x % 256) (ap (λ (n : ℕ). n % 256) e))
  | no n ↦ omega (arith, same_no v x n)
]

count_low : (v : ℕ) (es : List ℕ) → count v es ≤ count (v % 256) (lows es)
unfolding lows count
count_low v [] = omega arith
count_low v (x ∷ xs) = omega (arith, same_low v x, count_low v xs)

-- where no low byte stands more often than the bound, no value does
pub lead_low : (es : List ℕ) (bound : ℕ) → false ≡ ltb bound (lead_count (lows es)) → lead_count es ≤ bound
unfolding lead_count
lead_low es bound e = omega (arith, ltb-false bound (lead_count (lows es)) (sym e), count_low (leader es) es, lead_max (lows es) (leader es % 256))
