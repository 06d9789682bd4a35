-- On bit pages all symbols are bits.
use Rattle.std.specs.Prelude.{◌≡◌, Bool, true, List, ℕ, ◌≤◌, ◌<◌, get_or}
use Rattle.std.proofs.Common.{arith}
use Rattle.model.specs.Symbols.{Below}

-- where the vote is by ones, a data symbol's own difference and the symbols of s are bits
abbrev pub InBits : Bool → ℕ → List ℕ → Type 0
InBits bits own s = bits ≡ true → (own < 2) × Below 2 s

-- as symbols below a q of at most 2 are
pub bits_low : (bits : Bool) (q own : ℕ) (s : List ℕ) → (bits ≡ true → q ≤ 2) → own < q → Below q s → InBits bits own s
bits_low bits q own s h o b e = (omega (arith, h e), (λ i. omega (arith, h e, b i)))

-- where the vote is by ones, all symbols of s and of d are bits
abbrev pub AllBits : Bool → List ℕ → List ℕ → Type 0
AllBits bits s d = bits ≡ true → Below 2 s × Below 2 d

pub bits_at : (bits : Bool) (s d : List ℕ) (i : ℕ) → AllBits bits s d → InBits bits (get_or d i 0) s
bits_at bits s d i h e = ((h e).1 i, (h e).0)
