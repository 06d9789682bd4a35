-- The two widths of wide symbols.
use Rattle.std.specs.Prelude.{◌≡◌, refl, ℕ, ◌≤◌}
use Rattle.std.proofs.Common.{arith}
use Rattle.model.specs.Bytes.{symbol_size}
use Rattle.model.specs.Code.{Profile, wide16, wide32, highest}

-- "Support q = 65,536 and q = 4,294,967,296" (N10): a profile of wide symbols, and the bytes of its symbols
pub data IsWide : Profile → ℕ → Type 0 where
  two_bytes : IsWide wide16 2
  four_bytes : IsWide wide32 4

-- the bytes of a symbol are those that the profile says
pub wide_size : {f : Profile} {n : ℕ} → IsWide f n → n ≡ symbol_size f
wide_size two_bytes = refl
wide_size four_bytes = refl

pub wide_low : {f : Profile} {n : ℕ} → IsWide f n → 65536 ≤ highest f
wide_low two_bytes = omega arith
wide_low four_bytes = omega arith
