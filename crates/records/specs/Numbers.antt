-- The numbers that bytes hold, four bytes each, low byte first.
use Rattle.std.specs.Prelude.{ℕ, ◌/◌, List, length, slice_get}
use Rattle.std.specs.Int.{w32, from_le_bytes}
use Rattle.std.specs.Option.{option_map_or}
use Rattle.std.specs.Simd.{first_chunks}

-- the number at a place among them; 0 past the end
abbrev pub number_among : List ℕ → ℕ → ℕ
number_among bytes place = option_map_or (from_le_bytes w32) (slice_get (first_chunks 4 (length bytes / 4) bytes) place) 0
