-- The code that parameters and a table stand for.
use Rattle.std.specs.Prelude.{◌≡◌, Bool, true, false, List, ℕ, ◌≤◌, T}
use Rattle.std.proofs.Common.{sym, subst, arith}
use Rattle.model.specs.Code.{Profile, byte_pages, bit_pages, highest, Code, code_in}
use Rattle.params.specs.declared.Params.{Params}

-- the profile, of those whose symbols are bytes
abbrev pub profile_of : Bool → Profile
profile_of true = bit_pages
profile_of false = byte_pages

pub in_bytes : (bits : Bool) → highest (profile_of bits) ≤ 256
in_bytes true = omega arith
in_bytes false = omega arith

-- on bit pages q is at most 2
pub bits_two : (bits : Bool) (q : ℕ) → q ≤ highest (profile_of bits) → bits ≡ true → q ≤ 2
bits_two true q h e = h
bits_two false q h e = absurd (subst T (sym e) tt)

-- the code of parameters p with a table of positions
abbrev pub code_by : Params → List ℕ → Code
code_by p positions = code_in (profile_of p.bits) p.q p.k p.b positions
