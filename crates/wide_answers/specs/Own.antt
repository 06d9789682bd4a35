-- The code of wide symbols: q is the one of its profile, and the tests of the shape are those of any q.
use Rattle.std.specs.Prelude.{◌≡◌, refl, List, ℕ}
use Rattle.std.proofs.Common.{arith}
use Rattle.model.specs.Calls.{first_that_applies, within}
use Rattle.model.specs.Code.{Profile, highest}
use Rattle.theory.specs.Profiles.{later_tests}
use Rattle.theory.specs.WideCalls.{Wide}
use Rattle.params.specs.Codes.{profile_of, code_by}
use Rattle.params.specs.declared.Params.{Params}
use Rattle.wide_calls.specs.Later.{shape_any}
use Rattle.wide_symbols.specs.Codes.{wide_code_by}
use Rattle.wide_symbols.specs.Widths.{IsWide, two_bytes, four_bytes}

pub own : {f : Profile} {n : ℕ} → IsWide f n → (p : Params) (ps : List ℕ) → Wide (wide_code_by f p ps)
unfolding within
own two_bytes p ps = record { one = refl; values = refl; some = omega arith }
own four_bytes p ps = record { one = refl; values = refl; some = omega arith }

pub shape_own : (f : Profile) (p : Params) (ps : List ℕ) → first_that_applies (later_tests (code_by p ps)) ≡ first_that_applies (later_tests (wide_code_by f p ps))
shape_own f p ps = shape_any f (profile_of p.bits) p.q (highest f) p.k p.b ps
