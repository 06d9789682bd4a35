-- `pass_in`: the buffer for the zeros is large enough, and zero.
use Rattle.std.proofs.Common.{refl, arith}
use Rattle.theory.specs.Counters.{clear_made}
use Rattle.passing.proofs.pass_in.Goals as goal

pub pass_with-requires : goal.pass_with-requires
pass_with-requires c = (omega arith, omega arith, λ h. omega arith, clear_made 128, refl)

pub pass_with-requires-2 : goal.pass_with-requires-2
pass_with-requires-2 c = (omega arith, omega arith, λ h. h, clear_made 4096, refl)
