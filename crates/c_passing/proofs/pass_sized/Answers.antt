-- `pass_sized`: the buffer for the zeros is large enough, and zero.
use Rattle.std.proofs.Common.{arith}
use Rattle.theory.specs.Counters.{clear_made}
use Rattle.c_passing.proofs.pass_sized.Goals as goal

pub pass_into-requires : goal.pass_into-requires
pass_into-requires c = (c.requires.0, c.requires.1, λ h. omega arith, clear_made 128, c.requires.2)

pub pass_into-requires-2 : goal.pass_into-requires-2
pass_into-requires-2 c = (c.requires.0, c.requires.1, λ h. h, clear_made 4096, c.requires.2)
