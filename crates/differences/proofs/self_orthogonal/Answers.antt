-- Each of the three sizes of cleared flags reaches half of its k.
use Rattle.std.proofs.Common.{arith}
use Rattle.theory.specs.Parts.{cleared}
use Rattle.differences.proofs.self_orthogonal.Goals as goal

pub differences_differ-requires : goal.differences_differ-requires
differences_differ-requires c = (c.requires, omega arith, cleared 33)

pub differences_differ-requires-then-code-le1024 : goal.differences_differ-requires-then-code-le1024
differences_differ-requires-then-code-le1024 c = (c.requires, omega arith, cleared 513)

pub differences_differ-requires-2 : goal.differences_differ-requires-2
differences_differ-requires-2 c = (c.requires, omega (arith, c.requires.sizes.k_high), cleared 2049)
