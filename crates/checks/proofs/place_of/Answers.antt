use Rattle.std.proofs.Common.{arith}
use Rattle.checks.specs.Numbers.{walked_here}
use Rattle.checks.proofs.place_of.Goals as goal

pub returns : goal.returns
returns c = walked_here c.loop-start.invariant (omega arith)
