-- `checks_each`: the positions are as many runs as were taken off, and the rest.
use Rattle.std.proofs.Common.{◌≡◌, ◌+◌, ◌*◌, ◌≤◌}
use Rattle.params.proofs.checks_each.Given as goal

abbrev pub invariant-loop-rest : goal.invariant-loop-rest
invariant-loop-rest l = (l.positions ≡ l.each * l.code.b + l.rest) × (l.each + l.rest ≤ l.positions)

abbrev pub decreases-loop-rest : goal.decreases-loop-rest
decreases-loop-rest l = l.rest
