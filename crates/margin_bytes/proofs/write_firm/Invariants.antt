-- `write_firm`: the bytes of the first i margins are written.
use Rattle.std.proofs.Common.{pos, ◌-ℤ◌}
use Rattle.margin_bytes.specs.Fronts.{Front}
use Rattle.margin_bytes.proofs.write_firm.Given as goal

abbrev pub invariant-loop-i : goal.invariant-loop-i
invariant-loop-i l = Front (λ j. pos l.n -ℤ pos 0) l.count l.out l.i
