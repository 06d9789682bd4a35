-- `write_firm`: the margins so far are written.
use Rattle.std.proofs.Common.{length}
use Rattle.std.specs.Prelude.{pos, ◌-ℤ◌}
use Rattle.margins.specs.Margins.{Front}
use Rattle.page_margins.proofs.write_firm.Given as goal

abbrev pub invariant-loop-m : goal.invariant-loop-m
invariant-loop-m l = Front (λ i. pos l.n -ℤ pos 0) (length l.initial.margins) l.margins l.m-index
