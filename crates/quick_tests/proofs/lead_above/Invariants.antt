-- `lead_above`: the counters are those of the own difference and of the syndrome at the checks by the positions so far, and none is above the bound.
-- In the second loop the position that comes next is room or more.
use Rattle.std.proofs.Common.{◌≡◌, ◌+◌, ◌<◌, ◌≤◌, length, get_or}
use Rattle.checks.specs.Checks.{estimates_by}
use Rattle.vote.specs.Counters.{Counted}
use Rattle.quick_tests.proofs.lead_above.Given as goal

abbrev pub invariant-loop-i : goal.invariant-loop-i
invariant-loop-i l =
    (l.straight ≡ length l.positions) × Counted 256 l.bound (estimates_by l.fn.code.k l.positions l.j l.own l.s) (l.i + 1) l.counters

abbrev pub invariant-loop-p : goal.invariant-loop-p
invariant-loop-p l =
    Counted 256 l.bound (estimates_by l.fn.code.k l.positions l.j l.own l.s) (l.straight + l.p-index + 1) l.counters
    × (l.straight + l.p-index < length l.positions → l.room ≤ get_or l.positions (l.straight + l.p-index) 0)
