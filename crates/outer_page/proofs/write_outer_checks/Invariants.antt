-- `write_outer_checks`: the blocks before `at` have their outer checks, and those from it on are left.
use Rattle.std.proofs.Common.{◌≡◌, drop}
use Rattle.params.specs.Codes.{code_by}
use Rattle.outer_page.specs.OuterChecks.{Checked}
use Rattle.outer_page.proofs.write_outer_checks.Given as goal

abbrev pub invariant-loop-part : goal.invariant-loop-part
invariant-loop-part l =
    Checked (code_by l.code l.positions) l.block l.«data» l.at l.page
    × (l.part-iterator.rest.now ≡ drop l.at l.«data»)
    × (l.part-iterator.size ≡ l.block)
