-- `write_each`: the bytes of the margins before the branch, and of its own before j, are written.
use Rattle.std.proofs.Common.{length, ◌-◌}
use Rattle.params.specs.Codes.{code_by}
use Rattle.checks.specs.Places.{AtBranch}
use Rattle.margins.specs.Margins.{margin_of}
use Rattle.margin_bytes.specs.Fronts.{Front}
use Rattle.margin_bytes.proofs.write_each.Given as goal

abbrev pub invariant-loop-j : goal.invariant-loop-j
invariant-loop-j l = Front (margin_of (code_by l.code l.positions) l.s l.d) (length l.d) l.out l.j

abbrev pub invariant-loop-place : goal.invariant-loop-place
invariant-loop-place l =
    AtBranch (code_by l.code l.positions) l.place × Front (margin_of (code_by l.code l.positions) l.s l.d) (length l.d) l.out l.place.symbol

abbrev pub decreases-loop-place : goal.decreases-loop-place
decreases-loop-place l = length l.d - l.place.symbol
