-- `write_others`: in both loops the bytes of the symbols before the place are their margins, and of the others those of the firm symbols.
use Rattle.std.proofs.Common.{length, ◌-◌}
use Rattle.params.specs.Codes.{code_by}
use Rattle.checks.specs.Places.{InBranch, AtBranch}
use Rattle.margin_bytes.specs.Phases.{HeldBytes}
use Rattle.margin_bytes.proofs.write_others.Given as goal

abbrev pub invariant-loop-place-2 : goal.invariant-loop-place-2
invariant-loop-place-2 l =
    InBranch (code_by l.code l.positions) l.initial.place l.place × HeldBytes (code_by l.code l.positions) l.zeros l.s l.d l.out l.place.symbol

abbrev pub decreases-loop-place-2 : goal.decreases-loop-place-2
decreases-loop-place-2 l = l.place.end - l.place.symbol

abbrev pub invariant-loop-place : goal.invariant-loop-place
invariant-loop-place l =
    AtBranch (code_by l.code l.positions) l.place × HeldBytes (code_by l.code l.positions) l.zeros l.s l.d l.out l.place.symbol

abbrev pub decreases-loop-place : goal.decreases-loop-place
decreases-loop-place l = length l.d - l.place.symbol
