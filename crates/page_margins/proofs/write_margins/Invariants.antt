-- `write_margins`: in both loops the margins of the symbols passed are written, each by its symbol's estimates.
use Rattle.std.proofs.Common.{◌+◌, length}
use Rattle.theory.specs.Branches.{Passed}
use Rattle.params.specs.Codes.{code_by}
use Rattle.margins.specs.Margins.{margin_of, Front}
use Rattle.page_margins.proofs.write_margins.Given as goal

abbrev pub invariant-loop-r : goal.invariant-loop-r
invariant-loop-r l =
    let c = code_by l.code l.positions in
    Passed c l.from l.at l._r × Front (margin_of c l.s l.d) (length l.d) l.margins l.at

abbrev pub invariant-loop-j : goal.invariant-loop-j
invariant-loop-j l =
    Front (margin_of (code_by l.code l.positions) l.s l.d) (length l.d) l.margins (l.at + l.j)
