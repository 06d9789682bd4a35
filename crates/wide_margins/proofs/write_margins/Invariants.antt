-- `write_margins`: the margins of the symbols before the branch, and of its own before j, are written, each by its symbol's estimates.
use Rattle.std.proofs.Common.{length, ◌-◌}
use Rattle.checks.specs.Places.{AtBranch}
use Rattle.margins.specs.Margins.{margin_of, Front}
use Rattle.wide_symbols.specs.Codes.{wide_code_by}
use Rattle.wide_margins.proofs.write_margins.Given as goal

abbrev pub invariant-loop-j : goal.invariant-loop-j
invariant-loop-j g l =
    let h = g.S.WideSymbol in
    Front (margin_of (wide_code_by h.profile l.code l.positions) (g.S.Symbol.numbers l.s) (g.S.Symbol.numbers l.d)) (length l.d) l.margins l.j

abbrev pub invariant-loop-place : goal.invariant-loop-place
invariant-loop-place g l =
    let h = g.S.WideSymbol in
    AtBranch (wide_code_by h.profile l.code l.positions) l.place
    × Front (margin_of (wide_code_by h.profile l.code l.positions) (g.S.Symbol.numbers l.s) (g.S.Symbol.numbers l.d)) (length l.d) l.margins l.place.symbol

abbrev pub decreases-loop-place : goal.decreases-loop-place
decreases-loop-place g l = length l.d - l.place.symbol
