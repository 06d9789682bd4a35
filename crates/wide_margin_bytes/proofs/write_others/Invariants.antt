-- `write_others`: in both loops the bytes of the symbols before the place are their margins, and of the others those of the firm symbols.
use Rattle.std.proofs.Common.{length, ◌-◌}
use Rattle.checks.specs.Places.{InBranch, AtBranch}
use Rattle.margin_bytes.specs.Phases.{HeldBytes}
use Rattle.wide_symbols.specs.Codes.{wide_code_by}
use Rattle.wide_margin_bytes.proofs.write_others.Given as goal

abbrev pub invariant-loop-place-2 : goal.invariant-loop-place-2
invariant-loop-place-2 g l =
    let h = g.S.WideSymbol in
    InBranch (wide_code_by h.profile l.code l.positions) l.initial.place l.place
    × HeldBytes (wide_code_by h.profile l.code l.positions) l.zeros (g.S.Symbol.numbers l.s) (g.S.Symbol.numbers l.d) l.out l.place.symbol

abbrev pub decreases-loop-place-2 : goal.decreases-loop-place-2
decreases-loop-place-2 g l = l.place.end - l.place.symbol

abbrev pub invariant-loop-place : goal.invariant-loop-place
invariant-loop-place g l =
    let h = g.S.WideSymbol in
    AtBranch (wide_code_by h.profile l.code l.positions) l.place
    × HeldBytes (wide_code_by h.profile l.code l.positions) l.zeros (g.S.Symbol.numbers l.s) (g.S.Symbol.numbers l.d) l.out l.place.symbol

abbrev pub decreases-loop-place : goal.decreases-loop-place
decreases-loop-place g l = length l.d - l.place.symbol
