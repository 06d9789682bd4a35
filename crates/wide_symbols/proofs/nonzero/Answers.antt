use Rattle.std.proofs.Common.{◌∙◌, arith}
use Rattle.theory.specs.Counting.{differ_le}
use Rattle.wide_symbols.specs.Widths.{wide_low}
use Rattle.wide_symbols.proofs.nonzero.Goals as goal

pub narrowed-requires : goal.narrowed-requires
narrowed-requires g c = omega (arith, c.from.ensures, c.mark.ensures, differ_le (g.S.Symbol.number c.args.x) 0, wide_low g.met.S.WideSymbol.is_wide)

pub returns : goal.returns
returns g c = c.narrowed.ensures ∙ c.from.ensures ∙ c.mark.ensures
