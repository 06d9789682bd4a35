use Rattle.std.proofs.Common.{sym, arith}
use Rattle.theory.specs.Counting.{differ_no, differ_yes}
use Rattle.wide_symbols.proofs.mark.Goals as goal

pub returns-then-widened-eq0 : goal.returns-then-widened-eq0
returns-then-widened-eq0 g c = sym (differ_no _ 0 (omega (arith, c.widened.ensures)))

pub returns-else-widened-eq0 : goal.returns-else-widened-eq0
returns-else-widened-eq0 g c = sym (differ_yes _ 0 (omega (arith, c.widened.ensures)))
