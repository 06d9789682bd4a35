-- `margin_by_zeros`: J + 1 where all estimates are 0, else J - 1.
use Rattle.std.proofs.Common.{◌∙◌, arith}
use Rattle.margins.specs.Margins.{read_back}
use Rattle.firm_symbols.specs.Phases.{by_all, by_fewer}
use Rattle.firm_symbols.proofs.margin_by_zeros.Goals as goal

pub returns-then-each-n : goal.returns-then-each-n
returns-then-each-n c = read_back _ c.margin_of.type_inv ∙ c.margin_of.ensures ∙ by_all _ _ c.if-each-n.true

pub returns : goal.returns
returns c = read_back _ c.margin_of-2.type_inv ∙ c.margin_of-2.ensures ∙ by_fewer _ _ (omega (arith, c.if-each-n.false))
