use Rattle.std.proofs.Common.{◌∙◌, refl, arith}
use Rattle.margins.specs.Margins.{front_none, front_turn, front_all, read_back}
use Rattle.page_margins.proofs.write_firm.Goals as goal

pub loop-m-init : goal.loop-m-init
loop-m-init c = front_none _ _ _ refl

pub loop-m-preserved : goal.loop-m-preserved
loop-m-preserved c =
    let w = c.loop-m.invariant in
    front_turn _ _ _ _ w (omega (arith, w.len)) _ (read_back _ c.margin_of.type_inv ∙ c.margin_of.ensures)

pub returns : goal.returns
returns c = let w = c.loop-m.invariant in front_all _ _ _ _ w (omega (arith, w.len))
