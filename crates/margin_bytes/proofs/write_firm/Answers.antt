use Rattle.std.proofs.Common.{ap, ◌∙◌, arith}
use Rattle.model.specs.Bytes.{twos}
use Rattle.margins.specs.Margins.{read_back}
use Rattle.margin_bytes.specs.Fronts.{front_none, front_turn, front_all}
use Rattle.margin_bytes.proofs.write_firm.Goals as goal

pub loop-i-init : goal.loop-i-init
loop-i-init c = front_none _ _ _ c.requires.2

pub loop-i-preserved : goal.loop-i-preserved
loop-i-preserved c =
    front_turn _ _ _ _ c.loop-i.invariant (omega arith) _ _
    (c.twos_of.ensures ∙ ap twos (read_back _ c.margin_of.type_inv ∙ c.margin_of.ensures)) c.put_word.ensures

pub returns : goal.returns
returns c = front_all _ _ _ _ c.loop-i.invariant (omega arith)
