-- `decode_outer`: it is `decode_blocks` in blocks of the length that the caller's stands for.
use Rattle.std.proofs.Common.{ℕ, true, ◌∙◌, ap}
use Rattle.model.specs.Code.{code_of}
use Rattle.model.specs.Decoder.{state_by}
use Rattle.theory.specs.Counters.{none_clear}
use Rattle.theory.specs.InBlocks.{decode_form}
use Rattle.theory.proofs.InBlocks.{decode_outer_done}
use Rattle.outer_decoder.proofs.decode_outer.Goals as goal

pub decode_blocks-requires : goal.decode_blocks-requires
decode_blocks-requires c = λ e. none_clear

pub returns : goal.returns
returns c =
    let a = c.args in
    let code = code_of a.q a.k a.b a.positions.now in
    let lent = state_by a.res.now a.syndrome.now a.difference.now in
    let done = decode_outer_done code a.block a.page.now a.thresholds.now lent a.margins.now _ _
    (c.decode_blocks.ensures.outcome ∙ ap (λ (m : ℕ). decode_form code m true a.page.now a.thresholds.now lent a.margins.now) c.length_of-length.ensures) in
    record { outcome = done.0; falling = done.1.0; recovery = done.1.1 }
