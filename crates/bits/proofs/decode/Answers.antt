-- `decode`: no counters are lent; it is `decode_blocks` on bit pages, in blocks of 1.
use Rattle.std.proofs.Common.{true}
use Rattle.model.specs.Code.{bit_pages, code_in}
use Rattle.model.specs.Decoder.{state_by}
use Rattle.theory.specs.Counters.{none_clear}
use Rattle.theory.proofs.InBlocks.{decode_done}
use Rattle.bits.proofs.decode.Goals as goal

pub decode_blocks-requires : goal.decode_blocks-requires
decode_blocks-requires c = λ e. none_clear

pub returns : goal.returns
returns c =
    let a = c.args in
    let done = decode_done (code_in bit_pages a.q a.k a.b a.positions.now) true a.page.now a.thresholds.now (state_by a.res.now a.syndrome.now a.difference.now) a.margins.now _ _
    c.decode_blocks.ensures.outcome in
    record { outcome = done.0; falling = done.1.0; recovery = done.1.1 }
