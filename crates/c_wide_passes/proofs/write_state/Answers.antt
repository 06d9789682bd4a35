-- Each part is written as bytes.
use Rattle.model.specs.Decoder.{state_by}
use Rattle.c_wide_passes.proofs.write_state.Goals as goal

pub returns : goal.returns
returns g c = λ i. state_by (c.write_symbols.ensures i) (c.write_symbols-2.ensures i) (c.write_symbols-3.ensures i)
