-- `put`: the four stores, in order, are one store of the symbol's bytes.
use native.Mathlib.Numerals.{towards_suc}
use Rattle.model.specs.Bytes.{bytes_in}
use Rattle.words.proofs.put.Goals as goal

pub returns : goal.returns
unfolding bytes_in
returns c = simp towards_suc
