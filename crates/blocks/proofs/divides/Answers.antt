-- Fewer symbols than a block are what is left themselves.
use Rattle.std.proofs.Common.{ℕ, eqb, sym, ap, mod-eq_of_lt}
use Rattle.blocks.proofs.divides.Goals as goal

pub returns-then-n-block : goal.returns-then-n-block
returns-then-n-block c = ap (λ (n : ℕ). eqb n 0) (sym (mod-eq_of_lt c.if-n-block.true))
