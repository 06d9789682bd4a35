-- `subtract_symbol`: at each of the two places the difference modulo q is written.
use Rattle.std.proofs.Common.{refl}
use Rattle.visits.proofs.subtract_symbol.Goals as goal

pub returns : goal.returns
returns c = rw (c.sub_mod.ensures, c.sub_mod-2.ensures) (refl, refl)
