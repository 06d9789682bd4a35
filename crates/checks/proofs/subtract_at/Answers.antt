use Rattle.std.proofs.Common.{refl, arith}
use Rattle.checks.specs.Checks.{at_checks_of, by_position, check_inside, subtract_none, subtract_below, subtract_turn, subtract_all}
use Rattle.checks.proofs.subtract_at.Goals as goal

pub loop-p-init : goal.loop-p-init
loop-p-init c = subtract_none _ _ _ _ _ _

pub check_of-c-requires : goal.check_of-c-requires
check_of-c-requires c = by_position c.requires.0 _ _ c.requires.1 (omega arith)

pub bounds-s-c : goal.bounds-s-c
bounds-s-c c = check_inside (at_checks_of c.requires.0 c.loop-p.s c.loop-p.invariant.sized) _ _ c.check_of-c.ensures

pub sub_mod-requires : goal.sub_mod-requires
sub_mod-requires c = (c.requires.2, subtract_below c.loop-p.invariant (omega arith) c.requires.4 c.check_of-c.result, c.requires.3)

pub loop-p-preserved : goal.loop-p-preserved
loop-p-preserved c = subtract_turn c.loop-p.invariant _ _ _ (omega arith) c.check_of-c.ensures c.sub_mod.ensures refl

pub returns : goal.returns
returns c = subtract_all c.loop-p.invariant (omega arith)
