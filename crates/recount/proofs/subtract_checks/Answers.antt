use Rattle.std.proofs.Common.{ℕ, List, ap, sym, ◌∙◌, arith}
use Rattle.model.specs.Symbols.{subtract_at}
use Rattle.checks.specs.Checks.{by_position, subtract_none, subtract_below, subtract_turn, subtract_all}
use Rattle.checks.specs.Places.{found}
use Rattle.zeros.specs.Counts.{zero_counts}
use Rattle.recount.proofs.subtract_checks.Goals as goal

pub slice_bounds-run-end : goal.slice_bounds-run-end
slice_bounds-run-end c = let g = found c.requires.0 c.requires.1 in omega (arith, g.last_in)

pub loop-p-init : goal.loop-p-init
loop-p-init c = (subtract_none _ _ _ _ _ _, c.requires.5)

pub check_of-c-requires : goal.check_of-c-requires
check_of-c-requires c =
    let g = found c.requires.0 c.requires.1 in
    by_position g.checks_lent _ c.loop-p.p-index g.index_low (omega arith)

pub sub_mod-v-requires : goal.sub_mod-v-requires
sub_mod-v-requires c = omega (arith, subtract_below c.loop-p.invariant.0 (omega arith) c.requires.4 c.check_of-c.result)

pub loop-p-preserved : goal.loop-p-preserved
loop-p-preserved c =
    let w = c.write_check.ensures in (
      subtract_turn c.loop-p.invariant.0 _ _ _ (omega arith) c.check_of-c.ensures c.sub_mod-v.ensures w.0,
      w.1 ∙ ap (zero_counts _) (sym w.0),
    )

pub returns : goal.returns
returns c =
    let g = found c.requires.0 c.requires.1 in
    let l = c.loop-p.invariant in (
      subtract_all l.0 (omega arith) ∙ ap (λ (is : List ℕ). subtract_at c.args.code.q c.args.h is c.args.s.now) g.checks_are,
      l.1,
    )
