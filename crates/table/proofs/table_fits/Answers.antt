-- `table_fits` tests the positions of one run after the other.
use Rattle.std.proofs.Common.{ap, sym, ◌∙◌, arith, refl}
use Rattle.model.specs.Calls.{positions_fit}
use Rattle.model.specs.Code.{every_below}
use Rattle.params.specs.Codes.{code_by}
use Rattle.differences.specs.Positions.{run_lent}
use Rattle.table.specs.Table.{every_go, every_stop}
use Rattle.table.proofs.table_fits.Goals as goal

pub loop-init : goal.loop-init
unfolding every_below
loop-init c = (omega arith, refl)

pub returns-then-not-positions_fit : goal.returns-then-not-positions_fit
returns-then-not-positions_fit c =
    sym (every_stop _ _ c.loop.counter c.loop-test.true
    (ap (positions_fit c.args.code.k 0) (sym (run_lent (code_by c.args.code c.args.positions.now) _ _ _ c.loop.invariant.0 c.checks_each-each.ensures))
    ∙ sym c.positions_fit.ensures
    ∙ c.if-not-positions_fit.true))

pub loop-preserved : goal.loop-preserved
loop-preserved c = (
  omega (arith, c.checks_each-each.ensures, c.loop.invariant.0),
  every_go _ _ c.loop.invariant.1
      (ap (positions_fit c.args.code.k 0) (sym (run_lent (code_by c.args.code c.args.positions.now) _ _ _ c.loop.invariant.0 c.checks_each-each.ensures))
      ∙ sym c.positions_fit.ensures
      ∙ c.if-not-positions_fit.false),
)
