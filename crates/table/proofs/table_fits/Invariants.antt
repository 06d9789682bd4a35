-- `table_fits`: the next run starts at `at`, and the positions of those before it fit.
use Rattle.std.proofs.Common.{◌≡◌, ◌*◌, true}
use Rattle.model.specs.Calls.{positions_fit}
use Rattle.model.specs.Code.{checks_each, branch_at, every_below}
use Rattle.params.specs.Codes.{code_by}
use Rattle.table.proofs.table_fits.Given as goal

abbrev pub invariant-loop : goal.invariant-loop
invariant-loop l =
    let c = code_by l.code l.positions in
    (l.at ≡ l.counter * checks_each c) × (every_below l.counter (λ r. positions_fit l.code.k 0 (branch_at c r)) ≡ true)
