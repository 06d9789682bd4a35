-- `change_at`: the change is what its two subtractions leave, put together.
use Rattle.std.proofs.Common.{List, ℕ, ap, ◌∙◌, arith}
use Rattle.model.specs.Symbols.{subtract_at}
use Rattle.checks.specs.Places.{found}
use Rattle.visits.specs.Progress.{at_table, ready_symbol, changed_state}
use Rattle.visits.proofs.change_at.Goals as goal

pub overflow_sub-index : goal.overflow_sub-index
overflow_sub-index c = (found (at_table _ _ c.requires.0) c.requires.1).start_low

pub subtract_symbol-requires : goal.subtract_symbol-requires
subtract_symbol-requires c = let r = c.requires in ready_symbol _ _ r.0 _ _ r.1.inside r.2

pub slice_bounds-subtract_at-end : goal.slice_bounds-subtract_at-end
slice_bounds-subtract_at-end c = (found (at_table _ _ c.requires.0) c.requires.1).last_in

pub subtract_at-requires : goal.subtract_at-requires
subtract_at-requires c =
    let r = c.requires in
    let f = found (at_table _ _ r.0) r.1 in
    (f.checks_lent, f.index_low, r.0.bytes, omega (arith, r.2), r.0.sized.in_syndrome)

pub returns : goal.returns
returns c =
    let a = c.args in
    let e = c.subtract_symbol.ensures in
    changed_state _ _ _ _ _ _ _ e.0
    (c.subtract_at.ensures ∙ ap (λ (is : List ℕ). subtract_at a.code.q a.h is a.syndrome.now) (found (at_table _ _ c.requires.0) c.requires.1).checks_are) e.1
