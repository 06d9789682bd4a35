-- `visit_symbol`: the part of the buffer that decides holds the estimates; the state is left where nothing is to subtract, and changed by h otherwise.
use Rattle.std.proofs.Common.{ℕ, ◌+◌, ap, sym, ◌∙◌, arith, length, length-append}
use lib.Seq.{length-take-le}
use Rattle.model.specs.Code.{checks_of}
use Rattle.model.specs.Decoder.{state_by, change}
use Rattle.theory.specs.Branches.{checks_length}
use Rattle.theory.specs.Counters.{none_clear}
use Rattle.theory.specs.Counting.{length_symbols_at}
use Rattle.params.specs.Codes.{code_by}
use Rattle.checks.specs.Estimates.{gathered_at}
use Rattle.checks.specs.Numbers.{placed_by}
use Rattle.checks.specs.declared.Place.{Place}
use Rattle.visits.specs.Decisions.{to_subtract}
use Rattle.visits.specs.Progress.{both, at_table, ready_subtract, visit_left, visit_made}
use Rattle.single_visits.proofs.visit_symbol.Goals as goal

pub slice_bounds-gather_symbol-end : goal.slice_bounds-gather_symbol-end
slice_bounds-gather_symbol-end c = sym (length-take-le _ _ (omega (arith, c.checks_each-each.ensures, c.requires.0.usable.table.sizes.J-high)))

pub gather_symbol-requires : goal.gather_symbol-requires
gather_symbol-requires c =
    let r = c.requires in
    let e = c.checks_each-each.ensures in
    (at_table _ _ r.0, r.0.sized.len_difference, r.1, length-take-le _ _ (omega (arith, e, r.0.usable.table.sizes.J-high)) ∙ ap (λ (n : ℕ). n + 1) e)

pub slice_bounds-es-end-2 : goal.slice_bounds-es-end-2
slice_bounds-es-end-2 c =
    let a = c.args in
    let code = code_by a.code a.positions.now in
    simp length-append (omega (
      arith,
      ap length c.gather_symbol.ensures,
      length_symbols_at a.syndrome.now (checks_of code a.symbol),
      checks_length code c.requires.0.usable.table a.symbol c.requires.1,
      c.checks_each-each.ensures,
    ))

pub slice_bounds-decided-end : goal.slice_bounds-decided-end
slice_bounds-decided-end c =
    let r = c.requires in
    sym (gathered_at _ c.args.syndrome.now (at_table _ _ r.0) c.args.symbol r.1 _ _ _ _ c.gather_symbol.ensures (ap (λ (n : ℕ). n + 1) c.checks_each-each.ensures)).len

pub decided-h-requires : goal.decided-h-requires
decided-h-requires c =
    let r = c.requires in
    let g = gathered_at _ c.args.syndrome.now (at_table _ _ r.0) c.args.symbol r.1 _ _ _ _ c.gather_symbol.ensures (ap (λ (n : ℕ). n + 1) c.checks_each-each.ensures) in
    (g.low, g.high, none_clear)

pub returns-then-h-eq0 : goal.returns-then-h-eq0
returns-then-h-eq0 c =
    let r = c.requires in
    let g = gathered_at _ c.args.syndrome.now (at_table _ _ r.0) c.args.symbol r.1 _ _ _ _ c.gather_symbol.ensures (ap (λ (n : ℕ). n + 1) c.checks_each-each.ensures) in
    visit_left _ _ _ _ _ _ (sym c.if-h-eq0.true ∙ c.decided-h.ensures.subtracts ∙ ap (to_subtract c.args.threshold) g.same)

pub change_at-requires : goal.change_at-requires
change_at-requires c =
    let a = c.args in
    let r = c.requires in
    let g = gathered_at _ a.syndrome.now (at_table _ _ r.0) a.symbol r.1 _ _ _ _ c.gather_symbol.ensures (ap (λ (n : ℕ). n + 1) c.checks_each-each.ensures) in
    let e = c.decided-h.ensures.subtracts ∙ ap (to_subtract a.threshold) g.same in
    (r.0, placed_by (code_by a.code a.positions.now) _ _ _ c.checks_each-each.ensures r.1 c.place_of-place.ensures, omega (arith, e, ready_subtract _ _ r.0 a.threshold a.symbol))

pub returns : goal.returns
returns c =
    let a = c.args in
    let r = c.requires in
    let code = code_by a.code a.positions.now in
    let g = gathered_at _ a.syndrome.now (at_table _ _ r.0) a.symbol r.1 _ _ _ _ c.gather_symbol.ensures (ap (λ (n : ℕ). n + 1) c.checks_each-each.ensures) in
    both
    (c.change_at.ensures
    ∙ ap (λ (x : Place). change a.code.q (checks_of code x.symbol) x.symbol c.decided-h.result (state_by a.res.now a.syndrome.now a.difference.now)) c.place_of-place.ensures)
    c.changed.ensures
    ∙ visit_made _ _ _ _ _ _ c.decided-h.result (c.decided-h.ensures.subtracts ∙ ap (to_subtract a.threshold) g.same) c.if-h-eq0.false
