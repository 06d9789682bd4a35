-- `visit`: the state is left where nothing is to subtract, and changed by h otherwise.
use Rattle.std.proofs.Common.{◌≡◌, ◌∷◌, List, ℕ, ◌-◌, ap, sym, ◌∙◌, arith, length, get_or}
use Rattle.model.specs.Symbols.{count, symbols_at}
use Rattle.checks.specs.Places.{Found, found, run_at}
use Rattle.checks.specs.Estimates.{estimates_at, zeros_counted}
use Rattle.checks.specs.declared.Place.{Place}
use Rattle.model.specs.Code.{Code, checks_by}
use Rattle.params.specs.Codes.{code_by}
use Rattle.zeros.specs.Counts.{length_zero_counts, zero_counts_at}
use Rattle.visits.specs.Decisions.{to_subtract}
use Rattle.visits.specs.Progress.{both, at_table, ready_bits, ready_subtract, ready_symbol, changed_state, visit_left, visit_made}
use Rattle.visits.proofs.visit.Goals as goal

-- what the vote says to subtract
subtracted : {c : Code} {s : List ℕ} {p : Place} → Found c s p → (t : ℕ) (d : List ℕ) {n : ℕ}
    → n ≡ to_subtract t (get_or d p.symbol 0 ∷ symbols_at s (checks_by c.k (run_at p c.positions) (p.symbol - p.start))) → n ≡ to_subtract t (estimates_at c p.symbol (get_or d p.symbol 0) s)
subtracted {c} {s} {p} f t d e = e ∙ ap (λ (is : List ℕ). to_subtract t (get_or d p.symbol 0 ∷ symbols_at s is)) f.checks_are

pub overflow_sub-index : goal.overflow_sub-index
overflow_sub-index c = (found (at_table _ _ c.requires.0) c.requires.1).start_low

pub bounds-zeros-j : goal.bounds-zeros-j
bounds-zeros-j c = omega (arith, c.requires.1.inside, ap length c.requires.3, length_zero_counts (code_by c.args.code c.args.positions.now) c.args.syndrome.now)

pub slice_bounds-full_vote-end : goal.slice_bounds-full_vote-end
slice_bounds-full_vote-end c = (found (at_table _ _ c.requires.0) c.requires.1).last_in

pub full_vote-h-requires : goal.full_vote-h-requires
full_vote-h-requires c =
    let a = c.args in
    let r = c.requires in
    let code = code_by a.code a.positions.now in
    let f = found (at_table _ _ r.0) r.1 in
    let s = a.syndrome.now in (
      f.checks_lent,
      f.index_low,
      zeros_counted (get_or a.difference.now a.place.symbol 0) _ _ _
          (ap (λ (l : List ℕ). get_or l a.place.symbol 0) r.3 ∙ zero_counts_at code s a.place.symbol r.1.inside
          ∙ ap (λ (is : List ℕ). count 0 (symbols_at s is)) (sym f.checks_are))
          c.equal.ensures.0,
      omega (arith, c.equal.ensures.0, r.5, r.0.usable.table.sizes.J-high),
      r.4,
      ready_bits _ _ r.0 a.bits r.6 a.place.symbol,
    )

pub returns-then-h-eq0-clause-step : goal.returns-then-h-eq0-clause-step
returns-then-h-eq0-clause-step c =
    let a = c.args in
    visit_left _ _ _ _ _ _ (sym c.if-h-eq0.true ∙ subtracted (found (at_table _ _ c.requires.0) c.requires.1) a.threshold a.difference.now c.full_vote-h.ensures.subtracts)

pub subtract_symbol-requires : goal.subtract_symbol-requires
subtract_symbol-requires c =
    let a = c.args in
    let r = c.requires in
    let e = subtracted (found (at_table _ _ r.0) r.1) a.threshold a.difference.now c.full_vote-h.ensures.subtracts in
    ready_symbol _ _ r.0 _ _ r.1.inside (omega (arith, e, ready_subtract _ _ r.0 a.threshold a.place.symbol))

pub subtract_checks-requires : goal.subtract_checks-requires
subtract_checks-requires c =
    let a = c.args in
    let r = c.requires in
    let e = subtracted (found (at_table _ _ r.0) r.1) a.threshold a.difference.now c.full_vote-h.ensures.subtracts in
    (at_table _ _ r.0, r.1, r.0.bytes, omega (arith, e, ready_subtract _ _ r.0 a.threshold a.place.symbol), r.0.sized.in_syndrome, r.3)

pub returns-clause-step : goal.returns-clause-step
returns-clause-step c =
    let a = c.args in
    let e = subtracted (found (at_table _ _ c.requires.0) c.requires.1) a.threshold a.difference.now c.full_vote-h.ensures.subtracts in
    both (changed_state _ _ _ _ _ _ _ c.subtract_symbol.ensures.0 c.subtract_checks.ensures.0 c.subtract_symbol.ensures.1) c.changed.ensures
    ∙ visit_made _ _ _ _ _ _ c.full_vote-h.result e c.if-h-eq0.false
