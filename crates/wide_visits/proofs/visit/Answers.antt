use Rattle.std.proofs.Common.{◌≡◌, ◌∷◌, List, ℕ, ◌-◌, ◌∙◌, ap, sym, length, get_or, arith}
use Rattle.model.specs.Code.{Code, checks_by, checks_of}
use Rattle.model.specs.Symbols.{count, symbols_at, same}
use Rattle.checks.specs.declared.Place.{Place}
use Rattle.checks.specs.Places.{Found, found, run_at}
use Rattle.checks.specs.Estimates.{estimates_at, zeros_counted}
use Rattle.zeros.specs.Counts.{length_zero_counts, zero_counts_at}
use Rattle.visits.specs.Decisions.{to_subtract}
use Rattle.visits.specs.Progress.{both, at_table, ready_subtract, changed_state, visit_left, visit_made}
use Rattle.wide_symbols.specs.Numbers.{numbers_length, number_read}
use Rattle.wide_symbols.specs.Codes.{wide_code_by}
use Rattle.wide_visits.proofs.visit.Goals as goal

pub bounds-zeros-j : goal.bounds-zeros-j
bounds-zeros-j g c = omega (arith, c.requires.1.inside, ap length c.requires.3, length_zero_counts (wide_code_by g.S.WideSymbol.profile c.args.code c.args.positions.now) (g.S.Symbol.numbers c.args.syndrome.now))

pub slice_bounds-full_vote-end : goal.slice_bounds-full_vote-end
slice_bounds-full_vote-end g c = (found (at_table _ _ c.requires.0) c.requires.1).last_in

pub full_vote-found-requires : goal.full_vote-found-requires
full_vote-found-requires g c =
    let a = c.args in
    let f = found (at_table _ _ c.requires.0) c.requires.1 in
    let n = g.met.S.Symbol.are_numbers in
    let s : List ℕ = g.S.Symbol.numbers a.syndrome.now in
    let z : same 0 (g.S.Symbol.number c.index-difference-j.result) ≡ same 0 (get_or (g.S.Symbol.numbers a.difference.now) a.place.symbol 0) =
    ap (same 0) (number_read n a.difference.now a.place.symbol (omega (arith, c.requires.1.inside, c.requires.0.sized.len_difference, numbers_length n a.difference.now)) c.index-difference-j.is) in (
      f.checks_lent,
      f.index_low,
      zeros_counted (g.S.Symbol.number c.index-difference-j.result) _ _ _
          (ap (λ (l : List ℕ). get_or l a.place.symbol 0) c.requires.3 ∙ zero_counts_at _ s a.place.symbol c.requires.1.inside
          ∙ ap (λ (is : List ℕ). count 0 (symbols_at s is)) (sym f.checks_are))
          c.zeros_of.ensures.0,
      omega (arith, c.zeros_of.ensures.0, z, c.requires.5, c.requires.0.usable.table.sizes.J-high),
    )

-- what the vote says to subtract, from the own difference as it was read
subtracted : {c : Code} {s : List ℕ} {p : Place} → Found c s p → (t : ℕ) (d : List ℕ) {n own : ℕ} → own ≡ get_or d p.symbol 0
    → n ≡ to_subtract t (own ∷ symbols_at s (checks_by c.k (run_at p c.positions) (p.symbol - p.start))) → n ≡ to_subtract t (estimates_at c p.symbol (get_or d p.symbol 0) s)
subtracted {c} {s} {p} f t d {n} {own} o e =
    e ∙ ap (λ (is : List ℕ). to_subtract t (own ∷ symbols_at s is)) f.checks_are ∙ ap (λ (x : ℕ). to_subtract t (x ∷ symbols_at s (checks_of c p.symbol))) o

pub returns-then-found-eq0-clause-step : goal.returns-then-found-eq0-clause-step
returns-then-found-eq0-clause-step g c =
    let a = c.args in
    let n = g.met.S.Symbol.are_numbers in
    let own = number_read n a.difference.now a.place.symbol (omega (arith, c.requires.1.inside, c.requires.0.sized.len_difference, numbers_length n a.difference.now)) c.index-difference-j.is in
    visit_left _ _ _ _ _ _ (sym c.if-found-eq0.true ∙ subtracted (found (at_table _ _ c.requires.0) c.requires.1) a.threshold _ own c.full_vote-found.ensures)

pub narrowed-h-requires : goal.narrowed-h-requires
narrowed-h-requires g c =
    let a = c.args in
    let n = g.met.S.Symbol.are_numbers in
    let own = number_read n a.difference.now a.place.symbol (omega (arith, c.requires.1.inside, c.requires.0.sized.len_difference, numbers_length n a.difference.now)) c.index-difference-j.is in
    omega (arith, subtracted (found (at_table _ _ c.requires.0) c.requires.1) a.threshold _ own c.full_vote-found.ensures, ready_subtract _ _ c.requires.0 a.threshold a.place.symbol)

pub returns-clause-step : goal.returns-clause-step
returns-clause-step g c =
    let a = c.args in
    let n = g.met.S.Symbol.are_numbers in
    let own = number_read n a.difference.now a.place.symbol (omega (arith, c.requires.1.inside, c.requires.0.sized.len_difference, numbers_length n a.difference.now)) c.index-difference-j.is in
    let h = c.narrowed-h.ensures ∙ subtracted (found (at_table _ _ c.requires.0) c.requires.1) a.threshold _ own c.full_vote-found.ensures in
    both (changed_state _ _ _ _ _ _ _ c.subtract_symbol.ensures.0 c.subtract_checks.ensures.0 c.subtract_symbol.ensures.1) c.changed.ensures
    ∙ visit_made _ _ _ _ _ _ (g.S.Symbol.number c.narrowed-h.result) h (λ z. c.if-found-eq0.false (sym c.narrowed-h.ensures ∙ z))
