-- `reliability_at`: the place that is found is that of the symbol, and its run gives the symbol's checks.
use Rattle.std.proofs.Common.{◌≡◌, ◌∷◌, List, ℕ, ◌-◌, ◌<◌, ap, sym, ◌∙◌, arith, get_or}
use Rattle.model.specs.Code.{Code, data_count, checks_each, checks_by, checks_of}
use Rattle.model.specs.Symbols.{symbols_at}
use Rattle.model.specs.Outer.{reliability}
use Rattle.checks.specs.Places.{AtTable, run_at, Found, found}
use Rattle.checks.specs.Numbers.{place_by, placed_by}
use Rattle.checks.specs.declared.Place.{Place}
use Rattle.margins.specs.Margins.{read_back}
use Rattle.reliabilities.proofs.reliability_at.Goals as goal

module _ {c : Code} {s : List ℕ} (t : AtTable c s) (each j : ℕ) (p : Place) (e : each ≡ checks_each c) (h : j < data_count c) (f : p ≡ place_by c.k each j) where
  number : p.symbol ≡ j
  number = ap (λ (x : Place). x.symbol) f

  place : Found c s p
  place = found t (placed_by c each j p e h f)

  index : checks_by c.k (run_at p c.positions) (j - p.start) ≡ checks_of c j
  index = ap (checks_by c.k (run_at p c.positions)) (ap (λ (n : ℕ). n - p.start) (sym number)) ∙ place.checks_are ∙ ap (checks_of c) number

pub overflow_sub-index : goal.overflow_sub-index
overflow_sub-index c =
    let e = c.place_of-place.ensures in
    omega (arith, (place c.requires.0 _ _ _ c.checks_each.ensures c.requires.2 e).start_low, ap (λ (x : Place). x.symbol) e)

pub slice_bounds-reliability_in-end : goal.slice_bounds-reliability_in-end
slice_bounds-reliability_in-end c = (place c.requires.0 _ _ _ c.checks_each.ensures c.requires.2 c.place_of-place.ensures).last_in

pub reliability_in-requires : goal.reliability_in-requires
reliability_in-requires c =
    let e = c.place_of-place.ensures in
    let f = place c.requires.0 _ _ _ c.checks_each.ensures c.requires.2 e in
    (f.checks_lent, omega (arith, f.index_low, ap (λ (x : Place). x.symbol) e))

pub returns : goal.returns
returns c =
    let a = c.args in
    read_back _ c.reliability_in.type_inv ∙ c.reliability_in.ensures
    ∙ ap (λ (is : List ℕ). reliability a.e (get_or a.d.now a.symbol 0 ∷ symbols_at a.s.now is)) (index c.requires.0 _ _ _ c.checks_each.ensures c.requires.2 c.place_of-place.ensures)
