-- The place that is found is that of the symbol, and its run gives the symbol's checks.
use Rattle.std.proofs.Common.{◌≡◌, ℕ, ◌-◌, ◌<◌, ◌∷◌, List, get_or, ap, sym, ◌∙◌, arith}
use Rattle.model.specs.Code.{Code, data_count, checks_each, checks_by, checks_of}
use Rattle.model.specs.Symbols.{symbols_at}
use Rattle.params.specs.Codes.{code_by}
use Rattle.checks.specs.Numbers.{place_by, placed_by}
use Rattle.checks.specs.Places.{AtTable, run_at, Found, found}
use Rattle.checks.specs.declared.Place.{Place}
use Rattle.checks.proofs.gather_symbol.Goals as goal

module _ {code : Code} {each j : ℕ} {p : Place} {s : List ℕ} (t : AtTable code s) (e : each ≡ checks_each code) (h : j < data_count code) (f : p ≡ place_by code.k each j) where
  place : Found code s p
  place = found t (placed_by code each j p e h f)

  number : p.symbol ≡ j
  number = ap (λ (x : Place). x.symbol) f

  index : j - p.start ≡ p.symbol - p.start
  index = ap (λ (n : ℕ). n - p.start) (sym number)

pub slice_bounds-gather-end : goal.slice_bounds-gather-end
slice_bounds-gather-end c = (place c.requires.0 c.checks_each.ensures c.requires.2 c.place_of-place.ensures).last_in

pub gather-requires : goal.gather-requires
gather-requires c =
    let g = place c.requires.0 c.checks_each.ensures c.requires.2 c.place_of-place.ensures in
    let i = index c.requires.0 c.checks_each.ensures c.requires.2 c.place_of-place.ensures in
    (g.checks_lent, omega (arith, g.index_low, i), omega (arith, g.run_length, g.each, c.requires.3))

pub returns : goal.returns
returns c =
    let a = c.args in
    let t = c.requires.0 in
    let e = c.checks_each.ensures in
    let f = c.place_of-place.ensures in
    let own = get_or a.d.now a.symbol 0 in
    c.gather.ensures
    ∙ ap (λ (is : List ℕ). own ∷ symbols_at a.s.now is)
    (ap (checks_by a.code.k (run_at c.place_of-place.result a.positions.now)) (index t e c.requires.2 f)
    ∙ (place t e c.requires.2 f).checks_are
    ∙ ap (checks_of (code_by a.code a.positions.now)) (number t e c.requires.2 f))
