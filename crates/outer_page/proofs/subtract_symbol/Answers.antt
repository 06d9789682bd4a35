-- `subtract_symbol`: the place that is found is that of the symbol, and its run gives the symbol's checks.
use Rattle.std.proofs.Common.{◌≡◌, List, ℕ, ◌-◌, ◌<◌, ap, sym, ◌∙◌, arith, length, take, drop}
use Rattle.model.specs.Code.{Code, data_count, checks_each, checks_by, checks_of}
use Rattle.model.specs.Symbols.{subtract_at}
use Rattle.params.specs.Codes.{code_by}
use Rattle.theory.specs.Codes.{Usable}
use Rattle.checks.specs.Places.{AtTable, run_at, Found, found}
use Rattle.checks.specs.declared.Place.{Place}
use Rattle.checks.specs.Numbers.{place_by, placed_by}
use Rattle.outer_page.specs.Words.{IsWord, data_inside, lent_length, lent_below, lent_symbol, page_less}
use Rattle.outer_page.proofs.subtract_symbol.Goals as goal

module _ {c : Code} {s : List ℕ} (t : AtTable c s) (each j : ℕ) (p : Place) (e : each ≡ checks_each c) (h : j < data_count c) (f : p ≡ place_by c.k each j) where
  number : p.symbol ≡ j
  number = ap (λ (x : Place). x.symbol) f

  place : Found c s p
  place = found t (placed_by c each j p e h f)

  index : checks_by c.k (run_at p c.positions) (j - p.start) ≡ checks_of c j
  index = ap (checks_by c.k (run_at p c.positions)) (ap (λ (n : ℕ). n - p.start) (sym number)) ∙ place.checks_are ∙ ap (checks_of c) number

-- the checks of the page, from where its data ends
lent : {c : Code} {page : List ℕ} {n : ℕ} → Usable c → IsWord c page → n ≡ data_count c → AtTable c (take (length page - n) (drop n page))
lent {c} {page} {n} u w e = record { table = u.table; len = lent_length c u page w n e }

pub data_count-n-requires : goal.data_count-n-requires
data_count-n-requires c = omega (arith, c.requires.0.table.sizes.data-high)

pub overflow_sub-index : goal.overflow_sub-index
overflow_sub-index c =
    let r = c.requires in
    let e = c.place_of-place.ensures in
    omega (arith, (place (lent r.0 r.2 c.data_count-n.ensures) _ _ _ c.checks_each.ensures r.3 e).start_low, ap (λ (x : Place). x.symbol) e)

pub bounds-page-symbol : goal.bounds-page-symbol
bounds-page-symbol c =
    let r = c.requires in
    omega (arith, data_inside (code_by c.args.code c.args.positions.now) r.0 c.args.page.now r.2 _ c.data_count-n.ensures, c.data_count-n.ensures)

pub sub_mod-x-requires : goal.sub_mod-x-requires
sub_mod-x-requires c =
    let a = c.args in
    let r = c.requires in (
      r.1,
      omega (arith, lent_symbol (code_by a.code a.positions.now) r.0 a.page.now r.2 _ c.data_count-n.ensures a.symbol r.3, r.2.symbols.low a.symbol),
      r.4,
    )

pub slice_bounds-subtract_at-end : goal.slice_bounds-subtract_at-end
slice_bounds-subtract_at-end c =
    let r = c.requires in
    (place (lent r.0 r.2 c.data_count-n.ensures) _ _ _ c.checks_each.ensures r.3 c.place_of-place.ensures).last_in

pub slice_bounds-subtract_at-start-2 : goal.slice_bounds-subtract_at-start-2
slice_bounds-subtract_at-start-2 c =
    let a = c.args in
    data_inside (code_by a.code a.positions.now) c.requires.0 a.page.now c.requires.2 _ c.data_count-n.ensures

pub subtract_at-requires : goal.subtract_at-requires
subtract_at-requires c =
    let a = c.args in
    let r = c.requires in
    let e = c.place_of-place.ensures in
    let f = place (lent r.0 r.2 c.data_count-n.ensures) _ _ _ c.checks_each.ensures r.3 e in (
      f.checks_lent,
      omega (arith, f.index_low, ap (λ (x : Place). x.symbol) e),
      r.1,
      r.4,
      lent_below (code_by a.code a.positions.now) r.0 a.page.now r.2 _ c.data_count-n.ensures,
    )

pub bounds-page-symbol-2 : goal.bounds-page-symbol-2
bounds-page-symbol-2 c =
    let r = c.requires in
    omega (arith, data_inside (code_by c.args.code c.args.positions.now) r.0 c.args.page.now r.2 _ c.data_count-n.ensures, c.data_count-n.ensures)

pub returns : goal.returns
returns c =
    let a = c.args in
    let r = c.requires in
    let n : ℕ = c.data_count-n.result in
    page_less (code_by a.code a.positions.now) r.0 a.page.now r.2 n c.data_count-n.ensures a.symbol a.h r.3 r.4 _
    (c.subtract_at.ensures
    ∙ ap (λ (is : List ℕ). subtract_at a.code.q a.h is (take (length a.page.now - n) (drop n a.page.now)))
    (index (lent r.0 r.2 c.data_count-n.ensures) _ _ _ c.checks_each.ensures r.3 c.place_of-place.ensures))
    _ c.sub_mod-x.ensures
