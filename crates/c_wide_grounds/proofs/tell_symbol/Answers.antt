-- The place that is found is that of the symbol, and its run gives the symbol's checks.
use Rattle.std.proofs.Common.{◌≡◌, ◌∷◌, List, ℕ, ◌-◌, ◌<◌, sym, ◌∙◌, ap, arith}
use Rattle.model.specs.Bytes.{symbol_size, symbols_of}
use Rattle.model.specs.Code.{Code, data_count, checks_each, checks_by, checks_of}
use Rattle.model.specs.Symbols.{symbols_at}
use Rattle.checks.specs.Places.{AtTable, run_at, Found, found}
use Rattle.checks.specs.declared.Place.{Place}
use Rattle.checks.specs.Numbers.{place_by, placed_by}
use Rattle.grounds.specs.Told.{told_of}
use Rattle.theory.specs.WideBytes.{symbol-at}
use Rattle.wide_bytes.specs.Places.{wide_place, wide_some, read_size}
use Rattle.wide_symbols.specs.Codes.{wide_code_by}
use Rattle.c_wide_grounds.proofs.tell_symbol.Goals as goal

module _ {c : Code} {s : List ℕ} (t : AtTable c s) (each j : ℕ) (p : Place) (e : each ≡ checks_each c) (h : j < data_count c) (f : p ≡ place_by c.k each j) where
  number : p.symbol ≡ j
  number = ap (λ (x : Place). x.symbol) f

  place : Found c s p
  place = found t (placed_by c each j p e h f)

  index : checks_by c.k (run_at p c.positions) (j - p.start) ≡ checks_of c j
  index = ap (checks_by c.k (run_at p c.positions)) (ap (λ (n : ℕ). n - p.start) (sym number)) ∙ place.checks_are ∙ ap (checks_of c) number

pub overflow_sub-index : goal.overflow_sub-index
overflow_sub-index g c =
    let e = c.place_of-place.ensures in
    omega (arith, (place c.requires.0 _ _ _ c.checks_each.ensures c.requires.3 e).start_low, ap (λ (x : Place). x.symbol) e)

pub overflow_mul-symbol : goal.overflow_mul-symbol
overflow_mul-symbol g c =
    let p = c.requires in
    let w = wide_place g.met.S.WideSymbol.is_wide c.args.symbol (data_count (wide_code_by g.S.WideSymbol.profile c.args.code c.args.positions.now)) _ c.SIZE.ensures p.3 in
    omega (arith, p.0.table.sizes.data-high, p.3)

pub get-own-requires : goal.get-own-requires
get-own-requires g c =
    let p = c.requires in
    let w = wide_place g.met.S.WideSymbol.is_wide c.args.symbol (data_count (wide_code_by g.S.WideSymbol.profile c.args.code c.args.positions.now)) _ c.SIZE.ensures p.3 in
    omega (arith, p.2)

pub slice_bounds-tell-end : goal.slice_bounds-tell-end
slice_bounds-tell-end g c = (place c.requires.0 _ _ _ c.checks_each.ensures c.requires.3 c.place_of-place.ensures).last_in

pub tell-requires : goal.tell-requires
tell-requires g c =
    let e = c.place_of-place.ensures in
    let f = place c.requires.0 _ _ _ c.checks_each.ensures c.requires.3 e in
    (f.checks_lent, c.requires.1, omega (arith, f.index_low, ap (λ (x : Place). x.symbol) e))

pub returns : goal.returns
returns g c =
    let a = c.args in
    let p = c.requires in
    let h = g.S.WideSymbol in
    let m = symbol_size h.profile in
    let wide = g.met.S.WideSymbol.is_wide in
    let s : List ℕ = symbols_of m a.s.now in
    let code = wide_code_by h.profile a.code a.positions.now in
    c.tell.ensures
    ∙ ap (λ (is : List ℕ). told_of a.threshold (g.S.Symbol.number c.get-own.result ∷ symbols_at s is)) (index p.0 _ _ _ c.checks_each.ensures p.3 c.place_of-place.ensures)
    ∙ ap (λ (x : ℕ). told_of a.threshold (x ∷ symbols_at s (checks_of code a.symbol)))
    (c.get-own.ensures ∙ read_size wide _ c.SIZE.ensures a.d.now a.symbol ∙ sym (symbol-at m (wide_some wide) (data_count code) a.d.now p.2 a.symbol p.3))
