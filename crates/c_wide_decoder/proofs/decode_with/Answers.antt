-- Refused, all is as it was lent; done, the buffers of one of the three sizes are large enough.
use Rattle.std.proofs.Common.{◌≡◌, refl, ◌≢◌, List, ℕ, sym, ◌∙◌, arith}
use Rattle.std.proofs.lemmas.Result.{err_from_is_err_and}
use Rattle.model.specs.Bytes.{symbol_size, positions_of, wide_decode_outcome}
use Rattle.model.specs.Calls.{Decoded, outcome}
use Rattle.model.specs.Code.{Code, Profile, highest}
use Rattle.model.specs.Decoder.{State, state_by}
use Rattle.params.specs.declared.Params.{Params}
use Rattle.refusals.specs.Numbers.{not_zero}
use Rattle.theory.specs.Outcomes.{left_as_lent, left_as_done}
use Rattle.theory.specs.WideCalls.{Wide}
use Rattle.position_bytes.specs.Positions.{kept}
use Rattle.c_wide.specs.Decodes.{decode_number, decoded_bytes, decode_left, DecodeTakes, decode_takes, decode_same}
use Rattle.wide_answers.specs.Own.{own}
use Rattle.wide_symbols.specs.Codes.{wide_code_by}
use Rattle.c_wide_decoder.proofs.decode_with.Goals as goal

-- with the positions that are read, xs
module _ (f : Profile) (p : Params) (table xs : List ℕ) (e : xs ≡ kept (positions_of table)) (page ts : List ℕ) (lent : State) (margins counts : List ℕ) where
  abbrev code : Code
  code = wide_code_by f p xs

  abbrev numbered : ℕ
  numbered = decode_number (symbol_size f) code page ts lent margins counts

  -- what the outcome is, is that with those of the table
  whole : (r : ℕ) (x : Decoded (List ℕ) (List ℕ))
      → record { number = r; left = x } ≡ outcome numbered (decoded_bytes (symbol_size f) code ts page) (record { state = lent; margins = margins; counts = counts })
      → record { number = r; left = x } ≡ wide_decode_outcome (wide_code_by f p (positions_of table)) page ts lent margins counts
  whole r x h = h ∙ sym (decode_left code page ts lent margins counts) ∙ decode_same f (highest f) p.k p.b xs (positions_of table) e page ts lent margins counts

  refused : (r : ℕ) → r ≡ numbered → r ≢ 0
      → record { number = r; left = record { state = lent; margins = margins; counts = counts } } ≡ wide_decode_outcome (wide_code_by f p (positions_of table)) page ts lent margins counts
  refused r n h = whole r _ (left_as_lent _ _ _ _ n h)

  finished : (r : ℕ) → r ≡ numbered → r ≡ 0 → (x : Decoded (List ℕ) (List ℕ)) → x ≡ decoded_bytes (symbol_size f) code ts page
      → record { number = 0; left = x } ≡ wide_decode_outcome (wide_code_by f p (positions_of table)) page ts lent margins counts
  finished r n z x h = whole 0 x (left_as_done _ _ _ x (sym z ∙ n) h)

  -- what it works on where it is not refused
  taken : Wide code → (r : ℕ) → r ≡ numbered → r ≡ 0 → DecodeTakes (symbol_size f) code page ts lent margins counts
  taken w r n z = decode_takes (symbol_size f) w.some code page ts lent margins counts (sym n ∙ z)

pub returns-in_err-decode_answer : goal.returns-in_err-decode_answer
returns-in_err-decode_answer g c =
    let a = c.args in
    let p = err_from_is_err_and c.from_residual.result c.from_residual.ensures.1 in
    rw (p.1, p.2) (refused g.S.WideSymbol.profile a.code a.table.now _ c.read_positions-count.ensures.read a.page.now a.thresholds.now (state_by a.res.now a.syndrome.now a.difference.now) a.margins.now a.counts.now
    _ c.in_err-decode_answer.ensures (not_zero _))

pub data_count-n-requires : goal.data_count-n-requires
data_count-n-requires g c =
    let a = c.args in
    let t = taken g.S.WideSymbol.profile a.code a.table.now _ c.read_positions-count.ensures.read a.page.now a.thresholds.now (state_by a.res.now a.syndrome.now a.difference.now) a.margins.now a.counts.now
    (own g.met.S.WideSymbol.is_wide a.code _) _ c.in_ok-decode_answer.ensures refl in
    omega (arith, t.taken.opens.usable.table.sizes.data-high)

pub decode_within-requires : goal.decode_within-requires
decode_within-requires g c =
    let a = c.args in
    let t = taken g.S.WideSymbol.profile a.code a.table.now _ c.read_positions-count.ensures.read a.page.now a.thresholds.now (state_by a.res.now a.syndrome.now a.difference.now) a.margins.now a.counts.now
    (own g.met.S.WideSymbol.is_wide a.code _) _ c.in_ok-decode_answer.ensures refl in
    (omega arith, t, omega (arith, c.data_count-n.ensures, t.taken.opens.usable.table.sizes.data-high))

pub returns-then-n-le128 : goal.returns-then-n-le128
returns-then-n-le128 g c =
    let a = c.args in
    finished g.S.WideSymbol.profile a.code a.table.now _ c.read_positions-count.ensures.read a.page.now a.thresholds.now (state_by a.res.now a.syndrome.now a.difference.now) a.margins.now a.counts.now
    _ c.in_ok-decode_answer.ensures refl _ c.decode_within.ensures

pub decode_within-requires-then-n-le1024 : goal.decode_within-requires-then-n-le1024
decode_within-requires-then-n-le1024 g c =
    let a = c.args in
    let t = taken g.S.WideSymbol.profile a.code a.table.now _ c.read_positions-count.ensures.read a.page.now a.thresholds.now (state_by a.res.now a.syndrome.now a.difference.now) a.margins.now a.counts.now
    (own g.met.S.WideSymbol.is_wide a.code _) _ c.in_ok-decode_answer.ensures refl in
    (omega arith, t, omega (arith, c.data_count-n.ensures, t.taken.opens.usable.table.sizes.data-high))

pub returns-then-n-le1024 : goal.returns-then-n-le1024
returns-then-n-le1024 g c =
    let a = c.args in
    finished g.S.WideSymbol.profile a.code a.table.now _ c.read_positions-count.ensures.read a.page.now a.thresholds.now (state_by a.res.now a.syndrome.now a.difference.now) a.margins.now a.counts.now
    _ c.in_ok-decode_answer.ensures refl _ c.decode_within-then-n-le1024.ensures

pub decode_within-requires-2 : goal.decode_within-requires-2
decode_within-requires-2 g c =
    let a = c.args in
    let t = taken g.S.WideSymbol.profile a.code a.table.now _ c.read_positions-count.ensures.read a.page.now a.thresholds.now (state_by a.res.now a.syndrome.now a.difference.now) a.margins.now a.counts.now
    (own g.met.S.WideSymbol.is_wide a.code _) _ c.in_ok-decode_answer.ensures refl in
    (omega arith, t, omega (arith, c.data_count-n.ensures, t.taken.opens.usable.table.sizes.data-high))

pub returns : goal.returns
returns g c =
    let a = c.args in
    finished g.S.WideSymbol.profile a.code a.table.now _ c.read_positions-count.ensures.read a.page.now a.thresholds.now (state_by a.res.now a.syndrome.now a.difference.now) a.margins.now a.counts.now
    _ c.in_ok-decode_answer.ensures refl _ c.decode_within-2.ensures
