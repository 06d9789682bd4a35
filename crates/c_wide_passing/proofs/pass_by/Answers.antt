-- Refused, all is as it was lent; done, the buffers of one of the three sizes are large enough.
use Rattle.std.proofs.Common.{◌≡◌, refl, List, ℕ, ◌*◌, ◌≤◌, take, sym, ◌∙◌, arith}
use Rattle.std.proofs.lemmas.Result.{err_from_is_err_and}
use Rattle.model.specs.Bytes.{symbol_size, positions_of, wide_pass_outcome}
use Rattle.model.specs.Calls.{Passed, outcome}
use Rattle.model.specs.Code.{Profile, highest, wide_code}
use Rattle.model.specs.Decoder.{State, state_by}
use Rattle.refusals.specs.Numbers.{not_zero}
use Rattle.theory.specs.Answers.{table_usable}
use Rattle.theory.specs.Outcomes.{left_as_lent, left_as_done}
use Rattle.position_bytes.specs.Positions.{kept}
use Rattle.wide_bytes.specs.Places.{wide_some}
use Rattle.wide_symbols.specs.Widths.{IsWide}
use Rattle.c_wide.specs.Decodes.{pass_number, passed_bytes, pass-left, PassTakes, pass_takes, pass_same}
use Rattle.c_wide_passing.proofs.pass_by.Goals as goal

-- the number and what is left, by the positions that are read, xs, and those of the table, ps
module _ {f : Profile} {w : ℕ} (wide : IsWide f w) (k b : ℕ) (xs ps : List ℕ) (e : xs ≡ kept ps) (t : ℕ) (lent : State) (changes : List ℕ) where
  whole : (r : ℕ) (x : Passed (List ℕ))
      → record { number = r; left = x }
      ≡ outcome (pass_number (symbol_size f) (wide_code f k b xs) t lent changes) (passed_bytes (symbol_size f) (wide_code f k b xs) t lent) (record { state = lent; changes = changes })
      → record { number = r; left = x } ≡ wide_pass_outcome (wide_code f k b ps) t lent changes
  whole r x h = h ∙ sym (pass-left (wide_code f k b xs) t lent changes) ∙ pass_same f (highest f) k b xs ps e t lent changes

  refused : {r : ℕ} → r ≡ pass_number (symbol_size f) (wide_code f k b xs) t lent changes → (r ≡ 0 → ⊥)
      → record { number = r; left = record { state = lent; changes = changes } } ≡ wide_pass_outcome (wide_code f k b ps) t lent changes
  refused m z = whole _ _ (left_as_lent _ _ _ _ m z)

  -- what it works on where it is not refused
  takes : {r : ℕ} → r ≡ pass_number (symbol_size f) (wide_code f k b xs) t lent changes → r ≡ 0 → PassTakes (symbol_size f) (wide_code f k b xs) t lent changes
  takes m z = pass_takes (symbol_size f) (wide_some wide) (wide_code f k b xs) t lent changes (sym m ∙ z)

  few : {r : ℕ} → r ≡ pass_number (symbol_size f) (wide_code f k b xs) t lent changes → r ≡ 0 → b * k ≤ 4096
  few m z = (table_usable _ (takes m z).taken.table).table.sizes.data-high

  finished : {r : ℕ} → r ≡ pass_number (symbol_size f) (wide_code f k b xs) t lent changes → r ≡ 0
      → (x : Passed (List ℕ)) → x ≡ passed_bytes (symbol_size f) (wide_code f k b xs) t lent → record { number = 0; left = x } ≡ wide_pass_outcome (wide_code f k b ps) t lent changes
  finished m z x h = whole 0 x (left_as_done _ _ _ x (sym z ∙ m) h)

pub returns-in_err-pass_answer : goal.returns-in_err-pass_answer
returns-in_err-pass_answer g c =
    let a = c.args in
    let xs : List ℕ = take c.read_positions-count.result c.read_positions-count.new.positions in
    let lent = state_by a.res.now a.syndrome.now a.difference.now in
    let m = c.in_err-pass_answer.ensures in
    let p = err_from_is_err_and c.from_residual.result c.from_residual.ensures.1 in
    rw (p.1, p.2) (refused g.met.S.WideSymbol.is_wide a.code.k a.code.b xs (positions_of a.table.now) c.read_positions-count.ensures.read a.threshold lent a.changes.now m (not_zero _))

pub pass_within-requires : goal.pass_within-requires
pass_within-requires g c =
    let a = c.args in
    let xs : List ℕ = take c.read_positions-count.result c.read_positions-count.new.positions in
    let lent = state_by a.res.now a.syndrome.now a.difference.now in
    let m = c.in_ok-pass_answer.ensures in
    (takes g.met.S.WideSymbol.is_wide a.code.k a.code.b xs (positions_of a.table.now) c.read_positions-count.ensures.read a.threshold lent a.changes.now m refl, omega (arith, c.data_count-n.ensures, c.if-n-le128.true), omega arith)

pub returns-then-n-le128 : goal.returns-then-n-le128
returns-then-n-le128 g c =
    let a = c.args in
    let xs : List ℕ = take c.read_positions-count.result c.read_positions-count.new.positions in
    let lent = state_by a.res.now a.syndrome.now a.difference.now in
    let m = c.in_ok-pass_answer.ensures in
    finished g.met.S.WideSymbol.is_wide a.code.k a.code.b xs (positions_of a.table.now) c.read_positions-count.ensures.read a.threshold lent a.changes.now m refl _ c.pass_within.ensures

pub pass_within-requires-then-n-le1024 : goal.pass_within-requires-then-n-le1024
pass_within-requires-then-n-le1024 g c =
    let a = c.args in
    let xs : List ℕ = take c.read_positions-count.result c.read_positions-count.new.positions in
    let lent = state_by a.res.now a.syndrome.now a.difference.now in
    let m = c.in_ok-pass_answer.ensures in
    (takes g.met.S.WideSymbol.is_wide a.code.k a.code.b xs (positions_of a.table.now) c.read_positions-count.ensures.read a.threshold lent a.changes.now m refl, omega (arith, c.data_count-n.ensures, c.if-n-le1024.true), omega arith)

pub returns-then-n-le1024 : goal.returns-then-n-le1024
returns-then-n-le1024 g c =
    let a = c.args in
    let xs : List ℕ = take c.read_positions-count.result c.read_positions-count.new.positions in
    let lent = state_by a.res.now a.syndrome.now a.difference.now in
    let m = c.in_ok-pass_answer.ensures in
    finished g.met.S.WideSymbol.is_wide a.code.k a.code.b xs (positions_of a.table.now) c.read_positions-count.ensures.read a.threshold lent a.changes.now m refl _ c.pass_within-then-n-le1024.ensures

pub pass_within-requires-2 : goal.pass_within-requires-2
pass_within-requires-2 g c =
    let a = c.args in
    let xs : List ℕ = take c.read_positions-count.result c.read_positions-count.new.positions in
    let lent = state_by a.res.now a.syndrome.now a.difference.now in
    let m = c.in_ok-pass_answer.ensures in
    (takes g.met.S.WideSymbol.is_wide a.code.k a.code.b xs (positions_of a.table.now) c.read_positions-count.ensures.read a.threshold lent a.changes.now m refl, few g.met.S.WideSymbol.is_wide a.code.k a.code.b xs (positions_of a.table.now) c.read_positions-count.ensures.read a.threshold lent a.changes.now m refl, omega arith)

pub returns : goal.returns
returns g c =
    let a = c.args in
    let xs : List ℕ = take c.read_positions-count.result c.read_positions-count.new.positions in
    let lent = state_by a.res.now a.syndrome.now a.difference.now in
    let m = c.in_ok-pass_answer.ensures in
    finished g.met.S.WideSymbol.is_wide a.code.k a.code.b xs (positions_of a.table.now) c.read_positions-count.ensures.read a.threshold lent a.changes.now m refl _ c.pass_within-2.ensures
