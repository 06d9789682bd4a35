use Rattle.std.proofs.Common.{◌≡◌, refl, Bool, true, ◌&&◌, List, ℕ, ◌≤◌, eqb, length, length-take-le, mul-le-mul_right, ap, sym, ◌∙◌, arith}
use Rattle.std.proofs.lemmas.List.{length-replicate}
use Rattle.std.proofs.lemmas.Result.{err_from_is_err_and}
use Rattle.model.specs.Calls.{state_fits, pass_answer, pass_outcome}
use Rattle.model.specs.Code.{Code, data_count, highest}
use Rattle.model.specs.Decoder.{state_by}
use Rattle.refusals.specs.Numbers.{not_zero}
use Rattle.passing.specs.Once.{once_state, once_changes}
use Rattle.tally.specs.declared.Tally.{Tally}
use Rattle.theory.specs.Answers.{PassTaken, pass_taken, table_usable}
use Rattle.theory.specs.Counters.{clear_made, clear_front}
use Rattle.theory.specs.Outcomes.{left_as_lent, left_as_done}
use Rattle.theory.specs.Profiles.{state_low}
use Rattle.theory.proofs.Statements.{pass_falls}
use Rattle.wide_symbols.specs.Codes.{wide_code_by}
use Rattle.wide_symbols.specs.Numbers.{IsNumbers, numbers_length}
use Rattle.wide_symbols.specs.Widths.{wide_low}
use Rattle.wide_passing.proofs.pass_within.Goals as goal

-- what is known where the tests pass: what the pass works on, and that buffers of n symbols are large enough
record Tested (c : Code) (t : ℕ) (r s d : List ℕ) (n m : ℕ) : Type 0 where
  done : 0 ≡ pass_answer c (state_fits c (state_by r s d)) t (state_by r s d)
  taken : PassTaken c t (state_by r s d)
  counted : m ≡ data_count c
  room : m ≤ n
  mark-room : c.k ≤ n

module _ {S : Type 0} {number : S → ℕ} {numbers : List S → List ℕ} (w : IsNumbers number numbers) (c : Code) (r s d : List S) (t : ℕ) where
  -- the number returned is the pass's
  answered : {x m : ℕ} {fits : Bool} → x ≡ pass_answer c fits t (state_by (numbers r) (numbers s) (numbers d))
      → fits ≡ (eqb (length r) m && (eqb (length s) c.k && eqb (length d) m)) → m ≡ data_count c
      → x ≡ pass_answer c (state_fits c (state_by (numbers r) (numbers s) (numbers d))) t (state_by (numbers r) (numbers s) (numbers d))
  answered e f m =
      let l : (xs : List S) → length xs ≡ length (numbers xs) = (λ xs. sym (numbers_length w xs)) in
      e ∙ ap (λ (y : Bool). pass_answer c y t (state_by (numbers r) (numbers s) (numbers d)))
      (f ∙ (λ i. eqb (l r i) (m i) && (eqb (l s i) c.k && eqb (l d i) (m i))))

  tested : (n : ℕ) {x m : ℕ} {fits : Bool} → x ≡ pass_answer c fits t (state_by (numbers r) (numbers s) (numbers d))
      → fits ≡ (eqb (length r) m && (eqb (length s) c.k && eqb (length d) m)) → m ≡ data_count c
      → x ≡ 0 → (data_count c ≤ 4096 → data_count c ≤ n) → Tested c t (numbers r) (numbers s) (numbers d) n m
  tested n e f m z h =
      let a = answered e f m in
      let p = (pass_taken c true t (state_by (numbers r) (numbers s) (numbers d)) (sym a ∙ z)).1 in
      let size = (table_usable c p.table).table.sizes in
      record {
        done = sym z ∙ a;
        taken = p;
        counted = m;
        room = omega (arith, m, h size.data-high);
        mark-room = omega (arith, mul-le-mul_right c.k size.b_low, h size.data-high);
      }

pub returns-in_err-pass_answer : goal.returns-in_err-pass_answer
unfolding pass_outcome
returns-in_err-pass_answer g c =
    let a = c.args in
    let w = g.S.WideSymbol in
    let n = g.met.S.Symbol.are_numbers in
    let code = wide_code_by w.profile a.code a.positions.now in
    let lent = state_by (g.S.Symbol.numbers a.res.now) (g.S.Symbol.numbers a.syndrome.now) (g.S.Symbol.numbers a.difference.now) in
    let e = c.in_err-pass_answer.ensures lent (state_low (highest w.profile) (omega (arith, wide_low g.met.S.WideSymbol.is_wide)) lent c.all_below.ensures c.all_below-2.ensures c.all_below-3.ensures) in
    let r = answered n code a.res.now a.syndrome.now a.difference.now a.threshold e c.state_fits-fits.ensures c.data_count-n.ensures in
    let p = err_from_is_err_and c.from_residual.result c.from_residual.ensures.1 in
    record { outcome = rw (p.1, p.2) (left_as_lent _ _ _ _ r (not_zero _)); falling = rw p.1 tt }

pub overflow_cast-thresholds : goal.overflow_cast-thresholds
overflow_cast-thresholds g c =
    let a = c.args in
    let w = g.S.WideSymbol in
    let n = g.met.S.Symbol.are_numbers in
    let code = wide_code_by w.profile a.code a.positions.now in
    let lent = state_by (g.S.Symbol.numbers a.res.now) (g.S.Symbol.numbers a.syndrome.now) (g.S.Symbol.numbers a.difference.now) in
    let e = c.in_ok-pass_answer.ensures lent (state_low (highest w.profile) (omega (arith, wide_low g.met.S.WideSymbol.is_wide)) lent c.all_below.ensures c.all_below-2.ensures c.all_below-3.ensures) in
    let t = tested n code a.res.now a.syndrome.now a.difference.now a.threshold g.row.N e c.state_fits-fits.ensures c.data_count-n.ensures refl c.requires.2 in
    omega (arith, t.taken.small)

pub whole_as_front-run : goal.whole_as_front-run
whole_as_front-run g c =
    let a = c.args in
    let w = g.S.WideSymbol in
    let n = g.met.S.Symbol.are_numbers in
    let code = wide_code_by w.profile a.code a.positions.now in
    let lent = state_by (g.S.Symbol.numbers a.res.now) (g.S.Symbol.numbers a.syndrome.now) (g.S.Symbol.numbers a.difference.now) in
    let e = c.in_ok-pass_answer.ensures lent (state_low (highest w.profile) (omega (arith, wide_low g.met.S.WideSymbol.is_wide)) lent c.all_below.ensures c.all_below-2.ensures c.all_below-3.ensures) in
    let t = tested n code a.res.now a.syndrome.now a.difference.now a.threshold g.row.N e c.state_fits-fits.ensures c.data_count-n.ensures refl c.requires.2 in
    (t.room, omega arith)

pub whole_as_front-run-2 : goal.whole_as_front-run-2
whole_as_front-run-2 g c =
    let a = c.args in
    let w = g.S.WideSymbol in
    let n = g.met.S.Symbol.are_numbers in
    let code = wide_code_by w.profile a.code a.positions.now in
    let lent = state_by (g.S.Symbol.numbers a.res.now) (g.S.Symbol.numbers a.syndrome.now) (g.S.Symbol.numbers a.difference.now) in
    let e = c.in_ok-pass_answer.ensures lent (state_low (highest w.profile) (omega (arith, wide_low g.met.S.WideSymbol.is_wide)) lent c.all_below.ensures c.all_below-2.ensures c.all_below-3.ensures) in
    let t = tested n code a.res.now a.syndrome.now a.difference.now a.threshold g.row.N e c.state_fits-fits.ensures c.data_count-n.ensures refl c.requires.2 in
    (t.mark-room, omega arith)

pub run-tally-requires : goal.run-tally-requires
run-tally-requires g c =
    let a = c.args in
    let w = g.S.WideSymbol in
    let n = g.met.S.Symbol.are_numbers in
    let code = wide_code_by w.profile a.code a.positions.now in
    let lent = state_by (g.S.Symbol.numbers a.res.now) (g.S.Symbol.numbers a.syndrome.now) (g.S.Symbol.numbers a.difference.now) in
    let e = c.in_ok-pass_answer.ensures lent (state_low (highest w.profile) (omega (arith, wide_low g.met.S.WideSymbol.is_wide)) lent c.all_below.ensures c.all_below-2.ensures c.all_below-3.ensures) in
    let t = tested n code a.res.now a.syndrome.now a.difference.now a.threshold g.row.N e c.state_fits-fits.ensures c.data_count-n.ensures refl c.requires.2 in
    let long = length-replicate {A = ℕ} g.row.N 0 in (
      record { usable = table_usable code t.taken.table; bytes = omega arith; sized = t.taken.sized },
      omega arith,
      ap (λ (y : Tally). y.changes) c.opened-opened.ensures,
      length-take-le _ _ (omega (arith, t.room, long)) ∙ t.counted,
      clear_front c.data_count-n.result _ (clear_made g.row.N),
      length-take-le _ _ (omega (arith, t.mark-room, long)),
    )

pub returns-clause-outcome : goal.returns-clause-outcome
unfolding pass_outcome
returns-clause-outcome g c =
    let a = c.args in
    let w = g.S.WideSymbol in
    let n = g.met.S.Symbol.are_numbers in
    let code = wide_code_by w.profile a.code a.positions.now in
    let lent = state_by (g.S.Symbol.numbers a.res.now) (g.S.Symbol.numbers a.syndrome.now) (g.S.Symbol.numbers a.difference.now) in
    let e = c.in_ok-pass_answer.ensures lent (state_low (highest w.profile) (omega (arith, wide_low g.met.S.WideSymbol.is_wide)) lent c.all_below.ensures c.all_below-2.ensures c.all_below-3.ensures) in
    let t = tested n code a.res.now a.syndrome.now a.difference.now a.threshold g.row.N e c.state_fits-fits.ensures c.data_count-n.ensures refl c.requires.2 in
    let f = c.run-tally.ensures.ran in
    left_as_done _ _ _ _ t.done (λ i. record { state = once_state _ _ _ _ f i; changes = once_changes _ _ _ _ f (ap (λ (y : Tally). y.changes) c.opened-opened.ensures) i })

pub returns-clause-falling : goal.returns-clause-falling
returns-clause-falling g c =
    let a = c.args in
    let w = g.S.WideSymbol in
    let n = g.met.S.Symbol.are_numbers in
    let code = wide_code_by w.profile a.code a.positions.now in
    let lent = state_by (g.S.Symbol.numbers a.res.now) (g.S.Symbol.numbers a.syndrome.now) (g.S.Symbol.numbers a.difference.now) in
    let e = c.in_ok-pass_answer.ensures lent (state_low (highest w.profile) (omega (arith, wide_low g.met.S.WideSymbol.is_wide)) lent c.all_below.ensures c.all_below-2.ensures c.all_below-3.ensures) in
    let t = tested n code a.res.now a.syndrome.now a.difference.now a.threshold g.row.N e c.state_fits-fits.ensures c.data_count-n.ensures refl c.requires.2 in
    pass_falls code true a.threshold lent (sym t.done)
