use Rattle.std.proofs.Common.{◌≡◌, refl, Bool, ◌&&◌, List, ℕ, ◌+◌, ◌≤◌, eqb, ℤ, length, ◌++◌, drop, length-append, length-drop, length-take-le, take_at, mul-le-mul_right, ap, sym, ◌∙◌, arith}
use Rattle.std.proofs.lemmas.Result.{err_from_is_err_and}
use Rattle.model.specs.Calls.{decode_fits, decode_answer, decode_outcome}
use Rattle.model.specs.Code.{Code, data_count}
use Rattle.model.specs.Decoder.{state_by, margins_of}
use Rattle.theory.specs.Answers.{eqb-true, Taken, decode_taken, decode_opens}
use Rattle.theory.specs.Counters.{clear_front}
use Rattle.theory.specs.Outcomes.{left_as_lent, left_as_done}
use Rattle.correction.specs.Decoded.{decoded}
use Rattle.visits.specs.Progress.{Progress}
use Rattle.wide_calls.specs.Received.{taken_loaded, left_by}
use Rattle.refusals.specs.Numbers.{not_zero}
use Rattle.zeros.specs.Counts.{length_zero_counts}
use Rattle.wide_symbols.specs.Codes.{wide_code_by}
use Rattle.wide_symbols.specs.Numbers.{IsNumbers, numbers_length}
use Rattle.wide_receiver.proofs.decode_into.Goals as goal

-- what is known where the tests pass: what is decoded, and that the buffers are large enough
record Tested (c : Code) (page ts res s d zeros marks : List ℕ) (margins : List ℤ) (n : ℕ) : Type 0 where
  done : 0 ≡ decode_answer c (eqb (length margins) (data_count c) && decode_fits c page (state_by res s d)) page ts
  taken : Taken c page ts (state_by res s d)
  filled : length margins ≡ data_count c
  counted : n ≡ data_count c
  room : n ≤ length zeros
  mark-room : c.k ≤ length marks

module _ {S : Type 0} {number : S → ℕ} {numbers : List S → List ℕ} (w : IsNumbers number numbers) (c : Code) (page res s d : List S) (ts : List ℕ) (margins : List ℤ) where
  -- the number returned is decode's
  answered : {r n : ℕ} {fits : Bool} → r ≡ decode_answer c fits (numbers page) ts
      → fits ≡ (eqb (length margins) n && (eqb (length page) (n + c.k) && (eqb (length res) n && (eqb (length s) c.k && eqb (length d) n)))) → n ≡ data_count c
      → r ≡ decode_answer c (eqb (length margins) (data_count c) && decode_fits c (numbers page) (state_by (numbers res) (numbers s) (numbers d))) (numbers page) ts
  answered e f m =
      let l : (xs : List S) → length xs ≡ length (numbers xs) = (λ xs. sym (numbers_length w xs)) in
      e ∙ ap (λ (x : Bool). decode_answer c x (numbers page) ts)
      (f ∙ (λ i. eqb (length margins) (m i) && (eqb (l page i) (m i + c.k) && (eqb (l res i) (m i) && (eqb (l s i) c.k && eqb (l d i) (m i))))))

  tested : (zeros marks : List ℕ) {r n : ℕ} {fits : Bool} → r ≡ decode_answer c fits (numbers page) ts
      → fits ≡ (eqb (length margins) n && (eqb (length page) (n + c.k) && (eqb (length res) n && (eqb (length s) c.k && eqb (length d) n)))) → n ≡ data_count c
      → r ≡ 0 → (data_count c ≤ 4096 → data_count c ≤ length zeros) → (data_count c ≤ 4096 → data_count c ≤ length marks)
      → Tested c (numbers page) ts (numbers res) (numbers s) (numbers d) zeros marks margins n
  tested zeros marks e f m z h k =
      let fit : Bool = eqb (length margins) (data_count c) in
      let a = answered e f m in
      let t = decode_taken c fit (numbers page) ts (state_by (numbers res) (numbers s) (numbers d)) (sym a ∙ z) in
      let size = t.opens.usable.table.sizes in
      record {
        done = sym z ∙ a;
        taken = t;
        filled = eqb-true (length margins) (data_count c) (decode_opens c fit (numbers page) ts (state_by (numbers res) (numbers s) (numbers d)) (sym a ∙ z)).0;
        counted = m;
        room = omega (arith, m, h size.data-high);
        mark-room = omega (arith, mul-le-mul_right c.k size.b_low, k size.data-high);
      }

pub returns-in_err-decode_answer : goal.returns-in_err-decode_answer
unfolding decode_outcome
returns-in_err-decode_answer g c =
    let a = c.args in
    let w = g.S.WideSymbol in
    let n = g.met.S.Symbol.are_numbers in
    let code = wide_code_by w.profile a.code a.positions.now in
    let e = c.in_err-decode_answer.ensures (g.S.Symbol.numbers a.page.now) c.all_below.ensures in
    let r = answered n code a.page.now a.res.now a.syndrome.now a.difference.now a.thresholds.now a.margins.now e c.decode_fits-fits.ensures c.data_count-n.ensures in
    let p = err_from_is_err_and c.from_residual.result c.from_residual.ensures.1 in
    rw (p.1, p.2) (left_as_lent _ _ _ _ r (not_zero _))

pub load_page-requires : goal.load_page-requires
load_page-requires g c =
    let a = c.args in
    let w = g.S.WideSymbol in
    let n = g.met.S.Symbol.are_numbers in
    let code = wide_code_by w.profile a.code a.positions.now in
    let e = c.in_ok-decode_answer.ensures (g.S.Symbol.numbers a.page.now) c.all_below.ensures in
    let t = tested n code a.page.now a.res.now a.syndrome.now a.difference.now a.thresholds.now a.margins.now a.zeros.now a.marks.now e c.decode_fits-fits.ensures c.data_count-n.ensures refl c.requires.2 c.requires.4 in
    let o = t.taken.opens in
    omega (arith, o.whole.len, o.len_result, o.len_syndrome, numbers_length n a.page.now, numbers_length n a.res.now, numbers_length n a.syndrome.now)

pub slice_bounds-decode_state-end : goal.slice_bounds-decode_state-end
slice_bounds-decode_state-end g c =
    let a = c.args in
    let w = g.S.WideSymbol in
    let n = g.met.S.Symbol.are_numbers in
    let code = wide_code_by w.profile a.code a.positions.now in
    let e = c.in_ok-decode_answer.ensures (g.S.Symbol.numbers a.page.now) c.all_below.ensures in
    let t = tested n code a.page.now a.res.now a.syndrome.now a.difference.now a.thresholds.now a.margins.now a.zeros.now a.marks.now e c.decode_fits-fits.ensures c.data_count-n.ensures refl c.requires.2 c.requires.4 in
    t.room

pub slice_bounds-decode_state-end-2 : goal.slice_bounds-decode_state-end-2
slice_bounds-decode_state-end-2 g c =
    let a = c.args in
    let w = g.S.WideSymbol in
    let n = g.met.S.Symbol.are_numbers in
    let code = wide_code_by w.profile a.code a.positions.now in
    let e = c.in_ok-decode_answer.ensures (g.S.Symbol.numbers a.page.now) c.all_below.ensures in
    let t = tested n code a.page.now a.res.now a.syndrome.now a.difference.now a.thresholds.now a.margins.now a.zeros.now a.marks.now e c.decode_fits-fits.ensures c.data_count-n.ensures refl c.requires.2 c.requires.4 in
    sym (length-take-le _ _ t.room)

pub slice_bounds-decode_state-end-3 : goal.slice_bounds-decode_state-end-3
slice_bounds-decode_state-end-3 g c =
    let a = c.args in
    let w = g.S.WideSymbol in
    let n = g.met.S.Symbol.are_numbers in
    let code = wide_code_by w.profile a.code a.positions.now in
    let e = c.in_ok-decode_answer.ensures (g.S.Symbol.numbers a.page.now) c.all_below.ensures in
    let t = tested n code a.page.now a.res.now a.syndrome.now a.difference.now a.thresholds.now a.margins.now a.zeros.now a.marks.now e c.decode_fits-fits.ensures c.data_count-n.ensures refl c.requires.2 c.requires.4 in
    t.mark-room

pub slice_bounds-decode_state-end-4 : goal.slice_bounds-decode_state-end-4
slice_bounds-decode_state-end-4 g c =
    let a = c.args in
    let w = g.S.WideSymbol in
    let n = g.met.S.Symbol.are_numbers in
    let code = wide_code_by w.profile a.code a.positions.now in
    let e = c.in_ok-decode_answer.ensures (g.S.Symbol.numbers a.page.now) c.all_below.ensures in
    let t = tested n code a.page.now a.res.now a.syndrome.now a.difference.now a.thresholds.now a.margins.now a.zeros.now a.marks.now e c.decode_fits-fits.ensures c.data_count-n.ensures refl c.requires.2 c.requires.4 in
    sym (length-take-le _ _ t.mark-room)

pub decode_state-tally-requires : goal.decode_state-tally-requires
decode_state-tally-requires g c =
    let a = c.args in
    let w = g.S.WideSymbol in
    let n = g.met.S.Symbol.are_numbers in
    let code = wide_code_by w.profile a.code a.positions.now in
    let e = c.in_ok-decode_answer.ensures (g.S.Symbol.numbers a.page.now) c.all_below.ensures in
    let t = tested n code a.page.now a.res.now a.syndrome.now a.difference.now a.thresholds.now a.margins.now a.zeros.now a.marks.now e c.decode_fits-fits.ensures c.data_count-n.ensures refl c.requires.2 c.requires.4 in
    let l = c.load_page in (
      taken_loaded code (g.S.Symbol.numbers a.page.now) (g.S.Symbol.numbers a.res.now) (g.S.Symbol.numbers a.syndrome.now) (g.S.Symbol.numbers a.difference.now) _ _ l.ensures
          (omega (arith, numbers_length n l.new.res, numbers_length n a.res.now, l.auto.res)) (omega (arith, numbers_length n l.new.s, numbers_length n a.syndrome.now, l.auto.s))
          a.thresholds.now t.taken,
      length-take-le _ _ t.room ∙ t.counted,
      clear_front c.data_count-n.result a.zeros.now c.requires.3,
      length-take-le _ _ t.mark-room,
    )

pub fill-requires : goal.fill-requires
fill-requires g c =
    let a = c.args in
    let w = g.S.WideSymbol in
    let n = g.met.S.Symbol.are_numbers in
    let code = wide_code_by w.profile a.code a.positions.now in
    let e = c.in_ok-decode_answer.ensures (g.S.Symbol.numbers a.page.now) c.all_below.ensures in
    let t = tested n code a.page.now a.res.now a.syndrome.now a.difference.now a.thresholds.now a.margins.now a.zeros.now a.marks.now e c.decode_fits-fits.ensures c.data_count-n.ensures refl c.requires.2 c.requires.4 in
    let made = c.decode_state-tally.ensures.done ∙ ap (decoded code a.thresholds.now) c.load_page.ensures in
    let zeros : List ℕ = c.decode_state-tally.new.zeros ++ drop c.data_count-n.result a.zeros.now in
    let room : data_count code ≤ length zeros =
    omega (arith, t.room, t.counted, length-append c.decode_state-tally.new.zeros (drop c.data_count-n.result a.zeros.now), length-drop c.data_count-n.result a.zeros.now, c.decode_state-tally.auto.zeros, length-take-le c.data_count-n.result a.zeros.now t.room) in (
      left_by code (g.S.Symbol.numbers a.page.now) a.thresholds.now t.taken.opens.usable t.taken.opens.whole _ zeros made room
          (λ m.
          let z = c.decode_state-tally.ensures.counted m in
          take_at _ _ _ (ap length z ∙ length_zero_counts _ _) ∙ z),
      t.filled,
    )

pub returns : goal.returns
unfolding decode_outcome
returns g c =
    let a = c.args in
    let w = g.S.WideSymbol in
    let n = g.met.S.Symbol.are_numbers in
    let code = wide_code_by w.profile a.code a.positions.now in
    let e = c.in_ok-decode_answer.ensures (g.S.Symbol.numbers a.page.now) c.all_below.ensures in
    let t = tested n code a.page.now a.res.now a.syndrome.now a.difference.now a.thresholds.now a.margins.now a.zeros.now a.marks.now e c.decode_fits-fits.ensures c.data_count-n.ensures refl c.requires.2 c.requires.4 in
    let made = c.decode_state-tally.ensures.done ∙ ap (decoded code a.thresholds.now) c.load_page.ensures in
    left_as_done _ _ _ _ t.done
    (λ i. record {
      state = (made i).state;
      margins = (c.fill.ensures _ ∙ ap (λ (x : Progress). margins_of code x.state) made) i;
      counts = record { passes = (made i).tally.passes; changes = (made i).tally.changes; start = (made i).tally.start; end = (made i).tally.end };
    })
