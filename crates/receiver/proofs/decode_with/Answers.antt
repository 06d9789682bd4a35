-- `decode_with`: the tests give the answer; refused, all is as it was lent; done, the page is corrected.
use Rattle.std.proofs.Common.{◌≡◌, Bool, true, ◌&&◌, ℕ, ◌+◌, ◌≤◌, List, length, eqb, sym, ◌∙◌, ap, arith, take_at, length-append, length-drop, length-take-le}
use Rattle.std.proofs.lemmas.Result.{err_from_is_err_and}
use Rattle.model.specs.Calls.{decode_fits}
use Rattle.model.specs.Code.{Code, data_count}
use Rattle.model.specs.Decoder.{State, state_by}
use Rattle.params.specs.Codes.{code_by, bits_two}
use Rattle.refusals.specs.Numbers.{not_zero}
use Rattle.theory.specs.Answers.{Taken, decode_taken, decode_opens}
use Rattle.theory.specs.Counters.{clear_front}
use Rattle.theory.specs.InBlocks.{Blocks, blocks_answer, blocks_taken}
use Rattle.theory.specs.Outcomes.{left_as_lent, left_as_done}
use Rattle.zeros.specs.Counts.{length_zero_counts}
use Rattle.tally.specs.Counts.{counts_of}
use Rattle.receiver.specs.Received.{ran_outcome, left_by, low_by}
use Rattle.receiver.proofs.decode_with.Goals as goal

-- the number is that of decode in these blocks
number_of : (c : Code) (block : ℕ) (others : Bool) (page ts : List ℕ) (lent : State) (n m : ℕ) (fits : Bool) → m ≡ blocks_answer c block fits page ts
    → fits ≡ (others && (eqb (length page) (n + c.k) && (eqb (length lent.result) n && (eqb (length lent.syndrome) c.k && eqb (length lent.difference) n)))) → n ≡ data_count c
    → m ≡ blocks_answer c block (others && decode_fits c page lent) page ts
number_of c block others page ts lent n m fits e f d =
    e ∙ ap (λ (b : Bool). blocks_answer c block b page ts)
    (f ∙ ap (λ (n : ℕ). others && (eqb (length page) (n + c.k) && (eqb (length lent.result) n && (eqb (length lent.syndrome) c.k && eqb (length lent.difference) n)))) d)

-- what is known where no test applies
record Passed (c : Code) (block : ℕ) (others : Bool) (page ts : List ℕ) (lent : State) : Type 0 where
  pub none : 0 ≡ blocks_answer c block (others && decode_fits c page lent) page ts
  pub taken : Taken c page ts lent
  pub blocks : Blocks c block
  pub others_fit : others ≡ true

passed : (c : Code) (block : ℕ) (others : Bool) (page ts : List ℕ) (lent : State) (n : ℕ) (fits : Bool) → 0 ≡ blocks_answer c block fits page ts
    → fits ≡ (others && (eqb (length page) (n + c.k) && (eqb (length lent.result) n && (eqb (length lent.syndrome) c.k && eqb (length lent.difference) n)))) → n ≡ data_count c
    → Passed c block others page ts lent
passed c block others page ts lent n fits e f d =
    let none = number_of c block others page ts lent n 0 fits e f d in
    let a = blocks_taken c _ page ts block (sym none) in
    record { none = none; taken = decode_taken c others page ts lent a.0; blocks = a.1; others_fit = (decode_opens c others page ts lent a.0).0 }

pub returns-in_err-blocks_answer-clause-outcome : goal.returns-in_err-blocks_answer-clause-outcome
unfolding ran_outcome
returns-in_err-blocks_answer-clause-outcome c =
    let a = c.args in
    let code = code_by a.code a.positions.now in
    let lent = state_by a.res.now a.syndrome.now a.difference.now in
    let p = err_from_is_err_and c.from_residual.result c.from_residual.ensures.1 in
    let e = c.in_err-blocks_answer in
    rw (p.1, p.2) (left_as_lent _ _ _ _ (number_of code a.block a.others a.page.now a.thresholds.now lent a.n _ _ e.ensures c.decode_fits-fits.ensures c.requires.0) (not_zero _))

-- the buffer for the zeros is large enough
room : {c : Code} {block n : ℕ} {others : Bool} {page ts : List ℕ} {lent : State} (zeros : List ℕ) → Passed c block others page ts lent → n ≡ data_count c → (n ≤ 4096 → n ≤ length zeros) → n ≤ length zeros
room zeros k e h = h (omega (arith, k.taken.opens.usable.table.sizes.data-high))

pub slice_bounds-correct_page-end : goal.slice_bounds-correct_page-end
slice_bounds-correct_page-end c =
    let a = c.args in
    let code = code_by a.code a.positions.now in
    let lent = state_by a.res.now a.syndrome.now a.difference.now in
    let k = passed code a.block a.others a.page.now a.thresholds.now lent a.n _ c.in_ok-blocks_answer.ensures c.decode_fits-fits.ensures c.requires.0 in
    room a.zeros.now k c.requires.0 c.requires.1

pub slice_bounds-correct_page-end-2 : goal.slice_bounds-correct_page-end-2
slice_bounds-correct_page-end-2 c =
    let a = c.args in
    let code = code_by a.code a.positions.now in
    let lent = state_by a.res.now a.syndrome.now a.difference.now in
    let k = passed code a.block a.others a.page.now a.thresholds.now lent a.n _ c.in_ok-blocks_answer.ensures c.decode_fits-fits.ensures c.requires.0 in
    sym (length-take-le _ _ (room a.zeros.now k c.requires.0 c.requires.1))

pub correct_page-requires : goal.correct_page-requires
correct_page-requires c =
    let a = c.args in
    let code = code_by a.code a.positions.now in
    let lent = state_by a.res.now a.syndrome.now a.difference.now in
    let k = passed code a.block a.others a.page.now a.thresholds.now lent a.n _ c.in_ok-blocks_answer.ensures c.decode_fits-fits.ensures c.requires.0 in
    (k.taken, k.blocks, length-take-le _ _ (room a.zeros.now k c.requires.0 c.requires.1) ∙ c.requires.0, clear_front a.n a.zeros.now c.requires.2, c.requires.3 k.others_fit, c.requires.4)

pub returns-clause-outcome : goal.returns-clause-outcome
unfolding ran_outcome
returns-clause-outcome c =
    let a = c.args in
    let code = code_by a.code a.positions.now in
    let lent = state_by a.res.now a.syndrome.now a.difference.now in
    let k = passed code a.block a.others a.page.now a.thresholds.now lent a.n _ c.in_ok-blocks_answer.ensures c.decode_fits-fits.ensures c.requires.0 in
    let e = c.correct_page.ensures.done in
    left_as_done _ _ _ _ k.none (λ i. record { state = (e i).state; counts = counts_of (e i).tally })

pub returns-clause-left : goal.returns-clause-left
returns-clause-left c =
    let a = c.args in
    let code = code_by a.code a.positions.now in
    let lent = state_by a.res.now a.syndrome.now a.difference.now in
    let k = passed code a.block a.others a.page.now a.thresholds.now lent a.n _ c.in_ok-blocks_answer.ensures c.decode_fits-fits.ensures c.requires.0 in
    let e = c.correct_page.ensures.done in
    let r = room a.zeros.now k c.requires.0 c.requires.1 in (
      left_by code a.block a.page.now a.thresholds.now lent k.taken.opens k.blocks _ _ e (simp (length-append, length-drop) (omega (arith, r, length-take-le _ _ r, c.requires.0, c.correct_page.auto.zeros)))
          (λ m.
          let z = c.correct_page.ensures.counted m in
          take_at _ _ _ (ap length z ∙ length_zero_counts _ _) ∙ z),
      low_by code a.block a.page.now a.thresholds.now lent k.taken.opens k.blocks _ e a.bits
          (λ y. bits_two a.code.bits a.code.q k.taken.opens.high (sym c.requires.4 ∙ y)),
    )
