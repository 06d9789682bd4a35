-- `pass_with`: done, the run of passes on one threshold is the pass, and it falls. That the call is not refused is looked for among the facts of
-- each goal.
use Rattle.std.proofs.Common.{◌≡◌, Bool, ◌&&◌, List, ℕ, ◌*◌, ◌≤◌, eqb, length, sym, ◌∙◌, ap, arith, rules}
use Rattle.std.proofs.Math.Seq.{length-take-le}
use Rattle.model.specs.Calls.{state_fits, pass_answer, pass_outcome}
use Rattle.model.specs.Code.{Code}
use Rattle.model.specs.Decoder.{State, state_by}
use Rattle.params.specs.Codes.{in_bytes, bits_two, code_by}
use Rattle.params.specs.declared.Params.{Params}
use Rattle.tally.specs.declared.Tally.{Tally}
use Rattle.theory.specs.Answers.{PassTaken, pass_taken, table_usable}
use Rattle.theory.specs.Counters.{none_clear, clear_front}
use Rattle.theory.specs.Outcomes.{left_as_done}
use Rattle.theory.proofs.Statements.{pass_falls}
use Rattle.passing.specs.Once.{taken_ready, once_state, once_changes}
use Rattle.passing.proofs.pass_with.Goals as goal

-- what it works on where it is not refused, and that the buffer for the zeros is large enough
record Works (p : Params) (positions : List ℕ) (others : Bool) (t : ℕ) (lent : State) (zeros : List ℕ) : Type 0 where
  answer : 0 ≡ pass_answer (code_by p positions) (others && state_fits (code_by p positions) lent) t lent
  takes : PassTaken (code_by p positions) t lent
  room : p.b * p.k ≤ length zeros

works : (p : Params) (positions : List ℕ) (others : Bool) (t : ℕ) (lent : State) (zeros : List ℕ) (n : ℕ) (fits : Bool) (number : ℕ) → n ≡ p.b * p.k
    → fits ≡ (others && (eqb (length lent.result) n && (eqb (length lent.syndrome) p.k && eqb (length lent.difference) n)))
    → number ≡ pass_answer (code_by p positions) fits t lent → (p.b * p.k ≤ 4096 → p.b * p.k ≤ length zeros) → number ≡ 0
    → Works p positions others t lent zeros
works p positions others t lent zeros n fits number m f e r z =
    let c : Code = code_by p positions in
    let a : 0 ≡ pass_answer c (others && state_fits c lent) t lent =
    sym z ∙ e ∙ ap (λ (x : Bool). pass_answer c x t lent)
    (f ∙ ap (λ (x : ℕ). others && (eqb (length lent.result) x && (eqb (length lent.syndrome) p.k && eqb (length lent.difference) x))) m) in
    let w = (pass_taken c others t lent (sym a)).1 in
    record { answer = a; takes = w; room = r (table_usable _ w.table).table.sizes.data-high }

pub overflow_cast-threshold : goal.overflow_cast-threshold
overflow_cast-threshold c =
    let a = c.args in
    let w : Works a.code a.positions.now a.others a.threshold (state_by a.res.now a.syndrome.now a.difference.now) a.zeros.now =
    works _ _ _ _ _ _ _ _ _ c.data_count-n.ensures c.state_fits-fits.ensures c.pass_answer.ensures c.requires.2 (search rules) in
    omega (arith, w.takes.small)

pub slice_bounds-run-end-2 : goal.slice_bounds-run-end-2
slice_bounds-run-end-2 c =
    let a = c.args in
    let w : Works a.code a.positions.now a.others a.threshold (state_by a.res.now a.syndrome.now a.difference.now) a.zeros.now =
    works _ _ _ _ _ _ _ _ _ c.data_count-n.ensures c.state_fits-fits.ensures c.pass_answer.ensures c.requires.2 (search rules) in
    omega (arith, c.data_count-n.ensures, w.room)

pub slice_bounds-run-end-3 : goal.slice_bounds-run-end-3
slice_bounds-run-end-3 c =
    let a = c.args in
    let w : Works a.code a.positions.now a.others a.threshold (state_by a.res.now a.syndrome.now a.difference.now) a.zeros.now =
    works _ _ _ _ _ _ _ _ _ c.data_count-n.ensures c.state_fits-fits.ensures c.pass_answer.ensures c.requires.2 (search rules) in
    sym (length-take-le _ _ (omega (arith, c.data_count-n.ensures, w.room)))

pub run-tally-requires : goal.run-tally-requires
run-tally-requires c =
    let a = c.args in
    let w : Works a.code a.positions.now a.others a.threshold (state_by a.res.now a.syndrome.now a.difference.now) a.zeros.now =
    works _ _ _ _ _ _ _ _ _ c.data_count-n.ensures c.state_fits-fits.ensures c.pass_answer.ensures c.requires.2 (search rules) in (
      taken_ready _ _ _ (in_bytes a.code.bits) w.takes,
      omega arith,
      ap (λ (t : Tally). t.changes) c.opened.ensures,
      length-take-le _ _ (omega (arith, c.data_count-n.ensures, w.room)) ∙ c.data_count-n.ensures,
      clear_front c.data_count-n.result a.zeros.now c.requires.3,
      none_clear,
      λ z. bits_two a.code.bits a.code.q w.takes.high (sym c.requires.4 ∙ z),
    )

pub returns-clause-outcome : goal.returns-clause-outcome
unfolding pass_outcome
returns-clause-outcome c =
    let a = c.args in
    let w : Works a.code a.positions.now a.others a.threshold (state_by a.res.now a.syndrome.now a.difference.now) a.zeros.now =
    works _ _ _ _ _ _ _ _ _ c.data_count-n.ensures c.state_fits-fits.ensures c.pass_answer.ensures c.requires.2 (search rules) in
    let f = c.run-tally.ensures.ran in
    left_as_done _ _ _ _ w.answer
    (λ i. record { state = once_state _ _ _ _ f i; changes = once_changes _ _ _ _ f (ap (λ (t : Tally). t.changes) c.opened.ensures) i })

pub returns-clause-falling : goal.returns-clause-falling
returns-clause-falling c =
    let a = c.args in
    let w : Works a.code a.positions.now a.others a.threshold (state_by a.res.now a.syndrome.now a.difference.now) a.zeros.now =
    works _ _ _ _ _ _ _ _ _ c.data_count-n.ensures c.state_fits-fits.ensures c.pass_answer.ensures c.requires.2 (search rules) in
    pass_falls (code_by a.code a.positions.now) a.others a.threshold _ (sym w.answer)
