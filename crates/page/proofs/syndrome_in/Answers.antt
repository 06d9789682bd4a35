-- `syndrome_in`: refused, S is as it was lent; done, it is the syndrome of the page.
use Rattle.std.proofs.Common.{◌≡◌, Bool, ◌&&◌, List, ℕ, ◌+◌, ◌*◌, eqb, length, ◌∙◌, ap, arith}
use Rattle.std.proofs.lemmas.Result.{err_from_is_err_and}
use Rattle.model.specs.Calls.{first_that_applies, page_tests, syndrome_answer, syndrome_outcome}
use Rattle.model.specs.Code.{Code, code_in, page_length}
use Rattle.theory.specs.Codes.{ByteCode}
use Rattle.theory.specs.Outcomes.{left_as_lent, left_as_done}
use Rattle.theory.specs.Steps.{SymbolsBelow}
use Rattle.params.specs.Codes.{profile_of, in_bytes}
use Rattle.refusals.specs.Numbers.{not_zero}
use Rattle.page.specs.Calls.{number_by, taken}
use Rattle.page.proofs.syndrome_in.Goals as goal

-- the number that the tests give
module _ (bits : Bool) (q k b : ℕ) (positions page s : List ℕ) (n : ℕ) (fits : Bool) (m : n ≡ b * k) (f : fits ≡ (eqb (length page) (n + k) && eqb (length s) k))
    (number : ℕ) (e : number ≡ first_that_applies (page_tests (code_in (profile_of bits) q k b positions) fits page)) where
  abbrev code : Code
  code = code_in (profile_of bits) q k b positions

  fitting : fits ≡ (eqb (length page) (page_length code) && eqb (length s) k)
  fitting = f ∙ ap (λ (x : ℕ). eqb (length page) (x + k) && eqb (length s) k) m

  answers_syndrome : number ≡ syndrome_answer code page (length s)
  unfolding syndrome_answer
  answers_syndrome = number_by code page (page_length code) (length s) k fits fitting number e

  -- what it works on where it is 0
  works : number ≡ 0 → ByteCode code × SymbolsBelow q (page_length code) page × (length s ≡ k)
  works z = taken code page (page_length code) (length s) k fits fitting number e (in_bytes bits) z

pub returns-in_err-page_answer : goal.returns-in_err-page_answer
unfolding syndrome_outcome
returns-in_err-page_answer c =
    let a = c.args in
    let p = err_from_is_err_and c.from_residual.result c.from_residual.ensures.1 in
    rw (p.1, p.2)
    (left_as_lent _ _ _ _ (answers_syndrome a.bits a.q a.k a.b a.positions.now a.page.now a.s.now _ _ c.data_count-n.ensures c.two_fit-fits.ensures _ c.in_err-page_answer.ensures) (not_zero _))

pub write_syndrome-requires : goal.write_syndrome-requires
write_syndrome-requires c =
    let a = c.args in
    works a.bits a.q a.k a.b a.positions.now a.page.now a.s.now _ _ c.data_count-n.ensures c.two_fit-fits.ensures _ (c.in_ok-page_answer.ensures) (omega arith)

pub returns : goal.returns
unfolding syndrome_outcome
returns c =
    let a = c.args in
    left_as_done _ _ _ _ (answers_syndrome a.bits a.q a.k a.b a.positions.now a.page.now a.s.now _ _ c.data_count-n.ensures c.two_fit-fits.ensures _ c.in_ok-page_answer.ensures)
    c.write_syndrome.ensures
