-- `open_in`: refused, the three buffers are as they were lent; done, they are the opened page.
use Rattle.std.proofs.Common.{◌≡◌, Bool, ◌&&◌, List, ℕ, ◌+◌, ◌*◌, eqb, length, sym, ◌∙◌, ap, rules}
use Rattle.model.specs.Calls.{first_that_applies, page_tests, open_answer, open_outcome}
use Rattle.model.specs.Code.{code_in}
use Rattle.model.specs.Decoder.{State}
use Rattle.theory.specs.Answers.{open_taken}
use Rattle.theory.specs.Outcomes.{left_as_done}
use Rattle.params.specs.Codes.{profile_of}
use Rattle.opener.proofs.open_in.Goals as goal

-- the number that the tests give is open's
opens : (bits : Bool) (q k b : ℕ) (positions page : List ℕ) (lent : State) (n : ℕ) (fits : Bool) → n ≡ b * k
    → fits ≡ (eqb (length page) (n + k) && (eqb (length lent.result) n && (eqb (length lent.syndrome) k && eqb (length lent.difference) n)))
    → (number : ℕ) → number ≡ first_that_applies (page_tests (code_in (profile_of bits) q k b positions) fits page)
    → number ≡ open_answer (code_in (profile_of bits) q k b positions) page lent
unfolding open_answer
opens bits q k b positions page lent n fits m f number e =
    e ∙ ap (λ (x : Bool). first_that_applies (page_tests (code_in (profile_of bits) q k b positions) x page))
    (f ∙ ap (λ (x : ℕ). eqb (length page) (x + k) && (eqb (length lent.result) x && (eqb (length lent.syndrome) k && eqb (length lent.difference) x))) m)

pub open_page-requires : goal.open_page-requires
open_page-requires c =
    let a = c.args in
    (open_taken _ _ _ (sym (opens a.bits a.q a.k a.b a.positions.now a.page.now _ _ _ c.data_count-n.ensures c.decode_fits-fits.ensures _ c.page_answer.ensures) ∙ search rules)).1

pub returns : goal.returns
unfolding open_outcome
returns c =
    let a = c.args in
    left_as_done _ _ _ _ (search rules ∙ opens a.bits a.q a.k a.b a.positions.now a.page.now _ _ _ c.data_count-n.ensures c.decode_fits-fits.ensures _ c.page_answer.ensures) c.open_page.ensures.state
