-- What encode and syndrome work on where they are not refused.
use Rattle.std.specs.Prelude.{◌≡◌, Bool, ◌&&◌, List, ℕ, ◌≤◌, eqb, length}
use Rattle.std.proofs.Common.{ap, sym, ◌∙◌}
use Rattle.model.specs.Calls.{first_that_applies, page_tests}
use Rattle.model.specs.Code.{highest, Code}
use Rattle.theory.specs.Answers.{and_true, eqb-true, page_taken, page_bytes}
use Rattle.theory.specs.Codes.{ByteCode}
use Rattle.theory.specs.Steps.{SymbolsBelow}

-- a call whose input has m symbols and whose lent buffer has n
module _ (c : Code) (input : List ℕ) (m len n : ℕ) (fits : Bool) (f : fits ≡ (eqb (length input) m && eqb len n)) (number : ℕ)
    (e : number ≡ first_that_applies (page_tests c fits input)) where
  -- its number, by what `fits` says
  pub number_by : number ≡ first_that_applies (page_tests c (eqb (length input) m && eqb len n) input)
  number_by = e ∙ ap (λ (b : Bool). first_that_applies (page_tests c b input)) f

  pub taken : highest c.profile ≤ 256 → number ≡ 0 → ByteCode c × SymbolsBelow c.q m input × (len ≡ n)
  taken h z =
      let p = page_taken c fits input (sym e ∙ z) in
      let l = and_true (eqb (length input) m) (eqb len n) (sym f ∙ p.buffers) in
      (page_bytes c fits input h p, record { len = eqb-true (length input) m l.0; low = p.symbols }, eqb-true len n l.1)
