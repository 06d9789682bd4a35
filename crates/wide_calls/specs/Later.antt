-- The tests of the calls on wide symbols, which have neither test 1 nor test 7: those of the shape, then 6 and what follows.
use Rattle.std.specs.Prelude.{◌≡◌, ◌≢◌, Bool, true, false, not, ℕ, ◌≤◌, ◌<◌, ltb}
use Rattle.std.proofs.Math.Path.{refl, sym}
use Rattle.std.proofs.Common.{◌∙◌, lt→ltb, le-ltb}
use mathlib.Core.List.{List, [], ◌∷◌}
use Rattle.model.specs.Calls.{test, first_that_applies, within, size_tests, table_tests, page_tests, threshold_test, state_symbols, pass_tests, pass_answer}
use Rattle.model.specs.Code.{Profile, lowest, highest, Code, code_in, branch_at, checks_of, shared, self_orthogonal}
use Rattle.model.specs.Decoder.{State}
use Rattle.model.specs.Symbols.{Below}
use Rattle.theory.specs.Answers.{refused_by, passed_by, nothing_applies, refused_first, passed_first}
use Rattle.theory.specs.Counting.{is_true}
use Rattle.theory.specs.Profiles.{later_tests, page_later}

-- the tests of the shape look at neither q nor the profile
pub shape_any : (f g : Profile) (p q k b : ℕ) (ps : List ℕ) → first_that_applies (later_tests (code_in g p k b ps)) ≡ first_that_applies (later_tests (code_in f q k b ps))
unfolding self_orthogonal shared checks_of branch_at
shape_any f g p q k b ps = refl

module _ (c : Code) (one : within (lowest c.profile) (highest c.profile) c.q ≡ true) (fits : Bool) (input : List ℕ) (low : Below c.q input) where
  pub page_shape : first_that_applies (later_tests c) ≢ 0 → first_that_applies (later_tests c) ≡ first_that_applies (page_tests c fits input)
  page_shape n = sym (page_later c one fits input low ∙ refused_first (later_tests c) _ n)

  -- where the table is accepted
  module _ (z : first_that_applies (later_tests c) ≡ 0) where
    shaped : first_that_applies (page_tests c fits input) ≡ first_that_applies (test 6 (not fits) ∷ [])
    shaped = page_later c one fits input low ∙ passed_first (later_tests c) (test 6 (not fits) ∷ []) refl z

    pub page-six : fits ≡ false → 6 ≡ first_that_applies (page_tests c fits input)
    page-six f = sym (shaped ∙ refused_by 6 fits [] f)

    pub page_none : fits ≡ true → 0 ≡ first_that_applies (page_tests c fits input)
    page_none f = sym (shaped ∙ passed_by 6 fits [] f ∙ nothing_applies)

-- a pass, by the number of the tests of its three buffers
module _ (c : Code) (fits : Bool) (t : ℕ) (st : State) (number : ℕ) (e : number ≡ first_that_applies (page_tests c fits (state_symbols st))) where
  pub pass_page : number ≢ 0 → number ≡ pass_answer c fits t st
  unfolding pass_answer pass_tests
  pass_page n = e ∙ sym (refused_first (page_tests c fits (state_symbols st)) (threshold_test t) (λ z. n (e ∙ z)))

  module _ (z : number ≡ 0) where
    paged : pass_answer c fits t st ≡ first_that_applies (threshold_test t)
    unfolding pass_answer pass_tests page_tests table_tests size_tests
    paged = passed_first (page_tests c fits (state_symbols st)) (threshold_test t) refl (sym e ∙ z)

    pub pass_nine : 33 ≤ t → 9 ≡ pass_answer c fits t st
    unfolding threshold_test
    pass_nine h = sym (paged ∙ refused_by 9 (ltb t 33) [] (le-ltb t 33 h))

    pub pass_zero : t < 33 → 0 ≡ pass_answer c fits t st
    unfolding threshold_test
    pass_zero h = sym (paged ∙ passed_by 9 (ltb t 33) [] (is_true (ltb t 33) (lt→ltb t 33 h)) ∙ nothing_applies)
