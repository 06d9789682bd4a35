-- What a code's profile matters to: test 1, and with it nothing else. Wide symbols, whose profile has one q, meet neither test 1 nor test 7.
use Rattle.std.specs.Prelude.{◌≡◌, Bool, true, false, not, ℕ, ◌+◌, ◌%◌, ◌≤◌, ◌<◌, ltb}
use Rattle.std.proofs.Math.Path.{refl, ap}
use Rattle.std.proofs.Common.{sym, ◌∙◌, mod-eq_of_lt, arith}
use mathlib.Core.List.{List, [], ◌∷◌, ◌++◌, append-nil, append_assoc}
use Rattle.model.specs.Calls.{Test, test, first_that_applies, within, all_below, branches_fit, runs_fit, table_fits, size_tests, table_tests, page_tests, threshold_tests, threshold_test, table_answer, decode_answer, state_symbols, pass_tests, pass_answer, explain_answer, passed_state, passed_changes, explained}
use Rattle.model.specs.Code.{Profile, lowest, highest, Code, code_in, data_count, branch_at, checks_of, check_symbol, check_symbols, code_word, syndrome, shared, self_orthogonal}
use Rattle.model.specs.Decoder.{State, opened, passes_of, run, distance_to, decoded_state, decoded_counts, margins_of}
use Rattle.model.specs.Symbols.{choose, sub, Below}
use Rattle.theory.specs.Answers.{within_make, all-below, below_all, state_below}
use Rattle.theory.specs.Modulo.{sub_unique}

-- ---- the steps

-- the code with the same numbers and table, in another profile
abbrev pub in_profile : Profile → Code → Code
in_profile p c = code_in p c.q c.k c.b c.positions

module _ (p : Profile) (c : Code) where
  pub word_in : (u : List ℕ) → code_word (in_profile p c) u ≡ code_word c u
  unfolding code_word check_symbols check_symbol branch_at
  word_in u = refl

  pub syndrome-in : (page : List ℕ) → syndrome (in_profile p c) page ≡ syndrome c page
  unfolding syndrome check_symbol branch_at
  syndrome-in page = refl

  pub opened_in : (page : List ℕ) → opened (in_profile p c) page ≡ opened c page
  unfolding opened syndrome check_symbol branch_at
  opened_in page = refl

  pub decoded_in : (ts page : List ℕ) → decoded_state (in_profile p c) ts page ≡ decoded_state c ts page
  unfolding decoded_state run passes_of opened syndrome check_symbol checks_of branch_at
  decoded_in ts page = refl

  pub counts_in : (ts page : List ℕ) → decoded_counts (in_profile p c) ts page ≡ decoded_counts c ts page
  unfolding decoded_counts decoded_state distance_to run passes_of opened syndrome code_word check_symbols check_symbol checks_of branch_at
  counts_in ts page = refl

  pub margins_in : (st : State) → margins_of (in_profile p c) st ≡ margins_of c st
  unfolding margins_of checks_of branch_at
  margins_in st = refl

  pub passed_in : (t : ℕ) (st : State) → passed_state (in_profile p c) t st ≡ passed_state c t st
  unfolding checks_of branch_at
  passed_in t st = refl

  pub changes_in : (t : ℕ) (st : State) → passed_changes (in_profile p c) t st ≡ passed_changes c t st
  unfolding checks_of branch_at
  changes_in t st = refl

  pub explained_in : (t j : ℕ) (st : State) → explained (in_profile p c) t j st ≡ explained c t j st
  unfolding explained checks_of branch_at
  explained_in t j st = refl

-- ---- the tests

-- those of a table after test 1: 2, 10, 3, 4 and 5
abbrev pub later_tests : Code → List Test
later_tests c =
    test 2 (not (within 1 4096 c.k))
    ∷ test 10 (not (branches_fit c))
    ∷ test 3 (not (runs_fit c))
    ∷ test 4 (not (table_fits c))
    ∷ test 5 (not (self_orthogonal c))
    ∷ []

-- test 1 is all that a profile matters to
pub table_in : (p : Profile) (c : Code) → table_answer (in_profile p c) ≡ choose (within (lowest p) (highest p) c.q) (first_that_applies (later_tests c)) 1
unfolding table_answer table_tests size_tests first_that_applies self_orthogonal shared checks_of branch_at
table_in p c = go (within (lowest p) (highest p) c.q) (first_that_applies (later_tests c))
  where
    go : (b : Bool) (n : ℕ) → choose (not b) 1 n ≡ choose b n 1
    go true n = refl
    go false n = refl

-- a test that does not apply may be left out
left_out : (ts : List Test) (n : ℕ) (fits : Bool) (us : List Test) → fits ≡ true → first_that_applies (ts ++ (test n (not fits) ∷ us)) ≡ first_that_applies (ts ++ us)
unfolding first_that_applies
left_out [] n fits us e = rw e refl
left_out (t ∷ ts) n fits us e = ap (choose t.applies t.number) (left_out ts n fits us e)

-- a profile with one q
pub one_size : (p : Profile) → lowest p ≡ highest p → within (lowest p) (highest p) (highest p) ≡ true
one_size p e = rw e (within_make (highest p) (highest p) (highest p) (omega arith) (omega arith))

-- where q is the profile's, test 1 may be left out; where the symbols are below q, so may test 7
module _ (c : Code) (one : within (lowest c.profile) (highest c.profile) c.q ≡ true) where
  pub no_one : table_answer c ≡ first_that_applies (later_tests c)
  unfolding table_answer table_tests size_tests
  no_one = left_out [] 1 (within (lowest c.profile) (highest c.profile) c.q) (later_tests c) one

  -- both, before any other tests
  pub later : (fits : Bool) (input : List ℕ) → Below c.q input → (us : List Test)
      → first_that_applies (page_tests c fits input ++ us) ≡ first_that_applies (later_tests c ++ (test 6 (not fits) ∷ us))
  unfolding page_tests table_tests size_tests
  later fits input low us =
      left_out [] 1 (within (lowest c.profile) (highest c.profile) c.q) (later_tests c ++ (test 6 (not fits) ∷ test 7 (not (all_below c.q input)) ∷ us)) one
      ∙ left_out (later_tests c ++ (test 6 (not fits) ∷ [])) 7 (all_below c.q input) us (below_all c.q input low)

  -- encode, syndrome and open; decode; a pass; explain
  pub page_later : (fits : Bool) (input : List ℕ) → Below c.q input → first_that_applies (page_tests c fits input) ≡ first_that_applies (later_tests c ++ (test 6 (not fits) ∷ []))
  page_later fits input low = ap first_that_applies (sym (append-nil (page_tests c fits input))) ∙ later fits input low []

  pub decode_later : (fits : Bool) (page ts : List ℕ) → Below c.q page
      → decode_answer c fits page ts ≡ first_that_applies (later_tests c ++ (test 6 (not fits) ∷ threshold_tests ts))
  unfolding decode_answer
  decode_later fits page ts low = later fits page low (threshold_tests ts)

  module _ (fits : Bool) (t : ℕ) (st : State) (low : Below c.q (state_symbols st)) where
    pub pass_later : pass_answer c fits t st ≡ first_that_applies (later_tests c ++ (test 6 (not fits) ∷ threshold_test t))
    unfolding pass_answer pass_tests
    pass_later = later fits (state_symbols st) low (threshold_test t)

    pub explain_later : (j : ℕ) → explain_answer c fits t j st ≡ first_that_applies (later_tests c ++ (test 6 (not fits) ∷ test 9 (not (ltb t 33)) ∷ test 11 (not (ltb j (data_count c))) ∷ []))
    unfolding explain_answer pass_tests threshold_test
    explain_later j =
        ap first_that_applies (append_assoc (page_tests c fits (state_symbols st)) (threshold_test t) (test 11 (not (ltb j (data_count c))) ∷ []))
        ∙ later fits (state_symbols st) low (test 9 (not (ltb t 33)) ∷ test 11 (not (ltb j (data_count c))) ∷ [])

-- the symbols of three buffers are below q where those of each are
pub state_low : (q : ℕ) → 0 < q → (st : State) → Below q st.result → Below q st.syndrome → Below q st.difference → Below q (state_symbols st)
state_low q pos st r s d =
    all-below q pos (state_symbols st) (state_below q st ∙ rw (below_all q st.result r, below_all q st.syndrome s, below_all q st.difference d) refl)

-- ---- sums and differences that wrap

-- "sums and differences simply wrap at the symbol's width": a sum that wraps at q is the sum modulo q by definition, and a difference r that wraps
-- is the one number below q that with b wraps to a
pub wraps : (q : ℕ) → 0 < q → (a b r : ℕ) → a < q → b ≤ q → r < q → (r + b) % q ≡ a → r ≡ sub q a b
wraps q pos a b r ha hb hr e = sub_unique q pos a b r hb hr (e ∙ sym (mod-eq_of_lt ha))
