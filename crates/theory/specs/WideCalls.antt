-- The C calls on wide symbols: tests 1 and 7 cannot apply, test 6 counts bytes, and what is left is bytes.
use Rattle.std.specs.Prelude.{◌≡◌, refl, Bool, true, false, not, ◌&&◌, List, [], ◌∷◌, ◌++◌, ℕ, ◌*◌, ◌^◌, ◌<◌, ltb, length}
use Rattle.std.proofs.Math.Path.{ap}
use Rattle.std.proofs.Common.{sym, ◌∙◌, subst, append-nil, append_assoc, mul-le-mul, arith}
use Rattle.std.proofs.Math.Decide.{ℕ_discrete}
use Rattle.std.proofs.Math.Dec.{eqb}
use Rattle.model.specs.Bytes.{word_of, bytes_of, margin_bytes, explained_bytes, c_decode_outcome, c_pass_outcome, c_explain_outcome, symbol_size, symbols_of, symbol_bytes, state_read, state_written, in_byte_form, wide_encode_outcome, wide_syndrome_outcome, wide_decode_outcome, wide_open_outcome, wide_pass_outcome, wide_explain_outcome}
use Rattle.model.specs.Calls.{Test, test, first_that_applies, within, page_tests, table_tests, threshold_tests, threshold_test, state_fits, decode_fits, table_answer, encode_answer, syndrome_answer, decode_answer, open_answer, state_symbols, pass_tests, pass_answer, explain_answer, outcome, encode_outcome, syndrome_outcome, open_outcome, Decoded, Passed, passed_state, passed_changes, explained}
use Rattle.model.specs.Code.{wide16, wide32, lowest, highest, Code, wide_code, data_count, check_count, page_length, code_word, syndrome}
use Rattle.model.specs.Decoder.{State, opened, decoded_state, decoded_counts, margins_of}
use Rattle.model.specs.Symbols.{choose, Below}
use Rattle.theory.specs.Answers.{refused_first, table_usable}
use Rattle.theory.specs.Codes.{Usable}
use Rattle.theory.specs.Profiles.{later_tests, later, state_low}
use Rattle.theory.specs.WideBytes.{fits_bytes, symbols_below}

-- a code of wide symbols: q is the number of their values, and the one that its profile has
pub record Wide (c : Code) : Type 0 where
  pub one : within (lowest c.profile) (highest c.profile) c.q ≡ true
  pub values : c.q ≡ 256 ^ symbol_size c.profile
  pub some : 0 < symbol_size c.profile

pub wide_16 : (k b : ℕ) (ps : List ℕ) → Wide (wide_code wide16 k b ps)
unfolding within
wide_16 k b ps = record { one = refl; values = refl; some = omega arith }

pub wide_32 : (k b : ℕ) (ps : List ℕ) → Wide (wide_code wide32 k b ps)
unfolding within
wide_32 k b ps = record { one = refl; values = refl; some = omega arith }

-- ---- what is left

pub in_bytes : {A B : Type 0} (f : A → B) (n : ℕ) (done x : A) (lent : B) → in_byte_form f (outcome n done x) lent ≡ outcome n (f done) lent
unfolding in_byte_form outcome
in_bytes {A} {B} f n done x lent = λ i. record { number = n; left = go (eqb n 0) i }
  where
    go : (b : Bool) → choose b (f (choose b done x)) lent ≡ choose b (f done) lent
    go true = refl
    go false = refl

-- by another number that is equal
by_number : {A : Type 0} (n m : ℕ) (done lent : A) → n ≡ m → outcome n done lent ≡ outcome m done lent
by_number n m done lent e = ap (λ (x : ℕ). outcome x done lent) e

-- ---- the lengths, by bytes

-- the lengths of the bytes of a page and so on, w a symbol
abbrev pub fits_by : ℕ → ℕ → List ℕ → Bool
fits_by w n s = eqb (length s) (n * w)

abbrev pub state_fits_by : ℕ → Code → State → Bool
state_fits_by w c lent = fits_by w (data_count c) lent.result && (fits_by w (check_count c) lent.syndrome && fits_by w (data_count c) lent.difference)

module _ (c : Code) (u : Usable c) (w : ℕ) (pos : 0 < w) where
  some_checks : 0 < check_count c
  some_checks = omega (arith, u.table.sizes.k_low)

  some_data : 0 < data_count c
  some_data = omega (arith, mul-le-mul u.table.sizes.b_low u.table.sizes.k_low)

  two_by : (m n : ℕ) → 0 < m → 0 < n → (s t : List ℕ) → (eqb (length (symbols_of w s)) m && eqb (length (symbols_of w t)) n) ≡ (fits_by w m s && fits_by w n t)
  two_by m n hm hn s t = rw (fits_bytes w pos m hm s, fits_bytes w pos n hn t) refl

  state-by : (lent : State) → state_fits c (state_read w lent) ≡ state_fits_by w c lent
  state-by lent = rw (fits_bytes w pos (data_count c) some_data lent.result, two_by (check_count c) (data_count c) some_checks some_data lent.syndrome lent.difference) refl

  decode_by : (page : List ℕ) (lent : State) → decode_fits c (symbols_of w page) (state_read w lent) ≡ (fits_by w (page_length c) page && state_fits_by w c lent)
  decode_by page lent = rw (fits_bytes w pos (page_length c) (omega (arith, some_checks)) page, state-by lent) refl

-- lengths are tested only where the table is accepted
same_number : (c : Code) (f g : Bool) (input : List ℕ) → (Usable c → f ≡ g) → (us : List Test) → first_that_applies (page_tests c f input ++ us) ≡ first_that_applies (page_tests c g input ++ us)
unfolding table_answer page_tests
same_number c f g input h us = elim (ℕ_discrete (table_answer c) 0) as (λ o. first_that_applies (page_tests c f input ++ us) ≡ first_that_applies (page_tests c g input ++ us)) [
  | yes e ↦ ap (λ (b : Bool). first_that_applies (page_tests c b input ++ us)) (h (table_usable c e))
  | no n ↦
      ap first_that_applies (append_assoc (table_tests c) _ us) ∙ refused_first (table_tests c) _ n
      ∙ sym (ap first_that_applies (append_assoc (table_tests c) _ us) ∙ refused_first (table_tests c) _ n)
]

-- ---- each call

module _ (c : Code) (wide : Wide c) where
  abbrev w : ℕ
  w = symbol_size c.profile

  low : (s : List ℕ) → Below 256 s → Below c.q (symbols_of w s)
  low s b = subst (λ (q : ℕ). Below q (symbols_of w s)) (sym wide.values) (symbols_below w s b)

  -- its number is that of tests 2, 10, 3, 4, 5, of 6 by bytes, and of those after 7
  number_by : (f g : Bool) (input : List ℕ) → Below c.q input → (Usable c → f ≡ g) → (us : List Test)
      → first_that_applies (page_tests c f input ++ us) ≡ first_that_applies (later_tests c ++ (test 6 (not g) ∷ us))
  number_by f g input b h us = same_number c f g input h us ∙ later c wide.one g input b us

  page_number : (f g : Bool) (input : List ℕ) → Below c.q input → (Usable c → f ≡ g)
      → first_that_applies (page_tests c f input) ≡ first_that_applies (later_tests c ++ (test 6 (not g) ∷ []))
  page_number f g input b h = ap first_that_applies (sym (append-nil (page_tests c f input))) ∙ number_by f g input b h []

  state-symbols : (st : State) → Below 256 st.result → Below 256 st.syndrome → Below 256 st.difference → Below c.q (state_symbols (state_read w st))
  state-symbols st r s d = state_low c.q (omega (arith, low st.result r 0)) (state_read w st) (low st.result r) (low st.syndrome s) (low st.difference d)

  pub encode_wide : (u page : List ℕ) → Below 256 u
      → wide_encode_outcome c u page
      ≡ outcome (first_that_applies (later_tests c ++ (test 6 (not (fits_by w (data_count c) u && fits_by w (page_length c) page)) ∷ []))) (symbol_bytes w (code_word c (symbols_of w u))) page
  unfolding wide_encode_outcome encode_outcome encode_answer
  encode_wide u page b =
      in_bytes (symbol_bytes w) _ (code_word c (symbols_of w u)) (symbols_of w page) page
      ∙ by_number _ _ _ _
      (page_number _ _ (symbols_of w u) (low u b) (λ l. two_by c l w wide.some (data_count c) (page_length c) (some_data c l w wide.some) (omega (arith, some_checks c l w wide.some)) u page))

  pub syndrome_wide : (page s : List ℕ) → Below 256 page
      → wide_syndrome_outcome c page s
      ≡ outcome (first_that_applies (later_tests c ++ (test 6 (not (fits_by w (page_length c) page && fits_by w (check_count c) s)) ∷ []))) (symbol_bytes w (syndrome c (symbols_of w page))) s
  unfolding wide_syndrome_outcome syndrome_outcome syndrome_answer
  syndrome_wide page s b =
      in_bytes (symbol_bytes w) _ (syndrome c (symbols_of w page)) (symbols_of w s) s
      ∙ by_number _ _ _ _
      (page_number _ _ (symbols_of w page) (low page b)
      (λ l. two_by c l w wide.some (page_length c) (check_count c) (omega (arith, some_checks c l w wide.some)) (some_checks c l w wide.some) page s))

  pub open_wide : (page : List ℕ) (lent : State) → Below 256 page
      → wide_open_outcome c page lent
      ≡ outcome (first_that_applies (later_tests c ++ (test 6 (not (fits_by w (page_length c) page && state_fits_by w c lent)) ∷ []))) (state_written w (opened c (symbols_of w page))) lent
  unfolding wide_open_outcome open_outcome open_answer
  open_wide page lent b =
      in_bytes (state_written w) _ (opened c (symbols_of w page)) (state_read w lent) lent
      ∙ by_number _ _ _ _
      (page_number _ _ (symbols_of w page) (low page b) (λ l. decode_by c l w wide.some page lent))

  pub decode_wide : (page ts : List ℕ) (lent : State) (margins counts : List ℕ) → Below 256 page
      → let st = decoded_state c ts (symbols_of w page) in
      wide_decode_outcome c page ts lent margins counts
      ≡ outcome (first_that_applies (later_tests c
      ++ (test 6 (not ((eqb (length margins) (4 * data_count c) && eqb (length counts) 16) && (fits_by w (page_length c) page && state_fits_by w c lent))) ∷ threshold_tests ts)))
      (record { state = state_written w st; margins = margin_bytes (margins_of c st); counts = bytes_of (decoded_counts c ts (symbols_of w page)) })
      (record { state = lent; margins = margins; counts = counts })
  unfolding wide_decode_outcome c_decode_outcome decode_answer
  decode_wide page ts lent margins counts b =
      in_bytes (λ (d : Decoded (List ℕ) (List ℕ)). record { state = state_written w d.state; margins = d.margins; counts = d.counts }) _ _ _ _
      ∙ by_number _ _ _ _
      (number_by _ _ (symbols_of w page) (low page b)
      (λ l. ap (λ (b : Bool). (eqb (length margins) (4 * data_count c) && eqb (length counts) 16) && b) (decode_by c l w wide.some page lent)) (threshold_tests ts))

  module _ (t : ℕ) (st : State) (r : Below 256 st.result) (s : Below 256 st.syndrome) (d : Below 256 st.difference) where
    pub pass_wide : (changes : List ℕ)
        → wide_pass_outcome c t st changes
        ≡ outcome (first_that_applies (later_tests c ++ (test 6 (not (eqb (length changes) 4 && state_fits_by w c st)) ∷ threshold_test t)))
        (record { state = state_written w (passed_state c t (state_read w st)); changes = word_of (passed_changes c t (state_read w st)) })
        (record { state = st; changes = changes })
    unfolding wide_pass_outcome c_pass_outcome pass_answer pass_tests
    pass_wide changes =
        in_bytes (λ (p : Passed (List ℕ)). record { state = state_written w p.state; changes = p.changes }) _ _ _ _
        ∙ by_number _ _ _ _
        (number_by _ _ (state_symbols (state_read w st)) (state-symbols st r s d) (λ l. ap (λ (b : Bool). eqb (length changes) 4 && b) (state-by c l w wide.some st)) (threshold_test t))

    pub explain_wide : (j : ℕ) (answer : List ℕ)
        → wide_explain_outcome c t j st answer
        ≡ outcome (first_that_applies (later_tests c
        ++ (test 6 (not (eqb (length answer) 24 && state_fits_by w c st)) ∷ test 9 (not (ltb t 33)) ∷ test 11 (not (ltb j (data_count c))) ∷ [])))
        (explained_bytes (explained c t j (state_read w st))) answer
    unfolding wide_explain_outcome c_explain_outcome explain_answer pass_tests threshold_test
    explain_wide j answer =
        by_number _ _ _ _
        (ap first_that_applies (append_assoc (page_tests c _ (state_symbols (state_read w st))) (test 9 (not (ltb t 33)) ∷ []) (test 11 (not (ltb j (data_count c))) ∷ []))
        ∙ number_by _ _ (state_symbols (state_read w st)) (state-symbols st r s d) (λ l. ap (λ (b : Bool). eqb (length answer) 24 && b) (state-by c l w wide.some st))
        (test 9 (not (ltb t 33)) ∷ test 11 (not (ltb j (data_count c))) ∷ []))
