-- Every form of decode is decoding in blocks: decode in blocks of 1, which have no step and no test of their own.
-- What the functions below the calls share; proofs/InBlocks has how each call's outcome and demand 3 follow from it.
use Rattle.std.specs.Prelude.{◌≡◌, ◌≢◌, Bool, ◌&&◌, eqb, ℤ, length}
use Rattle.std.proofs.Math.Path.{refl, ap}
use Rattle.std.proofs.Common.{sym, ◌∙◌, subst, arith}
use mathlib.Core.List.{List, [], ◌++◌}
use Prim.Native.Nat.{ℕ, ◌*◌}
use Rattle.std.proofs.Math.Decide.{ℕ_discrete}
use Rattle.model.specs.Bytes.{margin_bytes, bytes_of}
use Rattle.model.specs.Calls.{Test, first_that_applies, size_tests, table_tests, page_tests, threshold_tests, block_test, decode_fits, decode_tests, decode_answer, decode_outer_answer, Outcome, outcome, Decoded, no_counts}
use Rattle.model.specs.Code.{Code, data_count}
use Rattle.model.specs.Decoder.{State, Counts, margins_of}
use Rattle.model.specs.Outer.{outer_state, outer_counts}
use Rattle.model.specs.Symbols.{choose}
use Rattle.theory.specs.Answers.{refused_first, passed_first, taken_first, nothing_applies, BlockFits, block_taken, decode_outer_taken}
use Rattle.theory.specs.Counting.{eqb_no}

-- ---- the length of the blocks

-- the length with which decode in blocks of L is made: blocks of 1 are those of decode, and a caller's 1, which test 12 refuses, is 0
unfoldable pub length_of : ℕ → ℕ
length_of L = choose (eqb L 1) 0 L

pub length_other : (L : ℕ) → L ≢ 1 → length_of L ≡ L
unfolding length_of
length_other L n = rw (eqb_no L 1 n) refl

-- blocks of n in which a page is corrected: of 1, or of a length that test 12 passes
abbrev pub Blocks : Code → ℕ → Type 0
Blocks c n = n ≢ 1 → BlockFits c n

-- ---- the number

-- decode's tests, and but for blocks of 1 test 12
unfoldable pub blocks_test : Code → ℕ → List Test
blocks_test c n = choose (eqb n 1) [] (block_test c n)

unfoldable pub blocks_answer : Code → ℕ → Bool → List ℕ → List ℕ → ℕ
blocks_answer c n fits page thresholds = first_that_applies (decode_tests c fits page thresholds ++ blocks_test c n)

pub one_test : (c : Code) → first_that_applies (blocks_test c 1) ≡ 0
unfolding blocks_test
one_test c = nothing_applies

pub other_test : (c : Code) (n : ℕ) → n ≢ 1 → blocks_test c n ≡ block_test c n
unfolding blocks_test
other_test c n z = rw (eqb_no n 1 z) refl

outer_test : (c : Code) (L : ℕ) → blocks_test c (length_of L) ≡ block_test c L
unfolding blocks_test length_of block_test
outer_test c L = elim (ℕ_discrete L 1) as (λ o. blocks_test c (length_of L) ≡ block_test c L) [
  | yes e ↦ subst (λ (n : ℕ). blocks_test c (length_of n) ≡ block_test c n) (sym e) refl
  | no n ↦ ap (blocks_test c) (length_other L n) ∙ other_test c L n
]

module _ (c : Code) (fits : Bool) (page thresholds : List ℕ) where
  pub blocks_refused : (n : ℕ) → decode_answer c fits page thresholds ≢ 0 → blocks_answer c n fits page thresholds ≡ decode_answer c fits page thresholds
  unfolding blocks_answer decode_answer
  blocks_refused n z = refused_first (decode_tests c fits page thresholds) (blocks_test c n) z

  pub blocks_passed : (n : ℕ) → decode_answer c fits page thresholds ≡ 0 → blocks_answer c n fits page thresholds ≡ first_that_applies (blocks_test c n)
  unfolding blocks_answer decode_answer page_tests table_tests size_tests threshold_tests
  blocks_passed n z = passed_first (decode_tests c fits page thresholds) (blocks_test c n) refl z

  pub blocks_taken : (n : ℕ) → blocks_answer c n fits page thresholds ≡ 0 → (decode_answer c fits page thresholds ≡ 0) × Blocks c n
  unfolding blocks_answer decode_answer page_tests table_tests size_tests threshold_tests
  blocks_taken n e =
      let t = taken_first (decode_tests c fits page thresholds) (blocks_test c n) refl e in
      (t.0, λ z. block_taken c n (ap first_that_applies (sym (other_test c n z)) ∙ t.1))

  pub one_answer : blocks_answer c 1 fits page thresholds ≡ decode_answer c fits page thresholds
  one_answer = elim (ℕ_discrete (decode_answer c fits page thresholds) 0) as (λ o. blocks_answer c 1 fits page thresholds ≡ decode_answer c fits page thresholds) [
    | yes z ↦ blocks_passed 1 z ∙ one_test c ∙ sym z
    | no n ↦ blocks_refused 1 n
  ]

  pub outer_answer : (L : ℕ) → blocks_answer c (length_of L) fits page thresholds ≡ decode_outer_answer c L fits page thresholds
  unfolding blocks_answer decode_outer_answer
  outer_answer L = ap (λ (ts : List Test). first_that_applies (decode_tests c fits page thresholds ++ ts)) (outer_test c L)

  pub outer_length : (L : ℕ) → decode_outer_answer c L fits page thresholds ≡ 0 → length_of L ≡ L
  outer_length L z = length_other L (λ e. absurd (omega (arith, e, (decode_outer_taken c L fits page thresholds z).1.low)))

-- ---- what is left

-- margins and counts as a form of the call hands them back
unfoldable pub form_outcome : {M N : Type 0} → (List ℤ → M) → (Counts → N) → Code → ℕ → Bool → List ℕ → List ℕ → Decoded M N → Outcome (Decoded M N)
form_outcome as_margins as_counts c n fits page thresholds lent =
    let st = outer_state c n thresholds page in
    outcome (blocks_answer c n fits page thresholds)
    (record { state = st; margins = as_margins (margins_of c st); counts = as_counts (outer_counts c n thresholds page) })
    lent

-- the Rattle form; `others` says whether the buffers that only another form of the call lends fit
unfoldable pub decode_form : Code → ℕ → Bool → List ℕ → List ℕ → State → List ℤ → Outcome (Decoded (List ℤ) Counts)
decode_form c n others page thresholds lent margins =
    form_outcome (λ m. m) (λ t. t) c n ((others && eqb (length margins) (data_count c)) && decode_fits c page lent) page thresholds
    (record { state = lent; margins = margins; counts = no_counts })

-- the C form
unfoldable pub c_decode_form : Code → ℕ → Bool → List ℕ → List ℕ → State → List ℕ → List ℕ → Outcome (Decoded (List ℕ) (List ℕ))
c_decode_form c n others page thresholds lent margins counts =
    form_outcome margin_bytes bytes_of c n ((others && (eqb (length margins) (4 * data_count c) && eqb (length counts) 16)) && decode_fits c page lent) page thresholds
    (record { state = lent; margins = margins; counts = counts })
