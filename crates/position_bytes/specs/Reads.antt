-- The calls with the positions that are read of a table, which do what they do with those of the table.
use Rattle.std.specs.Prelude.{◌≡◌, refl, ◌≢◌, true, false, not, ◌&&◌, List, [], length}
use Rattle.std.proofs.Common.{sym, ◌∙◌, subst, div-le_self, mul-le-mul_left, arith}
use Rattle.std.proofs.Math.Bool.{Bool}
use Prim.Native.Nat.{ℕ, ◌*◌, ◌≤◌, ◌<◌}
use Rattle.std.proofs.Math.Dec.{eqb}
use Rattle.model.specs.Bytes.{word_of, margin_bytes, bytes_of, c_pass_outcome, explained_bytes, c_explain_outcome}
use Rattle.model.specs.Calls.{first_that_applies, within, branches_fit, runs_fit, size_tests, table_tests, page_tests, table_answer, encode_answer, encode_outer_answer, syndrome_answer, state_fits, decode_fits, open_answer, pass_answer, outcome, encode_outcome, encode_outer_outcome, syndrome_outcome, open_outcome, Passed, passed_state, passed_changes, pass_tests, explained, explain_answer}
use Rattle.model.specs.Code.{Profile, lowest, highest, Code, code_in, code_word, syndrome}
use Rattle.model.specs.Decoder.{State, opened, margins_of}
use Rattle.model.specs.Demand.{Encodes, EncodesOuter, PassFalls}
use Rattle.model.specs.Limits.{SizeLimits}
use Rattle.model.specs.Outer.{outer_word, outer_state, outer_counts}
use Rattle.model.specs.Symbols.{choose}
use Rattle.theory.specs.Answers.{refused_first, sizes_taken, page_taken}
use Rattle.theory.specs.InBlocks.{blocks_answer, form_outcome, c_decode_form}
use Rattle.theory.specs.Outcomes.{left_as_lent, outcome_number}
use Rattle.theory.proofs.Statements.{pass_falls}
use Rattle.position_bytes.specs.Positions.{kept, all_read, read_same}

-- ---- too many positions are refused as none are

-- a code within its sizes has from 1 position to 8 runs of 32
sized_length : (c : Code) → SizeLimits c → (1 ≤ length c.positions) × (length c.positions ≤ 256)
sized_length c s = (
  omega (arith, s.J-low, div-le_self (length c.positions) c.b),
  omega (arith, s.runs, mul-le-mul_left c.b s.J-high, s.b_high),
)

module _ (p : Profile) (q k b : ℕ) where
  -- the number of tests 1, 2, 10 and 3
  abbrev sizes_number : List ℕ → ℕ
  sizes_number ps = first_that_applies (size_tests (code_in p q k b ps))

  none_unsized : sizes_number [] ≢ 0
  none_unsized z = absurd (omega (arith, (sized_length (code_in p q k b []) (sizes_taken (code_in p q k b []) z)).0))

  many_unsized : (ps : List ℕ) → 256 < length ps → sizes_number ps ≢ 0
  many_unsized ps h z = absurd (omega (arith, (sized_length (code_in p q k b ps) (sizes_taken (code_in p q k b ps) z)).1))

  -- only test 3, the last of them, looks at the positions
  unsized_same : (ps rs : List ℕ) → sizes_number ps ≢ 0 → sizes_number rs ≢ 0 → sizes_number ps ≡ sizes_number rs
  unfolding size_tests first_that_applies
  unsized_same ps rs = go (within (lowest p) (highest p) q) (within 1 4096 k) (branches_fit (code_in p q k b ps)) (runs_fit (code_in p q k b ps)) (runs_fit (code_in p q k b rs))
    where
      number : Bool → Bool → Bool → Bool → ℕ
      number w x y z = choose (not w) 1 (choose (not x) 2 (choose (not y) 10 (choose (not z) 3 0)))

      go : (w x y z z' : Bool) → number w x y z ≢ 0 → number w x y z' ≢ 0 → number w x y z ≡ number w x y z'
      go false x y z z' m n = refl
      go true false y z z' m n = refl
      go true true false z z' m n = refl
      go true true true false false m n = refl
      go true true true false true m n = absurd (n refl)
      go true true true true z' m n = absurd (m refl)

-- with the positions that are read, xs, a call does what it does with those of the table, ps
module _ (p : Profile) (q k b : ℕ) (xs ps : List ℕ) (e : xs ≡ kept ps) where
  -- a call whose number is that of the sizes where they are refused
  abbrev BySizes : (List ℕ → ℕ) → Type 0
  BySizes number = (l : List ℕ) → sizes_number p q k b l ≢ 0 → number l ≡ sizes_number p q k b l

  -- too many positions and none get one number
  none_number : (number : List ℕ → ℕ) → BySizes number → (l : List ℕ) → sizes_number p q k b l ≢ 0 → sizes_number p q k b [] ≡ number l
  none_number number sizes l u = unsized_same p q k b [] l (none_unsized p q k b) u ∙ sym (sizes l u)

  number_read : (number : List ℕ → ℕ) → BySizes number → number xs ≡ number ps
  number_read number sizes = read_same number xs ps e (λ h.
      sym (none_number number sizes [] (none_unsized p q k b)) ∙ none_number number sizes ps (many_unsized p q k b ps h))

  outcome_read : {A : Type 0} (number : List ℕ → ℕ) (done : List ℕ → A) (lent : A) → BySizes number
      → outcome (number xs) (done xs) lent ≡ outcome (number ps) (done ps) lent
  outcome_read number done lent sizes =
      let same : (l : List ℕ) → sizes_number p q k b l ≢ 0 → record { number = sizes_number p q k b []; left = lent } ≡ outcome (number l) (done l) lent =
      (λ l u. left_as_lent (number l) (done l) lent (sizes_number p q k b []) (none_number number sizes l u) (none_unsized p q k b)) in
      read_same (λ l. outcome (number l) (done l) lent) xs ps e (λ h. sym (same [] (none_unsized p q k b)) ∙ same ps (many_unsized p q k b ps h))

  pub table_read : table_answer (code_in p q k b xs) ≡ table_answer (code_in p q k b ps)
  unfolding table_answer table_tests
  table_read = number_read (λ l. table_answer (code_in p q k b l)) (λ l u. refused_first (size_tests (code_in p q k b l)) _ u)

  pub encode_read : (u page : List ℕ) → encode_outcome (code_in p q k b xs) u page ≡ encode_outcome (code_in p q k b ps) u page
  unfolding encode_outcome encode_answer page_tests table_tests size_tests
  encode_read u page =
      outcome_read (λ l. encode_answer (code_in p q k b l) u (length page)) (λ l. code_word (code_in p q k b l) u) page (λ l u. refused_first (size_tests (code_in p q k b l)) _ u)

  pub encode_outer_read : (L : ℕ) (u page : List ℕ) → encode_outer_outcome (code_in p q k b xs) L u page ≡ encode_outer_outcome (code_in p q k b ps) L u page
  unfolding encode_outer_outcome encode_outer_answer page_tests table_tests size_tests
  encode_outer_read L u page =
      outcome_read (λ l. encode_outer_answer (code_in p q k b l) L u (length page)) (λ l. code_word (code_in p q k b l) (outer_word (code_in p q k b l) L u)) page
      (λ l u. refused_first (size_tests (code_in p q k b l)) _ u)

  pub syndrome_read : (page s : List ℕ) → syndrome_outcome (code_in p q k b xs) page s ≡ syndrome_outcome (code_in p q k b ps) page s
  unfolding syndrome_outcome syndrome_answer page_tests table_tests size_tests
  syndrome_read page s =
      outcome_read (λ l. syndrome_answer (code_in p q k b l) page (length s)) (λ l. syndrome (code_in p q k b l) page) s (λ l u. refused_first (size_tests (code_in p q k b l)) _ u)

  pub open-read : (page : List ℕ) (lent : State) → open_outcome (code_in p q k b xs) page lent ≡ open_outcome (code_in p q k b ps) page lent
  unfolding open_outcome open_answer page_tests table_tests size_tests
  open-read page lent =
      outcome_read (λ l. open_answer (code_in p q k b l) page lent) (λ l. opened (code_in p q k b l) page) lent (λ l u. refused_first (size_tests (code_in p q k b l)) _ u)

  -- a pass, and that it falls, by the number that it then returns
  pub pass_whole : (t : ℕ) (lent : State) (changes : List ℕ) (r : ℕ) (x : Passed (List ℕ))
      → record { number = r; left = x } ≡ c_pass_outcome (code_in p q k b xs) t lent changes
      → (record { number = r; left = x } ≡ c_pass_outcome (code_in p q k b ps) t lent changes) × (r ≡ 0 → PassFalls (code_in p q k b ps) t lent)
  unfolding c_pass_outcome pass_answer pass_tests page_tests table_tests size_tests
  pass_whole t lent changes r x o =
      let others : Bool = eqb (length changes) 4 in
      let whole = o
      ∙ outcome_read (λ l. pass_answer (code_in p q k b l) (others && state_fits (code_in p q k b l) lent) t lent)
      (λ l. record { state = passed_state (code_in p q k b l) t lent; changes = word_of (passed_changes (code_in p q k b l) t lent) })
      (record { state = lent; changes = changes }) (λ l u. refused_first (size_tests (code_in p q k b l)) _ u) in
      (whole, λ z. pass_falls (code_in p q k b ps) others t lent (sym (outcome_number _ _ _ r x whole) ∙ z))

  pub explain_read : (t j : ℕ) (read : State) (answer : List ℕ) → c_explain_outcome (code_in p q k b xs) t j read answer ≡ c_explain_outcome (code_in p q k b ps) t j read answer
  unfolding c_explain_outcome explain_answer pass_tests page_tests table_tests size_tests
  explain_read t j read answer =
      outcome_read (λ l. explain_answer (code_in p q k b l) (eqb (length answer) 24 && state_fits (code_in p q k b l) read) t j read)
      (λ l. explained_bytes (explained (code_in p q k b l) t j read)) answer (λ l u. refused_first (size_tests (code_in p q k b l)) _ u)

  -- every form of decode
  pub decode_read : (n : ℕ) (others : Bool) (page ts : List ℕ) (lent : State) (margins counts : List ℕ)
      → c_decode_form (code_in p q k b xs) n others page ts lent margins counts ≡ c_decode_form (code_in p q k b ps) n others page ts lent margins counts
  unfolding c_decode_form form_outcome blocks_answer page_tests table_tests size_tests
  decode_read n others page ts lent margins counts =
      outcome_read (λ l. blocks_answer (code_in p q k b l) n ((others && (eqb (length margins) (4 * (b * k)) && eqb (length counts) 16)) && decode_fits (code_in p q k b l) page lent) page ts)
      (λ l.
      let st = outer_state (code_in p q k b l) n ts page in
      record { state = st; margins = margin_bytes (margins_of (code_in p q k b l) st); counts = bytes_of (outer_counts (code_in p q k b l) n ts page) })
      (record { state = lent; margins = margins; counts = counts }) (λ l u. refused_first (size_tests (code_in p q k b l)) _ u)

  -- a call that is done has read all positions
  sized_read : SizeLimits (code_in p q k b xs) → xs ≡ ps
  sized_read s = all_read xs ps e (sized_length (code_in p q k b xs) s).0

  encoded_read : (u sent : List ℕ) → Encodes (code_in p q k b xs) u sent → xs ≡ ps
  unfolding encode_answer
  encoded_read u sent n = sized_read (page_taken (code_in p q k b xs) _ u n.0).limits.table.sizes

  pub encodes_read : (u sent : List ℕ) → Encodes (code_in p q k b xs) u sent → Encodes (code_in p q k b ps) u sent
  encodes_read u sent n = subst (λ (l : List ℕ). Encodes (code_in p q k b l) u sent) (encoded_read u sent n) n

  pub encodes_outer_read : (L : ℕ) (u sent : List ℕ) → EncodesOuter (code_in p q k b xs) L u sent → EncodesOuter (code_in p q k b ps) L u sent
  encodes_outer_read L u sent n = subst (λ (l : List ℕ). EncodesOuter (code_in p q k b l) L u sent) (encoded_read _ sent n.encodes) n
