-- The C forms of decode and of a pass on wide symbols: their numbers, what they take and leave, and Demand 3 of what is done.
use Rattle.std.specs.Prelude.{◌≡◌, refl, Bool, ◌&&◌, List, eqb, length}
use Rattle.std.proofs.Math.Path.{ap}
use Rattle.std.proofs.Common.{sym, ◌∙◌, subst, arith}
use Rattle.std.proofs.Math.Bool.{true}
use Prim.Native.Nat.{ℕ, ◌*◌, ◌<◌}
use Rattle.model.specs.Bytes.{word_of, bytes_of, margin_bytes, c_decode_outcome, c_pass_outcome, symbol_size, symbols_of, state_read, state_written, in_byte_form, wide_decode_outcome, wide_pass_outcome}
use Rattle.model.specs.Calls.{state_fits, decode_fits, decode_answer, pass_answer, Outcome, outcome, Decoded, Passed, passed_state, passed_changes}
use Rattle.model.specs.Code.{Profile, Code, code_in, data_count, check_count, page_length}
use Rattle.model.specs.Decoder.{State, state_by, Counts, data_symbols, passes_of, run, decoded_state, decoded_counts, margins_of}
use Rattle.model.specs.Demand.{DecodeFalls, DecodeRecovers, PassFalls}
use Rattle.model.specs.Symbols.{Below}
use Rattle.position_bytes.specs.Positions.{kept}
use Rattle.position_bytes.specs.Reads.{decode_read, pass_whole}
use Rattle.theory.specs.Answers.{and_true, eqb-true, Taken, decode_taken, decode_opens, PassTaken, pass_taken, table_usable}
use Rattle.theory.specs.Decoding.{code_on}
use Rattle.theory.specs.InBlocks.{c_decode_form}
use Rattle.theory.proofs.InBlocks.{c_decode_done}
use Rattle.theory.specs.Outcomes.{outcome_number, outcome_done}
use Rattle.theory.specs.Runs.{range_passes, symbols_range}
use Rattle.theory.proofs.Statements.{decode_falls, decode_recovers, pass_falls}
use Rattle.theory.proofs.WideBytes.{symbols_back}
use Rattle.theory.specs.WideCalls.{Wide, in_bytes}
use Rattle.c_wide.specs.Calls.{bytes_by, some_checks, state_bytes}

-- ---- decode

-- the margins' bytes and the counts'
abbrev pub bytes_fit : Code → List ℕ → List ℕ → Bool
bytes_fit c margins counts = eqb (length margins) (4 * data_count c) && eqb (length counts) 16

-- its number
abbrev pub decode_number : ℕ → Code → List ℕ → List ℕ → State → List ℕ → List ℕ → ℕ
decode_number w c page ts lent margins counts =
    decode_answer c (bytes_fit c margins counts && decode_fits c (symbols_of w page) (state_read w lent)) (symbols_of w page) ts

-- the bytes of a state with its margins and of counts
abbrev pub left_bytes : ℕ → Code → State → Counts → Decoded (List ℕ) (List ℕ)
left_bytes w c st n = record { state = state_written w st; margins = margin_bytes (margins_of c st); counts = bytes_of n }

-- what it leaves
unfoldable pub decoded_bytes : ℕ → Code → List ℕ → List ℕ → Decoded (List ℕ) (List ℕ)
decoded_bytes w c ts page = left_bytes w c (decoded_state c ts (symbols_of w page)) (decoded_counts c ts (symbols_of w page))

pub decode_left : (c : Code) (page ts : List ℕ) (lent : State) (margins counts : List ℕ)
    → let w = symbol_size c.profile in
    wide_decode_outcome c page ts lent margins counts
    ≡ outcome (decode_number w c page ts lent margins counts) (decoded_bytes w c ts page) (record { state = lent; margins = margins; counts = counts })
unfolding wide_decode_outcome c_decode_outcome decoded_bytes
decode_left c page ts lent margins counts =
    in_bytes (λ (d : Decoded (List ℕ) (List ℕ)). record { state = state_written (symbol_size c.profile) d.state; margins = d.margins; counts = d.counts }) _ _ _ _

-- what it takes
pub record DecodeTakes (w : ℕ) (c : Code) (page ts : List ℕ) (lent : State) (margins counts : List ℕ) : Type 0 where
  pub taken : Taken c (symbols_of w page) ts (state_read w lent)
  pub len_page : length page ≡ page_length c * w
  pub len_result : length lent.result ≡ data_count c * w
  pub len_syndrome : length lent.syndrome ≡ check_count c * w
  pub len_difference : length lent.difference ≡ data_count c * w
  pub len_margins : length margins ≡ 4 * data_count c
  pub len_counts : length counts ≡ 16

pub decode_takes : (w : ℕ) → 0 < w → (c : Code) (page ts : List ℕ) (lent : State) (margins counts : List ℕ)
    → decode_number w c page ts lent margins counts ≡ 0 → DecodeTakes w c page ts lent margins counts
decode_takes w pos c page ts lent margins counts e =
    let fit : Bool = bytes_fit c margins counts in
    let t = decode_taken c fit (symbols_of w page) ts (state_read w lent) e in
    let o = t.opens in
    let s = state_bytes c w pos o.usable lent o.len_result o.len_syndrome o.len_difference in
    let m = and_true (eqb (length margins) (4 * data_count c)) (eqb (length counts) 16) (decode_opens c fit (symbols_of w page) ts (state_read w lent) e).0 in
    record {
      taken = t;
      len_page = bytes_by w pos (page_length c) (omega (arith, some_checks c o.usable)) page o.whole.len;
      len_result = s.len_result;
      len_syndrome = s.len_syndrome;
      len_difference = s.len_difference;
      len_margins = eqb-true (length margins) (4 * data_count c) m.0;
      len_counts = eqb-true (length counts) 16 m.1;
    }

-- it may be worked on in other buffers of the same lengths
pub taken_in : {c : Code} {page ts : List ℕ} {lent : State} → Taken c page ts lent → (r s d : List ℕ)
    → length r ≡ data_count c → length s ≡ check_count c → length d ≡ data_count c → Taken c page ts (state_by r s d)
taken_in t r s d lr ls ld = record {
  opens = record { usable = t.opens.usable; high = t.opens.high; whole = t.opens.whole; len_result = lr; len_syndrome = ls; len_difference = ld };
  some = t.some;
  few = t.few;
  small = t.small;
}

decoded_below : {c : Code} {page ts : List ℕ} {lent : State} → Taken c page ts lent → Below c.q (decoded_state c ts page).result
unfolding run decoded_state
decoded_below {c} {page} {ts} t =
    (code_on c t.opens.usable page t.opens.whole (run c ts page) (range_passes (data_count c) (data_symbols c) (symbols_range c) (passes_of c ts page))).sized.in_result

-- Demand 3 of a decode that is done
pub decode_holds : (c : Code) → Wide c → (page ts : List ℕ) (lent : State) (margins counts : List ℕ) (r : ℕ) (x : Decoded (List ℕ) (List ℕ))
    → record { number = r; left = x } ≡ wide_decode_outcome c page ts lent margins counts
    → let w = symbol_size c.profile in
    (record { number = r; left = x } ≡ wide_decode_outcome c page ts lent margins counts)
    × ((r ≡ 0 → DecodeFalls c ts (symbols_of w page) (decoded_counts c ts (symbols_of w page)))
    × (r ≡ 0 → DecodeRecovers c ts (symbols_of w page) (symbols_of w x.state.result)))
unfolding decoded_bytes
decode_holds c wide page ts lent margins counts r x e =
    let w : ℕ = symbol_size c.profile in
    let fit : Bool = bytes_fit c margins counts in
    let o = e ∙ decode_left c page ts lent margins counts in
    let zero : r ≡ 0 → decode_number w c page ts lent margins counts ≡ 0 = (λ z. sym (outcome_number _ _ _ r x o) ∙ z) in
    let back : r ≡ 0 → (decoded_state c ts (symbols_of w page)).result ≡ symbols_of w x.state.result =
    (λ z. sym (ap (λ (y : Decoded (List ℕ) (List ℕ)). symbols_of w y.state.result) (outcome_done _ _ _ r x o z)
    ∙ symbols_back w wide.some (decoded_state c ts (symbols_of w page)).result
    (subst (λ (q : ℕ). Below q (decoded_state c ts (symbols_of w page)).result) wide.values
    (decoded_below (decode_taken c fit (symbols_of w page) ts (state_read w lent) (zero z)))))) in (
      e,
      (
        λ z. decode_falls c fit (symbols_of w page) ts (state_read w lent) (zero z),
        λ z. subst (DecodeRecovers c ts (symbols_of w page)) (back z) (decode_recovers c fit (symbols_of w page) ts (state_read w lent) (zero z)),
      ),
    )

-- ---- a pass

abbrev pub pass_number : ℕ → Code → ℕ → State → List ℕ → ℕ
pass_number w c t lent changes = pass_answer c (eqb (length changes) 4 && state_fits c (state_read w lent)) t (state_read w lent)

unfoldable pub passed_bytes : ℕ → Code → ℕ → State → Passed (List ℕ)
passed_bytes w c t lent = record { state = state_written w (passed_state c t (state_read w lent)); changes = word_of (passed_changes c t (state_read w lent)) }

pub pass-left : (c : Code) (t : ℕ) (lent : State) (changes : List ℕ)
    → let w = symbol_size c.profile in
    wide_pass_outcome c t lent changes ≡ outcome (pass_number w c t lent changes) (passed_bytes w c t lent) (record { state = lent; changes = changes })
unfolding wide_pass_outcome c_pass_outcome passed_bytes
pass-left c t lent changes =
    in_bytes (λ (p : Passed (List ℕ)). record { state = state_written (symbol_size c.profile) p.state; changes = p.changes }) _ _ _ _

pub record PassTakes (w : ℕ) (c : Code) (t : ℕ) (lent : State) (changes : List ℕ) : Type 0 where
  pub taken : PassTaken c t (state_read w lent)
  pub len_result : length lent.result ≡ data_count c * w
  pub len_syndrome : length lent.syndrome ≡ check_count c * w
  pub len_difference : length lent.difference ≡ data_count c * w
  pub len_changes : length changes ≡ 4

pub pass_takes : (w : ℕ) → 0 < w → (c : Code) (t : ℕ) (lent : State) (changes : List ℕ) → pass_number w c t lent changes ≡ 0 → PassTakes w c t lent changes
pass_takes w pos c t lent changes e =
    let p = pass_taken c (eqb (length changes) 4) t (state_read w lent) e in
    let z = p.1.sized in
    let s = state_bytes c w pos (table_usable c p.1.table) lent z.len_result z.len_syndrome z.len_difference in
    record { taken = p.1; len_result = s.len_result; len_syndrome = s.len_syndrome; len_difference = s.len_difference; len_changes = eqb-true (length changes) 4 p.0 }

pub pass_holds : (c : Code) (t : ℕ) (lent : State) (changes : List ℕ) (r : ℕ) (x : Passed (List ℕ))
    → record { number = r; left = x } ≡ wide_pass_outcome c t lent changes
    → (record { number = r; left = x } ≡ wide_pass_outcome c t lent changes) × (r ≡ 0 → PassFalls c t (state_read (symbol_size c.profile) lent))
pass_holds c t lent changes r x e =
    (e, λ z. pass_falls c (eqb (length changes) 4) t (state_read (symbol_size c.profile) lent) (sym (outcome_number _ _ _ r x (e ∙ pass-left c t lent changes)) ∙ z))

-- ---- the positions that are read, xs, do what those of the table, ps, do

module _ (p : Profile) (q k b : ℕ) (xs ps : List ℕ) (e : xs ≡ kept ps) where
  formed : (l page ts : List ℕ) (lent : State) (margins counts : List ℕ)
      → c_decode_form (code_in p q k b l) 1 true page ts lent margins counts ≡ c_decode_outcome (code_in p q k b l) true page ts lent margins counts
  formed l page ts lent margins counts =
      let o : Outcome (Decoded (List ℕ) (List ℕ)) = c_decode_form (code_in p q k b l) 1 true page ts lent margins counts in
      (c_decode_done (code_in p q k b l) true page ts lent margins counts o.number o.left refl).0

  pub decode_same : (page ts : List ℕ) (lent : State) (margins counts : List ℕ)
      → wide_decode_outcome (code_in p q k b xs) page ts lent margins counts ≡ wide_decode_outcome (code_in p q k b ps) page ts lent margins counts
  unfolding wide_decode_outcome
  decode_same page ts lent margins counts =
      let w : ℕ = symbol_size p in
      let st : State = state_read w lent in
      ap (λ (o : Outcome (Decoded (List ℕ) (List ℕ))). in_byte_form (λ (d : Decoded (List ℕ) (List ℕ)). record { state = state_written w d.state; margins = d.margins; counts = d.counts }) o
      (record { state = lent; margins = margins; counts = counts }))
      (sym (formed xs (symbols_of w page) ts st margins counts) ∙ decode_read p q k b xs ps e 1 true (symbols_of w page) ts st margins counts
      ∙ formed ps (symbols_of w page) ts st margins counts)

  pub pass_same : (t : ℕ) (lent : State) (changes : List ℕ) → wide_pass_outcome (code_in p q k b xs) t lent changes ≡ wide_pass_outcome (code_in p q k b ps) t lent changes
  unfolding wide_pass_outcome
  pass_same t lent changes =
      let w : ℕ = symbol_size p in
      let st : State = state_read w lent in
      let o : Outcome (Passed (List ℕ)) = c_pass_outcome (code_in p q k b xs) t st changes in
      ap (λ (o : Outcome (Passed (List ℕ))). in_byte_form (λ (d : Passed (List ℕ)). record { state = state_written w d.state; changes = d.changes }) o (record { state = lent; changes = changes }))
      (pass_whole p q k b xs ps e t st changes o.number o.left refl).0
