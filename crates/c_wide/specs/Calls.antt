-- The C forms on wide symbols by the tests of the symbols that their bytes stand for: what is left, what is taken, and the positions that are read.
use Rattle.std.specs.Prelude.{◌≡◌, List, ℕ, ◌*◌, ◌^◌, ◌<◌, eqb, length}
use Rattle.std.proofs.Math.Path.{ap}
use Rattle.std.proofs.Common.{sym, ◌∙◌, mul-le-mul, arith}
use Rattle.model.specs.Bytes.{symbol_size, symbols_of, symbol_bytes, state_read, state_written, in_byte_form, wide_encode_outcome, wide_syndrome_outcome, wide_open_outcome, wide_explain_outcome}
use Rattle.model.specs.Calls.{Outcome, outcome, encode_fits, syndrome_fits, encode_answer, syndrome_answer, open_answer, encode_outcome, syndrome_outcome, open_outcome}
use Rattle.model.specs.Code.{Profile, Code, code_in, data_count, check_count, page_length, code_word, syndrome}
use Rattle.model.specs.Decoder.{State, opened}
use Rattle.model.specs.Demand.{Encodes}
use Rattle.model.specs.Symbols.{Below}
use Rattle.position_bytes.specs.Positions.{kept}
use Rattle.position_bytes.specs.Reads.{encode_read, encodes_read, syndrome_read, open-read, explain_read}
use Rattle.theory.specs.Answers.{and_true, eqb-true, page_taken, open_taken}
use Rattle.theory.specs.Codes.{Usable}
use Rattle.theory.specs.Counting.{eqb_yes}
use Rattle.theory.specs.WideBytes.{fits_bytes}
use Rattle.theory.specs.WideCalls.{in_bytes}
use Rattle.c_wide.specs.Pages.{word_read}

-- ---- what is left

module _ (c : Code) where
  abbrev w : ℕ
  w = symbol_size c.profile

  pub encode_left : (u page : List ℕ)
      → wide_encode_outcome c u page ≡ outcome (encode_answer c (symbols_of w u) (length (symbols_of w page))) (symbol_bytes w (code_word c (symbols_of w u))) page
  unfolding wide_encode_outcome encode_outcome
  encode_left u page = in_bytes (symbol_bytes w) _ (code_word c (symbols_of w u)) (symbols_of w page) page

  pub syndrome_left : (page s : List ℕ)
      → wide_syndrome_outcome c page s ≡ outcome (syndrome_answer c (symbols_of w page) (length (symbols_of w s))) (symbol_bytes w (syndrome c (symbols_of w page))) s
  unfolding wide_syndrome_outcome syndrome_outcome
  syndrome_left page s = in_bytes (symbol_bytes w) _ (syndrome c (symbols_of w page)) (symbols_of w s) s

  pub open_left : (page : List ℕ) (lent : State)
      → wide_open_outcome c page lent ≡ outcome (open_answer c (symbols_of w page) (state_read w lent)) (state_written w (opened c (symbols_of w page))) lent
  unfolding wide_open_outcome open_outcome
  open_left page lent = in_bytes (state_written w) _ (opened c (symbols_of w page)) (state_read w lent) lent

-- ---- what is taken

-- as many symbols as are needed are so many bytes
pub bytes_by : (w : ℕ) → 0 < w → (n : ℕ) → 0 < n → (s : List ℕ) → length (symbols_of w s) ≡ n → length s ≡ n * w
bytes_by w pos n some s e = eqb-true (length s) (n * w) (sym (fits_bytes w pos n some s) ∙ eqb_yes (length (symbols_of w s)) n e)

pub some_checks : (c : Code) → Usable c → 0 < check_count c
some_checks c u = omega (arith, u.table.sizes.k_low)

pub some_data : (c : Code) → Usable c → 0 < data_count c
some_data c u = omega (arith, mul-le-mul u.table.sizes.b_low u.table.sizes.k_low)

-- the result, S and D, in bytes
pub record StateBytes (c : Code) (w : ℕ) (lent : State) : Type 0 where
  pub len_result : length lent.result ≡ data_count c * w
  pub len_syndrome : length lent.syndrome ≡ check_count c * w
  pub len_difference : length lent.difference ≡ data_count c * w

module _ (c : Code) (w : ℕ) (pos : 0 < w) where
  data_by : Usable c → (s : List ℕ) → length (symbols_of w s) ≡ data_count c → length s ≡ data_count c * w
  data_by l = bytes_by w pos (data_count c) (some_data c l)

  checks-by : Usable c → (s : List ℕ) → length (symbols_of w s) ≡ check_count c → length s ≡ check_count c * w
  checks-by l = bytes_by w pos (check_count c) (some_checks c l)

  page_by : Usable c → (s : List ℕ) → length (symbols_of w s) ≡ page_length c → length s ≡ page_length c * w
  page_by l = bytes_by w pos (page_length c) (omega (arith, some_checks c l))

  -- encode
  module _ (u page : List ℕ) (e : encode_answer c (symbols_of w u) (length (symbols_of w page)) ≡ 0) where
    encode_lengths : Usable c × (length (symbols_of w u) ≡ data_count c) × (length (symbols_of w page) ≡ page_length c)
    unfolding encode_answer
    encode_lengths =
        let f = page_taken c (encode_fits c (length (symbols_of w u)) (length (symbols_of w page))) (symbols_of w u) e in
        let l = and_true (eqb (length (symbols_of w u)) (data_count c)) (eqb (length (symbols_of w page)) (page_length c)) f.buffers in
        (f.usable, eqb-true (length (symbols_of w u)) (data_count c) l.0, eqb-true (length (symbols_of w page)) (page_length c) l.1)

    pub encode_takes : Usable c × (length u ≡ data_count c * w) × (length page ≡ page_length c * w)
    encode_takes = let l = encode_lengths in (l.0, data_by l.0 u l.1, page_by l.0 page l.2)

    -- and what it then writes is the page of the data
    pub encodes : c.q ≡ 256 ^ w → Below 256 u → (x : List ℕ) → x ≡ symbol_bytes w (code_word c (symbols_of w u)) → Encodes c (symbols_of w u) (symbols_of w x)
    encodes values low x h =
        let l = encode_takes in
        let q-pos : 0 < c.q = omega (arith, l.0.q_low) in
        (sym (ap (encode_answer c (symbols_of w u)) encode_lengths.2) ∙ e, ap (symbols_of w) h ∙ word_read c q-pos w pos u low l.1 values)

  -- syndrome
  pub syndrome_takes : (page s : List ℕ) → syndrome_answer c (symbols_of w page) (length (symbols_of w s)) ≡ 0
      → Usable c × (length page ≡ page_length c * w) × (length s ≡ check_count c * w)
  unfolding syndrome_answer
  syndrome_takes page s e =
      let f = page_taken c (syndrome_fits c (length (symbols_of w page)) (length (symbols_of w s))) (symbols_of w page) e in
      let l = and_true (eqb (length (symbols_of w page)) (page_length c)) (eqb (length (symbols_of w s)) (check_count c)) f.buffers in (
        f.usable,
        page_by f.usable page (eqb-true (length (symbols_of w page)) (page_length c) l.0),
        checks-by f.usable s (eqb-true (length (symbols_of w s)) (check_count c) l.1),
      )

  pub state_bytes : Usable c → (lent : State) → length (symbols_of w lent.result) ≡ data_count c → length (symbols_of w lent.syndrome) ≡ check_count c
      → length (symbols_of w lent.difference) ≡ data_count c → StateBytes c w lent
  state_bytes l lent r s d =
      record { len_result = data_by l lent.result r; len_syndrome = checks-by l lent.syndrome s; len_difference = data_by l lent.difference d }

  pub open_takes : (page : List ℕ) (lent : State) → open_answer c (symbols_of w page) (state_read w lent) ≡ 0 → Usable c × (length page ≡ page_length c * w) × StateBytes c w lent
  open_takes page lent e =
      let o = (open_taken c (symbols_of w page) (state_read w lent) e).1 in
      (o.usable, page_by o.usable page o.whole.len, state_bytes o.usable lent o.len_result o.len_syndrome o.len_difference)

-- ---- the positions that are read, xs, do what those of the table, ps, do

module _ (p : Profile) (q k b : ℕ) (xs ps : List ℕ) (e : xs ≡ kept ps) where
  encode_same : (u page : List ℕ) → wide_encode_outcome (code_in p q k b xs) u page ≡ wide_encode_outcome (code_in p q k b ps) u page
  unfolding wide_encode_outcome
  encode_same u page =
      ap (λ (o : Outcome (List ℕ)). in_byte_form (symbol_bytes (symbol_size p)) o page) (encode_read p q k b xs ps e (symbols_of (symbol_size p) u) (symbols_of (symbol_size p) page))

  pub encode_whole : (u page : List ℕ) (r : ℕ) (x : List ℕ)
      → (record { number = r; left = x } ≡ wide_encode_outcome (code_in p q k b xs) u page)
      × (r ≡ 0 → Encodes (code_in p q k b xs) (symbols_of (symbol_size p) u) (symbols_of (symbol_size p) x))
      → (record { number = r; left = x } ≡ wide_encode_outcome (code_in p q k b ps) u page)
      × (r ≡ 0 → Encodes (code_in p q k b ps) (symbols_of (symbol_size p) u) (symbols_of (symbol_size p) x))
  encode_whole u page r x h = (h.0 ∙ encode_same u page, λ z. encodes_read p q k b xs ps e (symbols_of (symbol_size p) u) (symbols_of (symbol_size p) x) (h.1 z))

  pub syndrome_whole : (page s : List ℕ) → wide_syndrome_outcome (code_in p q k b xs) page s ≡ wide_syndrome_outcome (code_in p q k b ps) page s
  unfolding wide_syndrome_outcome
  syndrome_whole page s =
      ap (λ (o : Outcome (List ℕ)). in_byte_form (symbol_bytes (symbol_size p)) o s) (syndrome_read p q k b xs ps e (symbols_of (symbol_size p) page) (symbols_of (symbol_size p) s))

  pub open_whole : (page : List ℕ) (lent : State) → wide_open_outcome (code_in p q k b xs) page lent ≡ wide_open_outcome (code_in p q k b ps) page lent
  unfolding wide_open_outcome
  open_whole page lent =
      ap (λ (o : Outcome State). in_byte_form (state_written (symbol_size p)) o lent) (open-read p q k b xs ps e (symbols_of (symbol_size p) page) (state_read (symbol_size p) lent))

  pub explain_whole : (t j : ℕ) (read : State) (answer : List ℕ)
      → wide_explain_outcome (code_in p q k b xs) t j read answer ≡ wide_explain_outcome (code_in p q k b ps) t j read answer
  unfolding wide_explain_outcome
  explain_whole t j read answer = explain_read p q k b xs ps e t j (state_read (symbol_size p) read) answer
