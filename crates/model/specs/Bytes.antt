-- What the C calls read and write as bytes, low byte first: the positions of a table, the margins and the counts of a decode, the changes of a pass, the
-- answer of explain, and wide symbols.
use Rattle.std.specs.Prelude.{Bool, true, ◌&&◌, List, [], ◌∷◌, ◌++◌, ℕ, zero, suc, ◌+◌, ◌-◌, ◌*◌, ◌/◌, ◌%◌, eqb, ℤ, pos, negsuc, length, get_or, take, drop}
use Rattle.model.specs.Symbols.{choose, tabulate}
use Rattle.model.specs.Code.{Profile, byte_pages, bit_pages, wide16, wide32, Code, data_count}
use Rattle.model.specs.Outer.{outer_state, outer_counts}
use Rattle.model.specs.Decoder.{State, state_by, Counts, decoded_state, decoded_counts, margins_of}
use Rattle.model.specs.Calls.{Outcome, outcome, encode_outcome, syndrome_outcome, open_outcome, Decoded, WithCounters, counters_fit, Passed, state_fits, decode_fits, decode_answer, decode_outer_answer, pass_answer, passed_state, passed_changes, Explained, explained, explain_answer}

-- the two-byte number i of a byte string
abbrev pub position_at : List ℕ → ℕ → ℕ
position_at table i = get_or table (i + i) 0 + 256 * get_or table (i + i + 1) 0

-- "the table is a byte string, two bytes a position, low byte first; an odd length gets the same answer as a bad J":
-- a byte too many leaves no position
unfoldable pub positions_of : List ℕ → List ℕ
positions_of table = choose (eqb (length table % 2) 0) (tabulate (length table / 2) (position_at table)) []

-- the four bytes of a 32-bit number
abbrev pub word_of : ℕ → List ℕ
word_of n = n % 256 ∷ n / 256 % 256 ∷ n / 65536 % 256 ∷ n / 16777216 % 256 ∷ []

-- "the counts are written into 16 bytes as four 32-bit numbers, low byte first"
unfoldable pub bytes_of : Counts → List ℕ
bytes_of n = word_of n.passes ++ word_of n.changes ++ word_of n.start ++ word_of n.end

-- "negative numbers in two's complement": −1 is the largest 32-bit number
abbrev pub twos : ℤ → ℕ
twos (pos n) = n
twos (negsuc n) = 4294967295 - n

-- "one signed 32-bit number a symbol": four bytes each
unfoldable pub margin_bytes : List ℤ → List ℕ
margin_bytes [] = []
margin_bytes (m ∷ ms) = word_of (twos m) ++ margin_bytes ms

-- "counts 16 bytes, in the C form only": the C form of decode also lends the counts, and the margins are 4 bytes a data symbol; `others` as in
-- `decode_outcome`
unfoldable pub c_decode_outcome : Code → Bool → List ℕ → List ℕ → State → List ℕ → List ℕ → Outcome (Decoded (List ℕ) (List ℕ))
c_decode_outcome c others page thresholds lent margins counts =
    let st = decoded_state c thresholds page in
    outcome (decode_answer c ((others && (eqb (length margins) (4 * data_count c) && eqb (length counts) 16)) && decode_fits c page lent) page thresholds)
    (record { state = st; margins = margin_bytes (margins_of c st); counts = bytes_of (decoded_counts c thresholds page) })
    (record { state = lent; margins = margins; counts = counts })

-- the C form of decode with counters (N7)
unfoldable pub c_decode_counters_outcome : Code → List ℕ → List ℕ → State → List ℕ → List ℕ → List ℕ → WithCounters (Outcome (Decoded (List ℕ) (List ℕ)))
c_decode_counters_outcome c page thresholds lent margins counters counts =
    record { given = c_decode_outcome c (counters_fit counters) page thresholds lent margins counts; counters = counters }

-- the C form of decode in blocks of L (N8)
unfoldable pub c_decode_outer_outcome : Code → ℕ → List ℕ → List ℕ → State → List ℕ → List ℕ → Outcome (Decoded (List ℕ) (List ℕ))
c_decode_outer_outcome c L page thresholds lent margins counts =
    let st = outer_state c L thresholds page in
    outcome (decode_outer_answer c L ((eqb (length margins) (4 * data_count c) && eqb (length counts) 16) && decode_fits c page lent) page thresholds)
    (record { state = st; margins = margin_bytes (margins_of c st); counts = bytes_of (outer_counts c L thresholds page) })
    (record { state = lent; margins = margins; counts = counts })

-- the C form of a pass writes its changes into 4 lent bytes (N5)
unfoldable pub c_pass_outcome : Code → ℕ → State → List ℕ → Outcome (Passed (List ℕ))
c_pass_outcome c threshold lent changes =
    outcome (pass_answer c (eqb (length changes) 4 && state_fits c lent) threshold lent)
    (record { state = passed_state c threshold lent; changes = word_of (passed_changes c threshold lent) })
    (record { state = lent; changes = changes })

-- "answer 24 bytes": ground, h0, m0, m1, four bytes each, then the bits, eight bytes (N6)
unfoldable pub explained_bytes : Explained → List ℕ
explained_bytes e =
    word_of e.ground_number ++ word_of e.leader ++ word_of e.lead ++ word_of e.next ++ word_of (e.bits % 4294967296) ++ word_of (e.bits / 4294967296)

-- the C form of explain writes its answer into 24 lent bytes
unfoldable pub c_explain_outcome : Code → ℕ → ℕ → State → List ℕ → Outcome (List ℕ)
c_explain_outcome c threshold j read answer =
    outcome (explain_answer c (eqb (length answer) 24 && state_fits c read) threshold j read) (explained_bytes (explained c threshold j read)) answer

-- ---- wide symbols (N10)

-- the bytes of a symbol
abbrev pub symbol_size : Profile → ℕ
symbol_size byte_pages = 1
symbol_size bit_pages = 1
symbol_size wide16 = 2
symbol_size wide32 = 4

-- the number that bytes stand for, low byte first
unfoldable pub number_of : List ℕ → ℕ
number_of [] = 0
number_of (x ∷ xs) = x + 256 * number_of xs

-- the w bytes of a number
unfoldable pub bytes_in : ℕ → ℕ → List ℕ
bytes_in zero n = []
bytes_in (suc w) n = n % 256 ∷ bytes_in w (n / 256)

-- the symbols of w bytes each that a byte string stands for: a byte too many leaves none, so that the string has no length that a call needs
unfoldable pub symbols_of : ℕ → List ℕ → List ℕ
symbols_of w s = choose (eqb (length s % w) 0) (tabulate (length s / w) (λ i. number_of (take w (drop (i * w) s)))) []

-- and back
unfoldable pub symbol_bytes : ℕ → List ℕ → List ℕ
symbol_bytes w [] = []
symbol_bytes w (x ∷ xs) = bytes_in w x ++ symbol_bytes w xs

-- the same of the result, S and D
abbrev pub state_read : ℕ → State → State
state_read w st = state_by (symbols_of w st.result) (symbols_of w st.syndrome) (symbols_of w st.difference)

abbrev pub state_written : ℕ → State → State
state_written w st = state_by (symbol_bytes w st.result) (symbol_bytes w st.syndrome) (symbol_bytes w st.difference)

-- a call on symbols as the C call on their bytes: its number, and what it leaves as bytes; refused, the bytes as they were lent
unfoldable pub in_byte_form : {A B : Type 0} → (A → B) → Outcome A → B → Outcome B
in_byte_form as_bytes given lent = outcome given.number (as_bytes given.left) lent

-- the C forms for the symbols of a code's profile. Margins, counts, changes and the answer of explain are as in the forms above
unfoldable pub wide_encode_outcome : Code → List ℕ → List ℕ → Outcome (List ℕ)
wide_encode_outcome c u page = let w = symbol_size c.profile in in_byte_form (symbol_bytes w) (encode_outcome c (symbols_of w u) (symbols_of w page)) page

unfoldable pub wide_syndrome_outcome : Code → List ℕ → List ℕ → Outcome (List ℕ)
wide_syndrome_outcome c page s = let w = symbol_size c.profile in in_byte_form (symbol_bytes w) (syndrome_outcome c (symbols_of w page) (symbols_of w s)) s

unfoldable pub wide_decode_outcome : Code → List ℕ → List ℕ → State → List ℕ → List ℕ → Outcome (Decoded (List ℕ) (List ℕ))
wide_decode_outcome c page thresholds lent margins counts =
    let w = symbol_size c.profile in
    in_byte_form (λ d. record { state = state_written w d.state; margins = d.margins; counts = d.counts })
    (c_decode_outcome c true (symbols_of w page) thresholds (state_read w lent) margins counts)
    (record { state = lent; margins = margins; counts = counts })

unfoldable pub wide_open_outcome : Code → List ℕ → State → Outcome State
wide_open_outcome c page lent = let w = symbol_size c.profile in in_byte_form (state_written w) (open_outcome c (symbols_of w page) (state_read w lent)) lent

unfoldable pub wide_pass_outcome : Code → ℕ → State → List ℕ → Outcome (Passed (List ℕ))
wide_pass_outcome c threshold lent changes =
    let w = symbol_size c.profile in
    in_byte_form (λ p. record { state = state_written w p.state; changes = p.changes })
    (c_pass_outcome c threshold (state_read w lent) changes)
    (record { state = lent; changes = changes })

unfoldable pub wide_explain_outcome : Code → ℕ → ℕ → State → List ℕ → Outcome (List ℕ)
wide_explain_outcome c threshold j read answer = c_explain_outcome c threshold j (state_read (symbol_size c.profile) read) answer
