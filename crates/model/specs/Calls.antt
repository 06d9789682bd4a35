-- The calls: the number that each returns, and what it leaves in every lent buffer, from any values and any lists.
use Rattle.std.specs.Prelude.{Bool, true, not, ◌&&◌, List, [], ◌∷◌, ◌++◌, ℕ, suc, ◌+◌, ◌*◌, ◌%◌, eqb, ltb, leb, ℤ, length}
use Rattle.model.specs.Symbols.{choose}
use Rattle.model.specs.Code.{Code, lowest, highest, data_count, check_count, page_length, checks_each, checks_of, branch_at, code_word, syndrome, every_below, self_orthogonal}
use Rattle.model.specs.Vote.{leader, lead_count, next_count, ground_of, equal_bits}
use Rattle.model.specs.Outer.{outer_word, outer_state, outer_counts}
use Rattle.model.specs.Decoder.{State, Visit, estimates, after, change_count, pass, passes, data_symbols, opened, Counts, decoded_state, decoded_counts, margins_of}

-- ---- tests

-- a test: the number returned when it applies
pub record Test : Type 0 where
  pub number : ℕ
  pub applies : Bool

abbrev pub test : ℕ → Bool → Test
test n b = record { number = n; applies = b }

-- "Tests run in the order of the numbers, and the first that applies is returned."
unfoldable pub first_that_applies : List Test → ℕ
first_that_applies [] = 0
first_that_applies (t ∷ ts) = choose t.applies t.number (first_that_applies ts)

-- x from low to high
unfoldable pub within : ℕ → ℕ → ℕ → Bool
within low high x = leb low x && leb x high

-- each position is below k and above the one before it; the first may be `least` or more
unfoldable pub positions_fit : ℕ → ℕ → List ℕ → Bool
positions_fit k least [] = true
positions_fit k least (p ∷ ps) = ltb p k && (leb least p && positions_fit k (suc p) ps)

-- all of a list are below q
unfoldable pub all_below : ℕ → List ℕ → Bool
all_below q [] = true
all_below q (x ∷ xs) = ltb x q && all_below q xs

-- b from 1 to 8, and b times k at most 4,096
abbrev pub branches_fit : Code → Bool
branches_fit c = within 1 8 c.b && leb (data_count c) 4096

-- the table is b runs of equal length J, from 1 to 32
abbrev pub runs_fit : Code → Bool
runs_fit c = eqb (length c.positions) (c.b * checks_each c) && within 1 32 (checks_each c)

-- 1 to 3, by the table of quantities: q of the profile ("Here 1 refuses all but q = 2", N9), k from 1 to 4,096, J from 1 to 32;
-- "10, after 2: b outside 1 to 8, or b times k above 4,096. 3 also if the table isn't b runs of equal length." (N2)
unfoldable pub size_tests : Code → List Test
size_tests c =
    test 1 (not (within (lowest c.profile) (highest c.profile) c.q)) ∷ test 2 (not (within 1 4096 c.k)) ∷ test 10 (not (branches_fit c)) ∷ test 3 (not (runs_fit c)) ∷ []

-- the positions of each run are below k and ascend
abbrev pub table_fits : Code → Bool
table_fits c = every_below c.b (λ r. positions_fit c.k 0 (branch_at c r))

-- 1 to 5, which all calls have. 4: positions "strictly ascending, each below k"; 5: "the table isn't self-orthogonal"
unfoldable pub table_tests : Code → List Test
table_tests c = size_tests c ++ (test 4 (not (table_fits c)) ∷ test 5 (not (self_orthogonal c)) ∷ [])

-- 6: "a lent buffer is not exactly as long as the call needs", where `fits` says whether all of them are; 7: "a symbol of the input is q or more"
unfoldable pub page_tests : Code → Bool → List ℕ → List Test
page_tests c fits input = table_tests c ++ (test 6 (not fits) ∷ test 7 (not (all_below c.q input)) ∷ [])

-- 8: "no threshold, or more than 64"; 9: "a threshold above 32"
unfoldable pub threshold_tests : List ℕ → List Test
threshold_tests thresholds = test 8 (not (within 1 64 (length thresholds))) ∷ test 9 (not (all_below 33 thresholds)) ∷ []

-- 9 of a call with one threshold, which has no 8 (N5)
unfoldable pub threshold_test : ℕ → List Test
threshold_test threshold = test 9 (not (ltb threshold 33)) ∷ []

-- "12, after 9: L below 2, or L doesn't divide the number of data symbols" (N8)
unfoldable pub block_test : Code → ℕ → List Test
block_test c L = test 12 (not (leb 2 L && eqb (data_count c % L) 0)) ∷ []

-- ---- the lengths that a call needs: "Data, result, D and margins have b times k places, and a page has (b + 1) times k"; S has k

-- encode reads data and lends a page
abbrev pub encode_fits : Code → ℕ → ℕ → Bool
encode_fits c data_len page_len = eqb data_len (data_count c) && eqb page_len (page_length c)

-- syndrome reads a page and lends S
abbrev pub syndrome_fits : Code → ℕ → ℕ → Bool
syndrome_fits c page_len syndrome_len = eqb page_len (page_length c) && eqb syndrome_len (check_count c)

-- the result, S and D
abbrev pub state_fits : Code → State → Bool
state_fits c lent =
    eqb (length lent.result) (data_count c) && (eqb (length lent.syndrome) (check_count c) && eqb (length lent.difference) (data_count c))

-- decode reads a page and lends the result, S and D
abbrev pub decode_fits : Code → List ℕ → State → Bool
decode_fits c page lent = eqb (length page) (page_length c) && state_fits c lent

-- "256 lent one-byte counters, all zero before"; "6 also covers counters that aren't 256 long and zero" (N7)
unfoldable pub counters_fit : List ℕ → Bool
counters_fit counters = eqb (length counters) 256 && all_below 1 counters

-- ---- the numbers

unfoldable pub table_answer : Code → ℕ
table_answer c = first_that_applies (table_tests c)

abbrev pub encode_tests : Code → List ℕ → ℕ → List Test
encode_tests c u page_len = page_tests c (encode_fits c (length u) page_len) u

unfoldable pub encode_answer : Code → List ℕ → ℕ → ℕ
encode_answer c u page_len = first_that_applies (encode_tests c u page_len)

-- encode and decode in blocks of L have their tests, and then 12 (N8)
unfoldable pub encode_outer_answer : Code → ℕ → List ℕ → ℕ → ℕ
encode_outer_answer c L u page_len = first_that_applies (encode_tests c u page_len ++ block_test c L)

unfoldable pub syndrome_answer : Code → List ℕ → ℕ → ℕ
syndrome_answer c page syndrome_len = first_that_applies (page_tests c (syndrome_fits c (length page) syndrome_len) page)

-- decode also reads thresholds
abbrev pub decode_tests : Code → Bool → List ℕ → List ℕ → List Test
decode_tests c fits page thresholds = page_tests c fits page ++ threshold_tests thresholds

unfoldable pub decode_answer : Code → Bool → List ℕ → List ℕ → ℕ
decode_answer c fits page thresholds = first_that_applies (decode_tests c fits page thresholds)

unfoldable pub decode_outer_answer : Code → ℕ → Bool → List ℕ → List ℕ → ℕ
decode_outer_answer c L fits page thresholds = first_that_applies (decode_tests c fits page thresholds ++ block_test c L)

-- open reads a page and lends the result, S and D: decode's tests without those of thresholds (N5)
unfoldable pub open_answer : Code → List ℕ → State → ℕ
open_answer c page lent = first_that_applies (page_tests c (decode_fits c page lent) page)

-- the symbols of the result, S and D
abbrev pub state_symbols : State → List ℕ
state_symbols st = st.result ++ (st.syndrome ++ st.difference)

-- a pass reads and lends the result, S and D: "A pass gives 7 for any out-of-range symbol in the three buffers, and 9 for its threshold." (N5)
unfoldable pub pass_tests : Code → Bool → ℕ → State → List Test
pass_tests c fits threshold lent = page_tests c fits (state_symbols lent) ++ threshold_test threshold

unfoldable pub pass_answer : Code → Bool → ℕ → State → ℕ
pass_answer c fits threshold lent = first_that_applies (pass_tests c fits threshold lent)

-- explain has a pass's tests, and "11, after all others: the symbol number is not below the number of data symbols" (N6)
unfoldable pub explain_answer : Code → Bool → ℕ → ℕ → State → ℕ
explain_answer c fits threshold j read = first_that_applies (pass_tests c fits threshold read ++ (test 11 (not (ltb j (data_count c))) ∷ []))

-- ---- what each call leaves

-- a call's number, and all that it hands back beside it or leaves in lent buffers
pub record Outcome (A : Type 0) : Type 0 where
  pub number : ℕ
  pub left : A

-- "A refused call alters no lent memory": of a call whose number is n, `done` where n is 0, and what was lent where not
unfoldable pub outcome : {A : Type 0} → ℕ → A → A → Outcome A
outcome n done lent = record { number = n; left = choose (eqb n 0) done lent }

-- "Encoding writes the whole page."
unfoldable pub encode_outcome : Code → List ℕ → List ℕ → Outcome (List ℕ)
encode_outcome c u page = outcome (encode_answer c u (length page)) (code_word c u) page

-- in blocks of L: "the page gets there the symbol that makes the block sum to 0, which the checks then count" (N8)
unfoldable pub encode_outer_outcome : Code → ℕ → List ℕ → List ℕ → Outcome (List ℕ)
encode_outer_outcome c L u page = outcome (encode_outer_answer c L u (length page)) (code_word c (outer_word c L u)) page

-- "The syndrome call writes S."
unfoldable pub syndrome_outcome : Code → List ℕ → List ℕ → Outcome (List ℕ)
syndrome_outcome c page s = outcome (syndrome_answer c page (length s)) (syndrome c page) s

-- decode's three buffers, its margins and its counts, as numbers or as bytes
pub record Decoded (M C : Type 0) : Type 0 where
  pub state : State
  pub margins : M
  pub counts : C

-- "refused, its Rattle form returns four zeros beside the number"
abbrev pub no_counts : Counts
no_counts = record { passes = 0; changes = 0; start = 0; end = 0 }

-- "Afterwards the lent buffers hold the result, S and D"; "Decode fills one more lent buffer from the S and D it hands back";
-- 6 covers a margin buffer that isn't b times k long; `others` says whether the buffers that only another form of the call lends fit
unfoldable pub decode_outcome : Code → Bool → List ℕ → List ℕ → State → List ℤ → Outcome (Decoded (List ℤ) Counts)
decode_outcome c others page thresholds lent margins =
    let st = decoded_state c thresholds page in
    outcome (decode_answer c ((others && eqb (length margins) (data_count c)) && decode_fits c page lent) page thresholds)
    (record { state = st; margins = margins_of c st; counts = decoded_counts c thresholds page })
    (record { state = lent; margins = margins; counts = no_counts })

-- in blocks of L, after the outer steps; so are the margins (N8)
unfoldable pub decode_outer_outcome : Code → ℕ → List ℕ → List ℕ → State → List ℤ → Outcome (Decoded (List ℤ) Counts)
decode_outer_outcome c L page thresholds lent margins =
    let st = outer_state c L thresholds page in
    outcome (decode_outer_answer c L (eqb (length margins) (data_count c) && decode_fits c page lent) page thresholds)
    (record { state = st; margins = margins_of c st; counts = outer_counts c L thresholds page })
    (record { state = lent; margins = margins; counts = no_counts })

-- what decode with counters gives, and what the counters hold afterwards
pub record WithCounters (A : Type 0) : Type 0 where
  pub given : A
  pub counters : List ℕ

-- "so decode with counters gives what decode gives"; the counters are "all zero before and after", and where they are not zero before, the call
-- is refused and leaves them (N7)
unfoldable pub decode_counters_outcome : Code → List ℕ → List ℕ → State → List ℤ → List ℕ → WithCounters (Outcome (Decoded (List ℤ) Counts))
decode_counters_outcome c page thresholds lent margins counters =
    record { given = decode_outcome c (counters_fit counters) page thresholds lent margins; counters = counters }

-- "Let one call open a page, filling result, S and D" (N5)
unfoldable pub open_outcome : Code → List ℕ → State → Outcome State
open_outcome c page lent = outcome (open_answer c page lent) (opened c page) lent

-- a pass's three buffers and its changes, as a number or as bytes
pub record Passed (N : Type 0) : Type 0 where
  pub state : State
  pub changes : N

-- "and another run one pass with one threshold on those buffers and hand back its number of changes" (N5): what it leaves in them, and its changes
abbrev pub passed_state : Code → ℕ → State → State
passed_state c threshold st = after c.q (checks_of c) (pass (data_symbols c) threshold) st

abbrev pub passed_changes : Code → ℕ → State → ℕ
passed_changes c threshold st = change_count c.q (checks_of c) (pass (data_symbols c) threshold) st

-- `others` says whether the buffers that only one form of the call lends fit; refused, its Rattle form returns no change beside the number
unfoldable pub pass_outcome : Code → Bool → ℕ → State → Outcome (Passed ℕ)
pass_outcome c others threshold lent =
    outcome (pass_answer c (others && state_fits c lent) threshold lent)
    (record { state = passed_state c threshold lent; changes = passed_changes c threshold lent })
    (record { state = lent; changes = 0 })

-- ---- lists of passes, each called for itself (N5)

-- a call of a pass: its threshold, and whether all its buffers fit
pub record PassCall : Type 0 where
  pub threshold : ℕ
  pub fits : Bool

-- a call whose buffers fit
abbrev pub fitting : ℕ → PassCall
fitting t = record { threshold = t; fits = true }

-- what a call gives on the buffers as it finds them
abbrev pub called : Code → PassCall → State → Outcome (Passed ℕ)
called c p st = pass_outcome c p.fits p.threshold st

-- "Each pass gets what the last one left": what a list of calls leaves in the buffers, "refused ones included",
unfoldable pub after_calls : Code → List PassCall → State → State
after_calls c [] st = st
after_calls c (p ∷ ps) st = after_calls c ps (called c p st).left.state

-- the changes that they hand back, added,
unfoldable pub call_changes : Code → List PassCall → State → ℕ
call_changes c [] st = 0
call_changes c (p ∷ ps) st = (called c p st).left.changes + call_changes c ps (called c p st).left.state

-- and the thresholds of "the passes of the list that were not refused", which are those whose number is 0
unfoldable pub not_refused : Code → List PassCall → State → List ℕ
not_refused c [] st = []
not_refused c (p ∷ ps) st =
    let later = not_refused c ps (called c p st).left.state in
    choose (eqb (called c p st).number 0) (p.threshold ∷ later) later

-- "the visits of the list are then the run, and a refused pass makes none"
abbrev pub call_run : Code → List PassCall → State → List Visit
call_run c ps st = passes (data_symbols c) (not_refused c ps st)

-- ---- why a symbol is left (N6)

-- the ground, h0, m0 and m1, and the bits of the estimates that equal h0
pub record Explained : Type 0 where
  pub ground_number : ℕ
  pub leader : ℕ
  pub lead : ℕ
  pub next : ℕ
  pub bits : ℕ

-- "the tool names one of three grounds"; "It gives h0, m0 and m1, and, as bits from the lowest, which estimates equal h0, d(j) first, then by
-- table order": of data symbol j, from S and D
unfoldable pub explained : Code → ℕ → ℕ → State → Explained
explained c threshold j st =
    let es = estimates (checks_of c j) j st in
    record { ground_number = ground_of threshold es; leader = leader es; lead = lead_count es; next = next_count es; bits = equal_bits es (leader es) }

-- refused, the Rattle form returns zeros beside the number
abbrev pub not_explained : Explained
not_explained = record { ground_number = 0; leader = 0; lead = 0; next = 0; bits = 0 }

-- explain only reads the result, S and D ("Nothing is altered"); `others` says whether the buffers that only one form of the call lends fit
unfoldable pub explain_outcome : Code → Bool → ℕ → ℕ → State → Outcome Explained
explain_outcome c others threshold j read =
    outcome (explain_answer c (others && state_fits c read) threshold j read) (explained c threshold j read) not_explained
