-- The decoder's steps: visit, pass, run, and what decoding a page gives.
-- A step depends on the code by q and by the checks of each data symbol alone, which are its first parameters.
use Rattle.std.specs.Prelude.{Bool, true, not, ◌&&◌, List, [], ◌∷◌, ◌++◌, map, ℕ, ◌+◌, ◌-◌, eqb, ltb, ℤ, length, get_or, set}
use Rattle.model.specs.Symbols.{choose, bit, sub, weight, distance, tabulate, symbols_at, subtract_at}
use Rattle.model.specs.Vote.{leader, lead_count, next_count, margin}
use Rattle.model.specs.Code.{Code, data_count, checks_of, code_word, syndrome, data_of}

-- the result, S ("the syndrome") and D ("the difference")
pub record State : Type 0 where
  pub result : List ℕ
  pub syndrome : List ℕ
  pub difference : List ℕ

abbrev pub state_by : List ℕ → List ℕ → List ℕ → State
state_by r s d = record { result = r; syndrome = s; difference = d }

-- a visit to a data symbol, with its pass's threshold
pub record Visit : Type 0 where
  pub symbol : ℕ
  pub threshold : ℕ

-- "A visit to j collects J + 1 estimates: d(j) and s at each check of j."
unfoldable pub estimates : List ℕ → ℕ → State → List ℕ
estimates checks j st = get_or st.difference j 0 ∷ symbols_at st.syndrome checks

-- "If m0 − m1 is greater than T and h0 is not 0"
unfoldable pub is_change : ℕ → List ℕ → Bool
is_change t es = ltb t (lead_count es - next_count es) && not (eqb (leader es) 0)

-- "then h0 is subtracted from result symbol j, from d(j), and from s at each of j's checks. This is a change."
unfoldable pub change : ℕ → List ℕ → ℕ → ℕ → State → State
change q checks j h st = record {
  result = set st.result j (sub q (get_or st.result j 0) h);
  syndrome = subtract_at q h checks st.syndrome;
  difference = set st.difference j (sub q (get_or st.difference j 0) h);
}

-- whether a visit is a change
unfoldable pub changes : (ℕ → List ℕ) → Visit → State → Bool
changes checks v st = is_change v.threshold (estimates (checks v.symbol) v.symbol st)

-- "Otherwise the visit alters nothing."
unfoldable pub visit : ℕ → (ℕ → List ℕ) → Visit → State → State
visit q checks v st =
    choose (changes checks v st) (change q (checks v.symbol) v.symbol (leader (estimates (checks v.symbol) v.symbol st)) st) st

-- "Each visit gets those three as the one before it left them": what a list of visits leaves
unfoldable pub after : ℕ → (ℕ → List ℕ) → List Visit → State → State
after q checks [] st = st
after q checks (v ∷ vs) st = after q checks vs (visit q checks v st)

-- the number of changes among a list of visits
unfoldable pub change_count : ℕ → (ℕ → List ℕ) → List Visit → State → ℕ
change_count q checks [] st = 0
change_count q checks (v ∷ vs) st = bit (changes checks v st) + change_count q checks vs (visit q checks v st)

-- "A pass visits data symbols .. in that order, with one threshold T": the visits of a pass over a list of data symbols
unfoldable pub pass : List ℕ → ℕ → List Visit
pass [] t = []
pass (j ∷ js) t = record { symbol = j; threshold = t } ∷ pass js t

-- the visits of passes with a list of thresholds, one a pass
unfoldable pub passes : List ℕ → List ℕ → List Visit
passes js [] = []
passes js (t ∷ ts) = pass js t ++ passes js ts

-- ---- the passes that are run, of a list of thresholds

-- whether a pass "changes nothing"
abbrev pub is_idle : ℕ → (ℕ → List ℕ) → List ℕ → ℕ → State → Bool
is_idle q checks js t st = eqb (change_count q checks (pass js t) st) 0

-- what the threshold of a pass must be below
pub data Limit : Type 0 where
  none : Limit
  under : (t : ℕ) → Limit

-- whether it lets a pass with threshold t run
unfoldable pub allows : Limit → ℕ → Bool
allows none t = true
allows (under n) t = ltb t n

-- "Passes take the thresholds in order", and "an idle pass is followed by the first later one in the list whose threshold is smaller; if there is
-- none, decoding stops. Skipped passes aren't counted." (N4): the thresholds of the passes that are run, idle ones included.
-- A threshold that the limit does not allow is skipped. An idle pass limits what follows to smaller thresholds, any other pass sets no limit
unfoldable pub thresholds_run : ℕ → (ℕ → List ℕ) → List ℕ → Limit → List ℕ → State → List ℕ
thresholds_run q checks js limit [] st = []
thresholds_run q checks js limit (t ∷ ts) st =
    let next = choose (is_idle q checks js t st) (under t) none in
    let later = thresholds_run q checks js next ts (after q checks (pass js t) st) in
    let skipped = thresholds_run q checks js limit ts st in
    choose (allows limit t) (t ∷ later) skipped

-- "the first later one in the list whose threshold is smaller": the list from the first threshold below t on (N4)
unfoldable pub first_smaller : ℕ → List ℕ → List ℕ
first_smaller t [] = []
first_smaller t (u ∷ us) = choose (ltb u t) (u ∷ us) (first_smaller t us)

-- ---- decoding a page

-- "data symbols 0, 1, .. in that order", and so "the branches in turn" (N2)
abbrev pub data_symbols : Code → List ℕ
data_symbols c = tabulate (data_count c) (λ j. j)

-- the state at the start: "The result starts as the received data", S is the syndrome, D is "all 0 at first"
unfoldable pub opened : Code → List ℕ → State
opened c page = record { result = data_of c page; syndrome = syndrome c page; difference = tabulate (data_count c) (λ j. 0) }

-- the thresholds of the passes that decoding a page runs
unfoldable pub passes_of : Code → List ℕ → List ℕ → List ℕ
passes_of c thresholds page = thresholds_run c.q (checks_of c) (data_symbols c) none thresholds (opened c page)

-- "The run of a decode .. is the list of all its visits, those that alter nothing included"
unfoldable pub run : Code → List ℕ → List ℕ → List Visit
run c thresholds page = passes (data_symbols c) (passes_of c thresholds page)

-- the number of nonzero symbols of D and S together
unfoldable pub state_weight : State → ℕ
state_weight st = weight st.difference + weight st.syndrome

-- "This distance is defined by that comparison of two pages": the code word of the result against the received page
unfoldable pub distance_to : Code → List ℕ → State → ℕ
distance_to c page st = distance (code_word c st.result) page

-- "Decoding reports four counts: passes run (the last, idle one included), changes, distance at the start, distance at the end."
pub record Counts : Type 0 where
  pub passes : ℕ
  pub changes : ℕ
  pub start : ℕ
  pub end : ℕ

-- what decoding hands back: what the run leaves, and the counts
unfoldable pub decoded_state : Code → List ℕ → List ℕ → State
decoded_state c thresholds page = after c.q (checks_of c) (run c thresholds page) (opened c page)

unfoldable pub decoded_counts : Code → List ℕ → List ℕ → Counts
decoded_counts c thresholds page = record {
  passes = length (passes_of c thresholds page);
  changes = change_count c.q (checks_of c) (run c thresholds page) (opened c page);
  start = distance_to c page (opened c page);
  end = distance_to c page (decoded_state c thresholds page);
}

-- "For each data symbol we want its margin": from S and D of a state (N1)
unfoldable pub margins_of : Code → State → List ℤ
margins_of c st = map (λ j. margin (estimates (checks_of c j) j st)) (data_symbols c)
