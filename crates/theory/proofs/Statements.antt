-- The statements that a reviewer reads. Their proofs stand in the other files.
use Rattle.std.specs.Prelude.{◌≡◌, refl, ◌≢◌, ◌↔◌, Bool, true, false, not, ◌&&◌, eqb, ltb, ℤ, pos, neg_ℤ, ◌-ℤ◌, get_or, take, drop, ◌≤ℤ◌}
use Rattle.std.proofs.Math.Path.{ap}
use Rattle.std.proofs.Common.{sym, ◌∙◌, subst, mod-eq_of_lt}
use mathlib.Core.List.{List, [], ◌∷◌, ◌++◌, map}
use Prim.Native.Nat.{ℕ, suc, ◌+◌, ◌-◌, ◌*◌, ◌/◌, ◌%◌, ◌^◌, ◌≤◌, ◌<◌}
use Rattle.std.proofs.Math.Nat.{mul-le-mul_left}
use native.Mathlib.Omega.{arith}
use Rattle.std.specs.Int.Bits.{bit_xor}
use Rattle.std.specs.Int.Count.{ones}
use Rattle.std.proofs.Math.ListN.{length}
use Rattle.std.proofs.lemmas.List.{length-map}
use Rattle.model.specs.Bytes.{word_of, c_decode_outcome, c_decode_counters_outcome, c_pass_outcome, symbols_of, symbol_bytes}
use Rattle.model.specs.Calls.{Test, test, first_that_applies, within, table_tests, page_tests, threshold_tests, threshold_test, state_symbols, explained, counters_fit, state_fits, decode_fits, table_answer, encode_outer_answer, decode_answer, decode_outer_answer, open_answer, pass_answer, explain_answer, outcome, decode_outcome, decode_counters_outcome, open_outcome, Passed, passed_state, passed_changes, pass_outcome, PassCall, fitting, called, after_calls, call_changes, not_refused, call_run}
use Rattle.model.specs.Code.{Profile, lowest, highest, Code, code_of, data_count, check_count, page_length, checks_each, checks_by, checks_of, check_sum_by, check_symbol, check_symbols, code_word, syndrome, data_of, received_checks, SelfOrthogonal, differences_by, differences, all_different}
use Rattle.model.specs.Decoder.{State, Visit, estimates, is_change, change, changes, visit, after, change_count, passes, data_symbols, opened, passes_of, run, distance_to, Counts, decoded_state, decoded_counts, margins_of, pass, is_idle, none, thresholds_run, first_smaller, state_weight}
use Rattle.model.specs.Demand.{VisitFalls, Falls, RunFalls, DecodeFalls, PassFalls, Encodes, Recovers, DecodeRecovers, smallest, EncodesOuter, OuterFalls, OuterRecovers}
use Rattle.model.specs.Files.{count_of, read_answer, read_outcome, Listing, page_count, file_of, write_answer, write_outcome, Writable, ReadsBack, KeepsRest}
use Rattle.model.specs.Limits.{TableLimits, Limits}
use Rattle.model.specs.Outer.{block_sum, block_count, outer_word, reliability_of, least_below, weakest, is_step, outer_steps, step_count, outer_state, outer_counts}
use Rattle.model.specs.Symbols.{choose, add, sub, same, count, tabulate, add_each, sub_each, Below}
use Rattle.model.specs.Vote.{leader, lead_count, next_count, votes, votes_read, counted, margin, ground_of, equal_bits, gathered, zeros_in, ones_decide, bit_votes}
use Rattle.theory.specs.Answers.{table_accepted, table_accepts, table_usable, Opens, Taken, decode_taken, decode_opens, open_taken, pass_taken, explain_takes, explain_taken, BlockFits, encode_outer_taken, encode_symbols, encode_takes, encoded_data, decode_outer_taken}
use Rattle.theory.specs.BitVote.{add-bits, sub_bits, turned_over}
use Rattle.theory.specs.BlockSums.{sum_before, sum_made, sum_left}
use Rattle.theory.specs.Branches.{orthogonal_differences}
use Rattle.theory.specs.Codes.{Usable, code_incidence, check-symbol, check-symbols}
use Rattle.theory.specs.Counters.{length_counted, counted-at, votes_counted}
use Rattle.theory.specs.Counting.{eqb_yes, eqb_no, All, length_symbols_at, count_misses}
use Rattle.theory.specs.Decoding.{OnPage, on_distance, code_on, code_falls, code_received, code_opened_sized, code_sized, code_distance, code_idle, code_minima}
use Rattle.theory.specs.Distance.{length_tabulate, tabulate_ext}
use Rattle.theory.specs.Explaining.{Ground, ground_is, bits_at, bits_ones, bits_below}
use Rattle.theory.specs.Falling.{InRange, visit_no, visit_yes, weight_falls, unchanged, falls_spent, changes_spent, falls_at}
use Rattle.theory.specs.Integers.{Least}
use Rattle.theory.specs.Margins.{margin_behind, other_zero, margin_stays, margin-at}
use Rattle.theory.specs.Modulo.{sub_lt, sub_add, sub_two_cases}
use Rattle.theory.specs.Moments.{result_is, syndrome_is, changes_few, weight_few}
use Rattle.theory.specs.OneBranch.{first_tests, data_all, run_all, checks_all, check_all, syndrome_all, differences_all, answer_all, answers_all}
use Rattle.theory.specs.OuterCheck.{zero_no_step, one_no_step, no_steps, weakest_least, steps_on, steps_few, outer_other, outer_symbols, outer_keeps}
use Rattle.theory.specs.PassCalls.{calls_made, taken_of, calls_taken, taken_all, all_small}
use Rattle.theory.specs.Profiles.{in_profile, later_tests, word_in, syndrome-in, opened_in, decoded_in, counts_in, margins_in, passed_in, changes_in, explained_in, table_in, no_one, page_later, decode_later, pass_later, explain_later, wraps}
use Rattle.theory.specs.Runs.{range_pass, range_passes, symbols_range, symbols_visited}
use Rattle.theory.specs.Schedule.{smallest_in, smallest_least, runs_few, runs_of, followed, minima}
use Rattle.theory.specs.Steps.{check_sum, SymbolsBelow, Sized}
use Rattle.theory.specs.Tables.{orthogonal_test}
use Rattle.theory.specs.Voting.{leader_ahead, lead_max, next_max, next_least, leader_mem}
use Rattle.theory.specs.WideBytes.{bytes_of_symbols, symbols_below, fits_bytes}
use Rattle.theory.specs.WideCalls.{Wide}
use Rattle.theory.specs.Words.{word_distance, word_syndrome, word_encoded}
use Rattle.theory.proofs.BitVote.{word_ones, word_zeros, vote_bits, change_bits, margin_bits, equal-bits, visit_bits, visit_zeros}
use Rattle.theory.proofs.Files.{readable_writable, reads_back, listing_unique, rest_kept, found_inside, read_some, write_some}
use Rattle.theory.proofs.Margins.{margin_low, margin_high, margin_top, margin_bottom}
use Rattle.theory.proofs.OuterCheck.{clean_no_step, step_adds}
use Rattle.theory.proofs.Recovery.{code_recovers}
use Rattle.theory.proofs.Schedule.{smallest_run}
use Rattle.theory.proofs.WideBytes.{symbols_back}

-- ---- 1. symbols, the table check and the code

-- N3: "a − b where b is at most a (no borrow), a + q − b otherwise (one borrow of q). For every q and any two symbols below q it still gives the
-- difference modulo q", which is a symbol, and the one that added to b gives a.
pub record TwoCases (q a b : ℕ) : Type 0 where
  pub no_borrow : b ≤ a → a - b ≡ sub q a b
  pub borrow : a < b → a + q - b ≡ sub q a b
  pub symbol : sub q a b < q
  pub back : add q (sub q a b) b ≡ a

pub two_cases : (q a b : ℕ) → a < q → b < q → TwoCases q a b
unfolding add
two_cases q a b ha hb =
    let some : 0 < q = omega arith in
    let cases = sub_two_cases q a b ha hb in
    record {
      no_borrow = (λ h. sym (cases.0 h));
      borrow = (λ h. sym (cases.1 h));
      symbol = sub_lt q some a b;
      back = sub_add q some a b (omega arith) ∙ mod-eq_of_lt ha;
    }

-- The table check answers 0 if and only if the limits hold and any two different data symbols share at most one check.
pub accepted : (c : Code) → (table_answer c ≡ 0) ↔ (Limits c × SelfOrthogonal c)
accepted c = (
  λ e. ((table_accepted c e).0, (orthogonal_test c).0 (table_accepted c e).1),
  λ p. table_accepts c p.0 ((orthogonal_test c).1 p.1),
)

-- Within the limits that is equal to all (a − b) mod k being different, over ordered pairs of different positions of one run, over all runs together.
pub by_differences : (c : Code) → TableLimits c → SelfOrthogonal c ↔ (all_different (differences c) ≡ true)
by_differences c l = orthogonal_differences c l

-- A check, by positions, is the sum over the data symbols that have it among their checks.
pub check-sum : (c : Code) → TableLimits c → (u : List ℕ) (i : ℕ) → i < check_count c → check_symbol c u i ≡ check_sum (data_count c) (checks_of c) u i % c.q
check-sum c l u i h = check-symbol c l u i h

-- Of an accepted table nothing is empty, neither the table nor data, checks and page, so a call that is lent an empty piece of memory is refused.
pub none_empty : (c : Code) → table_answer c ≡ 0 → (0 < length c.positions) × (0 < data_count c) × (0 < check_count c) × (0 < page_length c)
none_empty c e =
    let n = (table_accepted c e).0.table.sizes in
    let some : 0 < data_count c = omega (arith, n.b_low, mul-le-mul_left c.b n.k_low) in
    (omega (arith, n.b_low, n.runs, mul-le-mul_left c.b n.J-low), some, n.k_low, omega arith)

-- A code of one branch is the code of document 01 (N2: "b = 1 gives the old answers"): k data symbols and k checks, J the number of positions in the
-- table, data symbol j in the checks (j + p) mod k, check i the sum of u((i − p) mod k) over all positions p; so the code word and the syndrome, with
-- the first k symbols of a page its data; the differences those of all ordered pairs of different positions; and the tests of a table are tests 1 to 5
-- of document 01, in the table check and before the tests that another call has (`later`). The rest follows, since all other definitions of `model`
-- know the code only through q, these sizes, checks, code words, data, syndromes and tests.
pub record AsBefore (q k : ℕ) (ps : List ℕ) : Type 0 where
  pub data-count : data_count (code_of q k 1 ps) ≡ k
  pub check-count : check_count (code_of q k 1 ps) ≡ k
  pub page-length : page_length (code_of q k 1 ps) ≡ k + k
  pub each : checks_each (code_of q k 1 ps) ≡ length ps
  pub checks : (j : ℕ) → j < k → checks_of (code_of q k 1 ps) j ≡ checks_by k ps j
  pub symbols : (u : List ℕ) (i : ℕ) → check_symbol (code_of q k 1 ps) u i ≡ check_sum_by k ps u i % q
  pub word : (u : List ℕ) → code_word (code_of q k 1 ps) u ≡ u ++ tabulate k (λ i. check_sum_by k ps u i % q)
  pub data-of : (page : List ℕ) → data_of (code_of q k 1 ps) page ≡ take k page
  pub syndrome-of : (page : List ℕ) → syndrome (code_of q k 1 ps) page ≡ tabulate k (λ i. sub q (check_sum_by k ps (take k page) i % q) (get_or (drop k page) i 0))
  pub differences_are : differences (code_of q k 1 ps) ≡ differences_by k ps ps
  pub answer : table_answer (code_of q k 1 ps) ≡ first_that_applies (first_tests (code_of q k 1 ps))
  pub answers : (later : List Test) → first_that_applies (table_tests (code_of q k 1 ps) ++ later) ≡ first_that_applies (first_tests (code_of q k 1 ps) ++ later)

pub one-branch : (q k : ℕ) (ps : List ℕ) → 1 ≤ k → AsBefore q k ps
unfolding code_word check_symbols
one-branch q k ps h = record {
  data-count = data_all q k ps;
  check-count = refl;
  page-length = omega (arith, data_all q k ps);
  each = run_all q k ps;
  checks = checks_all q k ps;
  symbols = check_all q k ps h;
  word = (λ u. ap (λ (v : List ℕ). u ++ v) (tabulate_ext k _ _ (λ i l. check_all q k ps h u i)));
  data-of = (λ page. ap (λ (n : ℕ). take n page) (data_all q k ps));
  syndrome-of = syndrome_all q k ps h;
  differences_are = differences_all q k ps;
  answer = answer_all q k ps;
  answers = answers_all q k ps;
}

-- ---- 2. lists of visits from an opened page

-- an accepted table and a page of symbols, whole
abbrev pub Received : Code → List ℕ → Type 0
Received c page = (table_answer c ≡ 0) × SymbolsBelow c.q (page_length c) page

-- Demand 3, first half: any visits of data symbols, with any thresholds, in any order, fall, and their total is at most the distance at the start.
pub visits_fall : (c : Code) (page : List ℕ) → Received c page → (visits : List Visit) → InRange (data_count c) visits → RunFalls c page visits
visits_fall c page w vs r = code_falls c (table_usable c w.0) page w.1 vs r

-- Any one of them, from the state that those before it leave.
pub visit_falls : (c : Code) (page : List ℕ) (visits : List Visit) → RunFalls c page visits → (vs : List Visit) (v : Visit) (ws : List Visit)
    → visits ≡ vs ++ v ∷ ws → VisitFalls c.q (checks_of c) (distance_to c page) v (after c.q (checks_of c) vs (opened c page))
visit_falls c page us f vs v ws split =
    falls_at c.q (checks_of c) (distance_to c page) vs v ws (opened c page)
    (subst (λ (l : List Visit). Falls c.q (checks_of c) (distance_to c page) l (opened c page)) split f.falls)

-- Demand 3, second half: after any passes over data symbols that leave none out, one of them with threshold h, the result is the data sent
-- where 2t + h is at most J.
pub passes_recover : (c : Code) (page : List ℕ) → Received c page → (symbols : List ℕ) → All (λ j. j < data_count c) symbols
    → ((j : ℕ) → j < data_count c → 0 < count j symbols) → (thresholds : List ℕ) (h : ℕ) → 0 < count h thresholds
    → Recovers c h page (after c.q (checks_of c) (passes symbols thresholds) (opened c page)).result
passes_recover c page w js a all ts h n = code_recovers c (table_usable c w.0) page w.1 js a all ts h n

-- At every moment, which is after any visits, and after the outer steps of any blocks (outer_moment), result = received data + D, S = the code word's
-- checks − the received checks, and the distance is the number of nonzero symbols of S and D.
pub record Moment (c : Code) (page : List ℕ) (st : State) : Type 0 where
  pub result_of : st.result ≡ add_each c.q (data_of c page) st.difference
  pub syndrome-of : st.syndrome ≡ sub_each c.q (check_symbols c st.result) (received_checks c page)
  pub distance_of : distance_to c page st ≡ state_weight st

moment_on : (c : Code) → Usable c → (page : List ℕ) → SymbolsBelow c.q (page_length c) page → (st : State) → OnPage c page st → Moment c page st
moment_on c l page whole st p =
    let got = code_received c l page whole in
    let some = (code_incidence c l).pos in
    record {
      result_of = result_is some got st p.sized p.tied;
      syndrome-of = syndrome_is some got st p.sized p.tied
          ∙ ap (λ (v : List ℕ). sub_each c.q v (received_checks c page)) (sym (check-symbols c l.table st.result));
      distance_of = on_distance c l page whole st p;
    }

pub every_moment : (c : Code) (page : List ℕ) → Received c page → (visits : List Visit) → InRange (data_count c) visits
    → Moment c page (after c.q (checks_of c) visits (opened c page))
every_moment c page w vs r =
    let l = table_usable c w.0 in
    moment_on c l page w.1 (after c.q (checks_of c) vs (opened c page)) (code_on c l page w.1 vs r)

-- A received page is the code word of its data if and only if all symbols of its syndrome are 0; and if and only if it is at distance 0 at the
-- start; and if and only if it is a page that encode writes, of any data.
pub record WordMeans (c : Code) (page : List ℕ) : Type 0 where
  pub syndrome_zero : All (λ s. s ≡ 0) (syndrome c page) ↔ (page ≡ code_word c (data_of c page))
  pub distance_zero : (distance_to c page (opened c page) ≡ 0) ↔ (page ≡ code_word c (data_of c page))
  pub encoded : (page ≡ code_word c (data_of c page)) ↔ ((u : List ℕ) × Encodes c u page)

pub word_means : (c : Code) (page : List ℕ) → Received c page → WordMeans c page
word_means c page w =
    let l = table_usable c w.0 in
    record {
      syndrome_zero = word_syndrome c l page w.1;
      distance_zero = word_distance c l page w.1;
      encoded = word_encoded c l page w.1 w.0;
    }

-- On any state of symbols below q, of an accepted table: every visit of a list lowers the nonzero symbols of S and D together likewise.
pub weight_falls_on : (c : Code) → table_answer c ≡ 0 → (st : State) → Sized c.q (data_count c) (check_count c) st → (visits : List Visit)
    → InRange (data_count c) visits → Falls c.q (checks_of c) state_weight visits st
weight_falls_on c e st z vs r = weight_falls (code_incidence c (table_usable c e)) vs r st z

-- ---- 3. decode, for every input that it takes: `others` are the buffers that only one form of the call lends

-- "Passes are at most 64, changes at most 262,144 (64 times 4,096), distances at most 8,192."
pub record Bounded (n : Counts) : Type 0 where
  pub passes_most : n.passes ≤ 64
  pub changes_most : n.changes ≤ 262144
  pub start_most : n.start ≤ 8192
  pub end_most : n.end ≤ 8192

module _ (c : Code) (others : Bool) (page thresholds : List ℕ) (lent : State) (taken : decode_answer c (others && decode_fits c page lent) page thresholds ≡ 0) where
  what : Taken c page thresholds lent
  what = decode_taken c others page thresholds lent taken

  range : InRange (data_count c) (run c thresholds page)
  unfolding run
  range = range_passes (data_count c) (data_symbols c) (symbols_range c) (passes_of c thresholds page)

  -- Demand 3, first half. What decode hands back is what this run leaves (decoded_state), with its changes counted (decoded_counts), by definition.
  pub decode_falls : DecodeFalls c thresholds page (decoded_counts c thresholds page)
  unfolding decoded_counts decoded_state
  decode_falls =
      let f = code_falls c what.opens.usable page what.opens.whole (run c thresholds page) range in
      record { falls = f; total = f.total }

  -- Demand 3, second half.
  pub decode_recovers : DecodeRecovers c thresholds page (decoded_state c thresholds page).result
  unfolding decoded_state run passes_of
  decode_recovers =
      code_recovers c what.opens.usable page what.opens.whole (data_symbols c) (symbols_range c) (symbols_visited c) (passes_of c thresholds page) (smallest thresholds)
      (smallest_run c.q (checks_of c) (data_symbols c) thresholds (opened c page) what.some)

  pub counts_bounded : Bounded (decoded_counts c thresholds page)
  unfolding decoded_counts decoded_state run passes_of after
  counts_bounded =
      let l = what.opens.usable in
      let js : List ℕ = data_symbols c in
      let n : length js ≤ 4096 = omega (arith, length_tabulate (data_count c) (λ j. j), l.table.sizes.data-high) in
      let few : length (passes_of c thresholds page) ≤ length thresholds = runs_few c.q (checks_of c) js none thresholds (opened c page) in
      record {
        passes_most = omega (arith, few, what.few);
        changes_most = omega (arith, few, what.few, changes_few c.q (checks_of c) js n (passes_of c thresholds page) (opened c page));
        start_most = at_most [] tt;
        end_most = at_most (run c thresholds page) range;
      }
    where
      at_most : (vs : List Visit) → InRange (data_count c) vs → distance_to c page (after c.q (checks_of c) vs (opened c page)) ≤ 8192
      at_most vs r = omega (
        arith,
        code_distance c what.opens.usable page what.opens.whole vs r,
        weight_few c.q (data_count c) (check_count c) _ (code_sized c what.opens.usable page what.opens.whole vs),
        what.opens.usable.table.sizes.k_high,
        what.opens.usable.table.sizes.data-high,
      )

-- ---- 4. the vote

-- h0 is the smallest of the commonest values, m0 its count, m1 the largest other count.
pub record VoteMeans (es : List ℕ) : Type 0 where
  pub among : 0 < count (leader es) es
  pub commonest : (v : ℕ) → count v es ≤ lead_count es
  pub smallest : (v : ℕ) → count v es ≡ lead_count es → leader es ≤ v
  pub others : (v : ℕ) → v ≢ leader es → count v es ≤ next_count es
  pub largest : (b : ℕ) → ((v : ℕ) → v ≢ leader es → count v es ≤ b) → next_count es ≤ b

pub vote_means : (es : List ℕ) → 0 < length es → VoteMeans es
unfolding lead_count
vote_means es h = record {
  among = leader_mem es h;
  commonest = lead_max es;
  smallest = (λ v e. (leader_ahead es v (omega (arith, leader_mem es h))).1 e);
  others = next_max es;
  largest = next_least es;
}

-- ---- 5. margins (N1)

-- The margin of a list of estimates lies between their number and its negative. It is their number where every estimate is 0, and its negative
-- where all are one value other than 0, and only there. It is at most 0 where a value other than 0 has at least as many estimates as 0, and only
-- there. Its two terms are read off the vote: the zeros, and m1 where the leader is 0, else m0.
pub record MarginMeans (es : List ℕ) : Type 0 where
  pub low : neg_ℤ (pos (length es)) ≤ℤ margin es
  pub high : margin es ≤ℤ pos (length es)
  pub all_zero : (margin es ≡ pos (length es)) ↔ All (λ e. e ≡ 0) es
  pub all_other : (margin es ≡ neg_ℤ (pos (length es))) ↔ ((v : ℕ) × (v ≢ 0) × All (λ e. e ≡ v) es)
  pub behind : (margin es ≤ℤ pos 0) ↔ ((v : ℕ) × (v ≢ 0) × (count 0 es ≤ count v es))
  pub read_off : margin es ≡ pos (votes es).zeros -ℤ pos (choose (eqb (votes es).leader 0) (votes es).next (votes es).lead)

pub margin_means : (es : List ℕ) → 0 < length es → MarginMeans es
unfolding margin
margin_means es h = record {
  low = margin_low es;
  high = margin_high es;
  all_zero = margin_top es;
  all_other = margin_bottom es h;
  behind = margin_behind es h;
  read_off = ap (λ (n : ℕ). pos (count 0 es) -ℤ pos n) (other_zero es);
}

-- Of an accepted table each data symbol has J + 1 estimates: so its margin runs from −(J + 1) to J + 1.
pub estimate_count : (c : Code) → table_answer c ≡ 0 → (j : ℕ) → j < data_count c → (st : State) → length (estimates (checks_of c j) j st) ≡ suc (checks_each c)
unfolding estimates
estimate_count c e j h st = ap suc (length_symbols_at st.syndrome (checks_of c j) ∙ (code_incidence c (table_usable c e)).size j h)

-- A visit with threshold T alters nothing where the margin is at least −T.
pub firm_stays : (q : ℕ) (checks : ℕ → List ℕ) (v : Visit) (st : State)
    → neg_ℤ (pos v.threshold) ≤ℤ margin (estimates (checks v.symbol) v.symbol st) → visit q checks v st ≡ st
unfolding changes
firm_stays q checks v st h = visit_no q checks v st (margin_stays v.threshold (estimates (checks v.symbol) v.symbol st) h)

-- The margins of a state are one for each data symbol, in order.
pub margin_count : (c : Code) (st : State) → length (margins_of c st) ≡ data_count c
unfolding margins_of
margin_count c st = length-map (data_symbols c) (λ j. margin (estimates (checks_of c j) j st)) ∙ length_tabulate (data_count c) (λ j. j)

pub margin-of : (c : Code) (st : State) (j : ℕ) → j < data_count c → get_or (margins_of c st) j (pos 0) ≡ margin (estimates (checks_of c j) j st)
margin-of c st j h = margin-at c st j h

-- ---- 6. the schedule of the passes (N4)

-- "an idle pass is followed by the first later one in the list whose threshold is smaller; if there is none, decoding stops"; any other pass is
-- followed by the next in the list; where no threshold is left no pass is run.
pub pass_followed : (q : ℕ) (checks : ℕ → List ℕ) (symbols : List ℕ) (t : ℕ) (ts : List ℕ) (st : State)
    → thresholds_run q checks symbols none (t ∷ ts) st
    ≡ t ∷ thresholds_run q checks symbols none (choose (is_idle q checks symbols t st) (first_smaller t ts) ts) (after q checks (pass symbols t) st)
pass_followed q checks js t ts st = followed q checks js t ts st

pub none_left : (q : ℕ) (checks : ℕ → List ℕ) (symbols : List ℕ) (st : State) → thresholds_run q checks symbols none [] st ≡ []
unfolding thresholds_run
none_left q checks js st = refl

-- "the smallest threshold in the list" is one of it, and at most each of it.
pub record SmallestMeans (ts : List ℕ) : Type 0 where
  pub one : 0 < count (smallest ts) ts
  pub least : (t : ℕ) → 0 < count t ts → smallest ts ≤ t

pub smallest_means : (ts : List ℕ) → 0 < length ts → SmallestMeans ts
smallest_means ts h = record { one = smallest_in ts h; least = smallest_least ts }

-- A pass with the smallest threshold of the list is always run.
pub smallest_is_run : (c : Code) (page thresholds : List ℕ) → 0 < length thresholds → 0 < count (smallest thresholds) (passes_of c thresholds page)
unfolding passes_of
smallest_is_run c page ts h = smallest_run c.q (checks_of c) (data_symbols c) ts (opened c page) h

-- On a page at distance 0 every pass is idle, and those run are the thresholds that are below all before them.
pub clean_passes : (c : Code) (page : List ℕ) → Received c page → distance_to c page (opened c page) ≡ 0 → (thresholds : List ℕ)
    → passes_of c thresholds page ≡ minima none thresholds
clean_passes c page w z ts = code_minima c (table_usable c w.0) page w.1 z ts

-- ---- 7. open and pass, called for themselves (N5)

-- what open leaves where its number is 0
opened_left : (c : Code) (page : List ℕ) (lent : State) → (open_outcome c page lent).number ≡ 0 → (open_outcome c page lent).left ≡ opened c page
unfolding open_outcome outcome
opened_left c page lent e = rw (eqb_yes _ 0 e) refl

-- A list of pass calls, each a threshold and whether its buffers fit, from a state `start` on, where `page` was opened. What the calls leave and the
-- changes that they hand back, one call after the other, are those of the visits of the run, in which a refused call has none. The run falls, each
-- visit in its place (visit_falls), and its total holds. After the calls, and so after every call, as any first calls of a list are a list,
-- result = received data + D, S = the code word's checks − the received checks, and the distance is the number of nonzero symbols of S and D.
-- Where some call was not refused, the smallest threshold of those bounds the recovery. Refused are the calls whose buffers do not fit or whose
-- threshold is above 32, and no others.
pub record CallsRun (c : Code) (page : List ℕ) (calls : List PassCall) (start : State) : Type 0 where
  pub left : after_calls c calls start ≡ after c.q (checks_of c) (call_run c calls start) (opened c page)
  pub counted : call_changes c calls start ≡ change_count c.q (checks_of c) (call_run c calls start) (opened c page)
  pub falls : RunFalls c page (call_run c calls start)
  pub moment : Moment c page (after_calls c calls start)
  pub recovers : 0 < length (not_refused c calls start) → Recovers c (smallest (not_refused c calls start)) page (after_calls c calls start).result
  pub refused : not_refused c calls start ≡ taken_of calls

-- It holds of any calls on what open left.
pub calls_run : (c : Code) (page : List ℕ) (lent : State) → (open_outcome c page lent).number ≡ 0 → (calls : List PassCall)
    → CallsRun c page calls (open_outcome c page lent).left
unfolding open_outcome outcome
calls_run c page lent e calls = subst (CallsRun c page calls) (sym (opened_left c page lent e)) (record {
  left = same;
  counted = (calls_made c calls st).1;
  falls = visits_fall c page w vs r;
  moment = subst (Moment c page) (sym same) (every_moment c page w vs r);
  recovers = (λ n. rw same (passes_recover c page w (data_symbols c) (symbols_range c) (symbols_visited c) made (smallest made) (smallest_in made n)));
  refused = calls_taken c o.0 calls st (code_opened_sized c o.1.usable page o.1.whole);
})
  where
    o : (table_answer c ≡ 0) × Opens c page lent
    o = open_taken c page lent e

    w : Received c page
    w = (o.0, o.1.whole)

    st : State
    st = opened c page

    made : List ℕ
    made = not_refused c calls st

    vs : List Visit
    vs = call_run c calls st

    r : InRange (data_count c) vs
    r = range_passes (data_count c) (data_symbols c) (symbols_range c) made

    same : after_calls c calls st ≡ after c.q (checks_of c) vs st
    same = (calls_made c calls st).0

-- A refused call alters nothing and hands back no change.
pub call_refused : (c : Code) (p : PassCall) (st : State) → (called c p st).number ≢ 0 → ◌≡◌ {A = Passed ℕ} (called c p st).left (record { state = st; changes = 0 })
unfolding pass_outcome outcome
call_refused c p st n = rw (eqb_no _ 0 n) refl

-- The C form is this call, with its 4 bytes among the buffers that must fit: the same number, the same buffers, and its changes as bytes.
pub record CPass (c : Code) (threshold : ℕ) (lent : State) (changes : List ℕ) : Type 0 where
  pub number_of : (c_pass_outcome c threshold lent changes).number ≡ (pass_outcome c (eqb (length changes) 4) threshold lent).number
  pub state_of : (c_pass_outcome c threshold lent changes).left.state ≡ (pass_outcome c (eqb (length changes) 4) threshold lent).left.state
  pub changes_of : (c_pass_outcome c threshold lent changes).number ≡ 0
      → (c_pass_outcome c threshold lent changes).left.changes ≡ word_of (pass_outcome c (eqb (length changes) 4) threshold lent).left.changes

pub c_pass : (c : Code) (threshold : ℕ) (lent : State) (changes : List ℕ) → CPass c threshold lent changes
unfolding c_pass_outcome pass_outcome outcome
c_pass c t lent bytes = record { number_of = refl; state_of = go (eqb (pass_answer c (eqb (length bytes) 4 && state_fits c lent) t lent) 0); changes_of = (λ e. rw (eqb_yes _ 0 e) refl) }
  where
    go : (b : Bool)
        → (choose {A = Passed (List ℕ)} b (record { state = passed_state c t lent; changes = word_of (passed_changes c t lent) }) (record { state = lent; changes = bytes })).state
        ≡ (choose {A = Passed ℕ} b (record { state = passed_state c t lent; changes = passed_changes c t lent }) (record { state = lent; changes = 0 })).state
    go true = refl
    go false = refl

-- On buffers of any content in range: where a pass answers 0, each change of it lowers the nonzero symbols of S and D together by more than its
-- threshold, and every other visit leaves the three buffers.
pub pass_falls : (c : Code) (others : Bool) (threshold : ℕ) (lent : State) → pass_answer c (others && state_fits c lent) threshold lent ≡ 0 → PassFalls c threshold lent
pass_falls c others t lent e =
    let p = (pass_taken c others t lent e).1 in
    let f = weight_falls_on c p.table lent p.sized (pass (data_symbols c) t) (range_pass (data_count c) (data_symbols c) t (symbols_range c)) in
    record { falls = f; total = falls_spent c.q (checks_of c) state_weight (pass (data_symbols c) t) lent f }

-- A pass that changes nothing leaves the three buffers.
pub idle_leaves : (c : Code) (threshold : ℕ) (st : State) → passed_changes c threshold st ≡ 0 → passed_state c threshold st ≡ st
idle_leaves c t st e = unchanged c.q (checks_of c) (pass (data_symbols c) t) st e

-- "Decode becomes these two and answers as before" (N5): where decode answers 0, open answers 0; decode's result, S, D and changes are those of
-- the passes of its schedule, called one after the other on what open left, none of them refused; and its passes are their number.
pub record Split (c : Code) (page thresholds : List ℕ) (start : State) (calls : List PassCall) : Type 0 where
  pub taken : not_refused c calls start ≡ passes_of c thresholds page
  pub state_is : decoded_state c thresholds page ≡ after_calls c calls start
  pub changes_are : (decoded_counts c thresholds page).changes ≡ call_changes c calls start
  pub passes_are : (decoded_counts c thresholds page).passes ≡ length calls

pub decode_split : (c : Code) (others : Bool) (page thresholds : List ℕ) (lent : State) → decode_answer c (others && decode_fits c page lent) page thresholds ≡ 0
    → ((open_outcome c page lent).number ≡ 0) × Split c page thresholds (open_outcome c page lent).left (map fitting (passes_of c thresholds page))
unfolding open_outcome outcome decoded_state decoded_counts run passes_of
decode_split c others page ts lent e = (
  o,
  subst (λ (st : State). Split c page ts st calls) (sym (opened_left c page lent o)) (record {
    taken = all;
    state_is = sym ((calls_made c calls st).0 ∙ ap (λ (us : List ℕ). after c.q (checks_of c) (passes (data_symbols c) us) st) all);
    changes_are = sym ((calls_made c calls st).1 ∙ ap (λ (us : List ℕ). change_count c.q (checks_of c) (passes (data_symbols c) us) st) all);
    passes_are = sym (length-map (passes_of c ts page) fitting);
  }),
)
  where
    o : open_answer c page lent ≡ 0
    o = (decode_opens c others page ts lent e).1

    st : State
    st = opened c page

    calls : List PassCall
    calls = map fitting (passes_of c ts page)

    all : not_refused c calls st ≡ passes_of c ts page
    all =
        let t = open_taken c page lent o in
        calls_taken c t.0 calls st (code_opened_sized c t.1.usable page t.1.whole)
        ∙ taken_all (passes_of c ts page)
        (runs_of c.q (checks_of c) (data_symbols c) (λ t. t < 33) none ts (all_small 33 ts (decode_taken c others page ts lent e).small) st)

-- ---- 8. why a symbol is left (N6)

-- The ground of a data symbol at a threshold is 1 where the lead m0 − m1 is not above it, 2 where it is and the leader is 0, 3 where it is and the
-- leader is not 0 (Ground). It is 3 if and only if a visit now is a change, and then the visit subtracts this leader; else the visit alters nothing.
pub record GroundMeans (q : ℕ) (checks : ℕ → List ℕ) (v : Visit) (st : State) (es : List ℕ) : Type 0 where
  pub vote : Ground v.threshold es (ground_of v.threshold es) (changes checks v st)
  pub subtracts : ground_of v.threshold es ≡ 3 → visit q checks v st ≡ change q (checks v.symbol) v.symbol (leader es) st
  pub leaves : ground_of v.threshold es ≢ 3 → visit q checks v st ≡ st

pub ground_means : (q : ℕ) (checks : ℕ → List ℕ) (v : Visit) (st : State) → GroundMeans q checks v st (estimates (checks v.symbol) v.symbol st)
unfolding changes
ground_means q checks v st =
    let g = ground_is v.threshold (estimates (checks v.symbol) v.symbol st) in
    record {
      vote = g;
      subtracts = (λ e. visit_yes q checks v st (g.acts.0 e));
      leaves = (λ n. visit_no q checks v st (g.rests n));
    }

-- Bit i of the answer is set where estimate i equals the leader; the bits set number m0, and none stands beyond the J + 1 estimates.
pub record BitsMean (es : List ℕ) (bits : ℕ) : Type 0 where
  pub bit : (i : ℕ) → i < length es → bits / 2 ^ i % 2 ≡ same (get_or es i 0) (leader es)
  pub set : ones bits ≡ lead_count es
  pub few : bits < 2 ^ length es

pub bits_mean : (es : List ℕ) → BitsMean es (equal_bits es (leader es))
unfolding lead_count
bits_mean es = record { bit = bits_at es (leader es); set = bits_ones es (leader es); few = bits_below es (leader es) }

-- Explain answers 0 if and only if a pass on these buffers with this threshold would, and the data symbol is there.
pub explain_accepted : (c : Code) (fits : Bool) (threshold j : ℕ) (read : State)
    → (explain_answer c fits threshold j read ≡ 0) ↔ ((pass_answer c fits threshold read ≡ 0) × (j < data_count c))
explain_accepted c fits t j read = (explain_taken c fits t j read, λ p. explain_takes c fits t j read p.0 p.1)

-- ---- 9. the vote by counters (N7)

-- When all estimates are counted, each counter holds how often its value occurs, and so at most the number of estimates, which a byte holds; the vote
-- read from the counters is the vote by counting: the same h0 (in a tie the smallest), m0, m1 and zeros.
pub record CountersMean (n : ℕ) (es : List ℕ) : Type 0 where
  pub size : length (counted n es) ≡ n
  pub holds : (v : ℕ) → get_or (counted n es) v 0 ≡ count v es
  pub small : (v : ℕ) → get_or (counted n es) v 0 ≤ length es
  pub read : votes_read (counted n es) es ≡ votes es

pub counters_mean : (n : ℕ) (es : List ℕ) → Below n es → CountersMean n es
counters_mean n es low = record {
  size = length_counted n es;
  holds = counted-at n es low;
  small = (λ v. omega (arith, counted-at n es low v, count_misses v es));
  read = votes_counted n es low;
}

-- Decode with counters gives what decode gives, where the counters are 256 zeros, Rattle and C.
pub counters_decode : (c : Code) (page thresholds : List ℕ) (lent : State) (margins : List ℤ) (counters : List ℕ) → counters_fit counters ≡ true
    → decode_counters_outcome c page thresholds lent margins counters ≡ record { given = decode_outcome c true page thresholds lent margins; counters = counters }
unfolding decode_counters_outcome
counters_decode c page ts lent margins counters e = ap (λ (b : Bool). record { given = decode_outcome c b page ts lent margins; counters = counters }) e

pub counters_decode_c : (c : Code) (page thresholds : List ℕ) (lent : State) (margins counters counts : List ℕ) → counters_fit counters ≡ true
    → c_decode_counters_outcome c page thresholds lent margins counters counts ≡ record { given = c_decode_outcome c true page thresholds lent margins counts; counters = counters }
unfolding c_decode_counters_outcome
counters_decode_c c page ts lent margins counters counts e = ap (λ (b : Bool). record { given = c_decode_outcome c b page ts lent margins counts; counters = counters }) e

-- ---- 10. the outer check (N8)

-- For every input that encode in blocks of L takes, its page is the one that encode writes for data that agrees with the lent data but at the last
-- places of blocks, where every block sums to 0.
pub outer_encodes : (c : Code) (L : ℕ) (u : List ℕ) (n : ℕ) → encode_outer_answer c L u n ≡ 0 → EncodesOuter c L u (code_word c (outer_word c L u))
outer_encodes c L u n e =
    let a = encode_outer_taken c L u n e in
    let w = encode_symbols c u n a.0 in
    let some : 0 < c.q = omega (arith, w.low 0) in
    record {
      agrees = outer_other c L a.1 some u;
      keeps = outer_keeps c L a.1 some u;
      encodes = (encode_takes c u (outer_word c L u) n a.0 (outer_symbols c L a.1 some u w.low), refl);
    }

-- A block's step takes the first symbol of least reliability among its first L − 1.
pub outer_weakest : (c : Code) (L : ℕ) → BlockFits c L → (i e : ℕ) (st : State)
    → (p : ℕ) × (weakest c L i e st ≡ i * L + p) × Least (L - 1) (λ p. reliability_of c e st (i * L + p)) p
unfolding weakest
outer_weakest c L f i e st = (least_below (L - 1) (λ p. reliability_of c e st (i * L + p)), refl, weakest_least c L f i e st)

-- Decode is decode in blocks of 1: these have no step.
pub one_block : (c : Code) (thresholds page : List ℕ)
    → (outer_state c 1 thresholds page ≡ decoded_state c thresholds page) × (outer_counts c 1 thresholds page ≡ decoded_counts c thresholds page)
unfolding outer_state outer_counts decoded_counts
one_block c thresholds page =
    let none = no_steps c 1 (decoded_state c thresholds page) (block_count c 1) (λ i _. one_no_step c i (decoded_state c thresholds page)) in
    let passed : Counts = decoded_counts c thresholds page in (
      none.0,
      λ i. record {
        passes = passed.passes;
        changes = (let n : passed.changes + step_count c 1 (block_count c 1) (decoded_state c thresholds page) ≡ passed.changes = omega (arith, none.1) in n) i;
        start = passed.start;
        end = distance_to c page (none.0 i);
      },
    )

-- "At every moment" (document 01), with the outer check: after any visits and the outer steps of the first n blocks, n up to all of them.
pub steps_moment : (c : Code) (page : List ℕ) → Received c page → (visits : List Visit) → InRange (data_count c) visits → (L : ℕ) → BlockFits c L → (n : ℕ)
    → n ≤ block_count c L → Moment c page (outer_steps c L n (after c.q (checks_of c) visits (opened c page)))
steps_moment c page w vs r L f n h =
    let l = table_usable c w.0 in
    let st : State = after c.q (checks_of c) vs (opened c page) in
    moment_on c l page w.1 (outer_steps c L n st) (steps_on c L f l page w.1 n h st (code_on c l page w.1 vs r))

-- So after the passes of a decode in blocks of L and the steps of its first n blocks, with any thresholds.
pub outer_moment : (c : Code) (page : List ℕ) → Received c page → (thresholds : List ℕ) (L : ℕ) → BlockFits c L → (n : ℕ) → n ≤ block_count c L
    → Moment c page (outer_steps c L n (decoded_state c thresholds page))
unfolding decoded_state run
outer_moment c page w ts L f n h =
    steps_moment c page w (run c ts page) (range_passes (data_count c) (data_symbols c) (symbols_range c) (passes_of c ts page)) L f n h

-- What block i of the result sums to after the first n blocks of the steps from a state: before its turn what it did in that state; from its turn on 0
-- where it has a step, and where not what it did before. For the steps of other blocks leave its symbols.
pub record BlockSums (c : Code) (L : ℕ) (st : State) (i : ℕ) : Type 0 where
  pub before : (n : ℕ) → n ≤ i → block_sum c.q L (outer_steps c L n st).result i ≡ block_sum c.q L st.result i
  pub stepped : is_step c L i (outer_steps c L i st) ≡ true → (n : ℕ) → i < n → block_sum c.q L (outer_steps c L n st).result i ≡ 0
  pub left : is_step c L i (outer_steps c L i st) ≡ false → (n : ℕ) → i < n → block_sum c.q L (outer_steps c L n st).result i ≡ block_sum c.q L st.result i

pub block_sums : (c : Code) (L : ℕ) → BlockFits c L → (st : State) → Sized c.q (data_count c) (check_count c) st → (i : ℕ) → i < block_count c L → BlockSums c L st i
block_sums c L f st z i h =
    let some : 0 < c.q = omega (arith, z.in_result 0) in
    record { before = sum_before c L f st i; stepped = sum_made c L f some st z i h; left = sum_left c L f st i }

module _ (c : Code) (L : ℕ) (others : Bool) (page thresholds : List ℕ) (lent : State) (e : decode_outer_answer c L (others && decode_fits c page lent) page thresholds ≡ 0) where
  answers : (decode_answer c (others && decode_fits c page lent) page thresholds ≡ 0) × BlockFits c L
  answers = decode_outer_taken c L (others && decode_fits c page lent) page thresholds e

  opens_page : Opens c page lent
  opens_page = (decode_taken c others page thresholds lent answers.0).opens

  -- what the passes leave is a state of the page, and so is what any number of blocks leave
  pub passes_on : OnPage c page (decoded_state c thresholds page)
  unfolding decoded_state
  passes_on = code_on c opens_page.usable page opens_page.whole (run c thresholds page) (range c others page thresholds lent answers.0)

  pub blocks_on : (n : ℕ) → n ≤ block_count c L → OnPage c page (outer_steps c L n (decoded_state c thresholds page))
  blocks_on n h = steps_on c L answers.1 opens_page.usable page opens_page.whole n h (decoded_state c thresholds page) passes_on

  -- The falling rule, for the passes of this decode, with the distance after them; each block in its turn adds its step's reliability to the distance.
  pub outer_falls : OuterFalls c L thresholds page (outer_counts c L thresholds page)
  unfolding outer_counts decoded_counts
  outer_falls = record {
    falls = (decode_falls c others page thresholds lent answers.0).falls;
    steps = (λ i h. step_adds c L answers.1 opens_page.usable page opens_page.whole i h (outer_steps c L i (decoded_state c thresholds page)) (blocks_on i (omega arith)));
    start = refl;
    end = refl;
  }

  -- Recovery, for data whose blocks of L sum to 0, within the bound of decode: the result is the data sent, and no outer step occurs.
  -- With outer_encodes that covers the pages of encode in blocks of L too.
  pub outer_recovers : OuterRecovers c L thresholds page (outer_state c L thresholds page).result (outer_counts c L thresholds page)
  unfolding outer_state outer_counts
  outer_recovers u sent t taken keeps few room =
      let back : (decoded_state c thresholds page).result ≡ data_of c sent = decode_recovers c others page thresholds lent answers.0 u sent t taken few room in
      let none = no_steps c L (decoded_state c thresholds page) (block_count c L)
      (λ i h. zero_no_step c L i (decoded_state c thresholds page) (ap (λ (w : List ℕ). block_sum c.q L w i) (back ∙ encoded_data c u sent taken) ∙ keeps i h)) in
      record { data_sent = ap (λ (st : State). st.result) none.0 ∙ back; no_step = none.1; changes = rw none.1 (omega arith) }

  -- Where the passes end at distance 0 no outer step occurs, whatever the blocks sum to: every reliability is then J + 1.
  pub outer_clean : distance_to c page (decoded_state c thresholds page) ≡ 0
      → (outer_state c L thresholds page ≡ decoded_state c thresholds page) × (step_count c L (block_count c L) (decoded_state c thresholds page) ≡ 0)
  unfolding outer_state
  outer_clean z =
      no_steps c L (decoded_state c thresholds page) (block_count c L)
      (λ i h. clean_no_step c L answers.1 opens_page.usable page opens_page.whole i h (decoded_state c thresholds page)
      (sym (on_distance c opens_page.usable page opens_page.whole (decoded_state c thresholds page) passes_on) ∙ z))

  -- So on a code word, whatever its blocks sum to, no pass changes anything and no outer step occurs.
  pub outer-word : page ≡ code_word c (data_of c page) → (outer_state c L thresholds page ≡ opened c page) × ((outer_counts c L thresholds page).changes ≡ 0)
  unfolding outer_counts decoded_counts decoded_state
  outer-word w =
      let l = opens_page.usable in
      let z : distance_to c page (opened c page) ≡ 0 = (word_distance c l page opens_page.whole).1 w in
      let idle = code_idle c l page opens_page.whole z (run c thresholds page) (range c others page thresholds lent answers.0) in
      let clean = outer_clean (ap (distance_to c page) idle.0 ∙ z) in
      (clean.0 ∙ idle.0, omega (arith, idle.1, clean.1))

  -- The sums of the blocks from what the passes left: a block that has a step sums to 0 after it, and in the result that decode hands back.
  pub outer_sums : (i : ℕ) → i < block_count c L → BlockSums c L (decoded_state c thresholds page) i
  outer_sums i h = block_sums c L answers.1 (decoded_state c thresholds page) passes_on.sized i h

  -- The bounds of the counts stand: the changes, the steps included, are at most the distance at the start and one a block.
  pub outer_bounded : Bounded (outer_counts c L thresholds page) × ((outer_counts c L thresholds page).changes ≤ (outer_counts c L thresholds page).start + block_count c L)
  unfolding outer_counts decoded_counts outer_state
  outer_bounded =
      let b = counts_bounded c others page thresholds lent answers.0 in
      let l = opens_page.usable in
      let spent-most = (decode_falls c others page thresholds lent answers.0).falls.total in
      let few = changes_spent c.q (checks_of c) (run c thresholds page) (opened c page) in
      let steps = steps_few c L (block_count c L) (decoded_state c thresholds page) in
      let blocks : block_count c L * 2 ≤ data_count c = omega (arith, mul-le-mul_left (block_count c L) answers.1.low, answers.1.divides) in
      let on = blocks_on (block_count c L) (omega arith) in (
        record {
          passes_most = b.passes_most;
          changes_most = omega (arith, b.start_most, l.table.sizes.data-high);
          start_most = b.start_most;
          end_most = omega (
            arith,
            on_distance c l page opens_page.whole (outer_steps c L (block_count c L) (decoded_state c thresholds page)) on,
            weight_few c.q (data_count c) (check_count c) (outer_steps c L (block_count c L) (decoded_state c thresholds page)) on.sized,
            l.table.sizes.k_high,
            l.table.sizes.data-high,
          );
        },
        omega arith,
      )

-- ---- 11. profiles (N9, N10)

-- A profile says which q a call takes, and no more. Parts 1 to 10 hold of a code of any profile. What a code encodes, opens, decodes, passes and
-- explains is what the code of the same q, k, b and table does in any other profile, so on bits it is the general steps at q = 2; and of the
-- tests of a table test 1 alone differs.
pub record InProfile (p : Profile) (c : Code) : Type 0 where
  pub word : (u : List ℕ) → code_word (in_profile p c) u ≡ code_word c u
  pub syndrome-of : (page : List ℕ) → syndrome (in_profile p c) page ≡ syndrome c page
  pub opened-page : (page : List ℕ) → opened (in_profile p c) page ≡ opened c page
  pub decoded : (thresholds page : List ℕ) → decoded_state (in_profile p c) thresholds page ≡ decoded_state c thresholds page
  pub counts : (thresholds page : List ℕ) → decoded_counts (in_profile p c) thresholds page ≡ decoded_counts c thresholds page
  pub margins : (st : State) → margins_of (in_profile p c) st ≡ margins_of c st
  pub passed : (threshold : ℕ) (st : State) → passed_state (in_profile p c) threshold st ≡ passed_state c threshold st
  pub changed : (threshold : ℕ) (st : State) → passed_changes (in_profile p c) threshold st ≡ passed_changes c threshold st
  pub told : (threshold j : ℕ) (st : State) → explained (in_profile p c) threshold j st ≡ explained c threshold j st
  pub answer : table_answer (in_profile p c) ≡ choose (within (lowest p) (highest p) c.q) (first_that_applies (later_tests c)) 1

pub in-profile : (p : Profile) (c : Code) → InProfile p c
in-profile p c = record {
  word = word_in p c;
  syndrome-of = syndrome-in p c;
  opened-page = opened_in p c;
  decoded = decoded_in p c;
  counts = counts_in p c;
  margins = margins_in p c;
  passed = passed_in p c;
  changed = changes_in p c;
  told = explained_in p c;
  answer = table_in p c;
}

-- ---- 12. the vote on bits (N9)

-- Of bits, gathered in a word of as many bits: its ones are the estimates that are 1, and the rest those that are 0. They tell the whole vote, h0 being
-- 1 where the ones are more and 0 in a tie; the margin, zeros minus ones; the estimates that equal h0, which are the word or the rest of its bits;
-- and whether a visit is a change, "when ones minus zeros is above T".
pub record BitsVote (es : List ℕ) : Type 0 where
  pub ones_are : ones (gathered es) ≡ count 1 es
  pub zeros_are : zeros_in (length es) (gathered es) ≡ count 0 es
  pub few : gathered es < 2 ^ length es
  pub vote : votes es ≡ bit_votes (length es) (gathered es)
  pub margin_is : margin es ≡ pos (zeros_in (length es) (gathered es)) -ℤ pos (ones (gathered es))
  pub equal : equal_bits es (leader es) ≡ choose (eqb (leader es) 1) (gathered es) (2 ^ length es - 1 - gathered es)
  pub decides : (t : ℕ) → is_change t es ≡ ones_decide t (length es) (gathered es)

pub bits_vote : (es : List ℕ) → Below 2 es → 0 < length es → BitsVote es
bits_vote es low some = record {
  ones_are = word_ones es low;
  zeros_are = word_zeros es low;
  few = bits_below es 1;
  vote = vote_bits es low some;
  margin_is = margin_bits es low some;
  equal = equal-bits es low some;
  decides = change_bits es low some;
}

-- So a visit on bits changes where the ones decide so, and then turns over result symbol j, d(j) and s at each check of j: it subtracts 1, and modulo 2
-- sums and differences are the exclusive or.
pub bits_visit : (checks : ℕ → List ℕ) (v : Visit) (st : State) → let es = estimates (checks v.symbol) v.symbol st in Below 2 es
    → visit 2 checks v st ≡ choose (ones_decide v.threshold (length es) (gathered es)) (change 2 (checks v.symbol) v.symbol 1 st) st
bits_visit checks v st low = visit_bits checks v st low

-- The zeros alone tell it, too: a visit on bits is a change exactly where the zeros among its J + 1 estimates, counted twice, and T are at most J. So a
-- data symbol whose visit the zeros kept by the decoder do not settle is one that its visit changes.
pub bits_zeros : (checks : ℕ → List ℕ) (v : Visit) (st : State) → let es = estimates (checks v.symbol) v.symbol st in Below 2 es
    → changes checks v st ≡ ltb (count 0 es + count 0 es + v.threshold) (length es)
bits_zeros checks v st low = visit_zeros checks v st low

pub record BitsAdd (a b : ℕ) : Type 0 where
  pub sum : add 2 a b ≡ bit_xor a b
  pub difference : sub 2 a b ≡ bit_xor a b
  pub turned : sub 2 a 1 ≡ 1 - a

pub bits_add : (a b : ℕ) → a < 2 → b < 2 → BitsAdd a b
bits_add a b ha hb = record { sum = add-bits a b ha hb; difference = sub_bits a b ha hb; turned = turned_over a ha }

-- ---- 13. wide symbols (N10)

-- "sums and differences simply wrap at the symbol's width": a sum that wraps at q is that modulo q, and a difference that wraps is the one number below q
-- that with b wraps to a; for every q.
pub record Wraps (q a b : ℕ) : Type 0 where
  pub sum : (a + b) % q ≡ add q a b
  pub difference : (r : ℕ) → r < q → (r + b) % q ≡ a → r ≡ sub q a b

pub wraps_at : (q a b : ℕ) → a < q → b < q → Wraps q a b
unfolding add
wraps_at q a b ha hb = record { sum = refl; difference = (λ r h e. wraps q (omega arith) a b r ha (omega arith) h e) }

-- "1 and 7 can't occur here": the number is that of the other tests, where the symbols are below q, as all numbers of their width are. The tests of
-- encode, syndrome and open (`page`, by the lengths that each needs), of decode, of a pass and of explain.
pub record WideAnswers (c : Code) : Type 0 where
  pub table : table_answer c ≡ first_that_applies (later_tests c)
  pub page : (fits : Bool) (input : List ℕ) → Below c.q input → first_that_applies (page_tests c fits input) ≡ first_that_applies (later_tests c ++ (test 6 (not fits) ∷ []))
  pub decode : (fits : Bool) (page thresholds : List ℕ) → Below c.q page
      → decode_answer c fits page thresholds ≡ first_that_applies (later_tests c ++ (test 6 (not fits) ∷ threshold_tests thresholds))
  pub pass : (fits : Bool) (threshold : ℕ) (st : State) → Below c.q (state_symbols st)
      → pass_answer c fits threshold st ≡ first_that_applies (later_tests c ++ (test 6 (not fits) ∷ threshold_test threshold))
  pub explain : (fits : Bool) (threshold j : ℕ) (st : State) → Below c.q (state_symbols st)
      → explain_answer c fits threshold j st
      ≡ first_that_applies (later_tests c ++ (test 6 (not fits) ∷ test 9 (not (ltb threshold 33)) ∷ test 11 (not (ltb j (data_count c))) ∷ []))

pub wide_answers : (c : Code) → Wide c → WideAnswers c
wide_answers c w = record {
  table = no_one c w.one;
  page = page_later c w.one;
  decode = decode_later c w.one;
  pass = pass_later c w.one;
  explain = (λ fits t j st low. explain_later c w.one fits t st low j);
}

-- Symbols of w bytes each, low byte first: what is written reads back, either way; what is read is below 256 to the w; a length in symbols fits where the
-- length in bytes is w times as many, and no other does. WideCalls has each C call on them.
pub record WideSymbols (w : ℕ) : Type 0 where
  pub read_back : (xs : List ℕ) → Below (256 ^ w) xs → symbols_of w (symbol_bytes w xs) ≡ xs
  pub written_back : (n : ℕ) (s : List ℕ) → Below 256 s → length s ≡ n * w → symbol_bytes w (symbols_of w s) ≡ s
  pub low : (s : List ℕ) → Below 256 s → Below (256 ^ w) (symbols_of w s)
  pub fits : (n : ℕ) → 0 < n → (s : List ℕ) → eqb (length (symbols_of w s)) n ≡ eqb (length s) (n * w)

pub wide_symbols : (w : ℕ) → 0 < w → WideSymbols w
wide_symbols w h = record { read_back = symbols_back w h; written_back = bytes_of_symbols w h; low = symbols_below w; fits = fits_bytes w h }

-- ---- 14. a file of pages (N11)

-- "What the reader accepts is exactly what the writer can write": bytes are accepted with a place if and only if the place is below their count and the
-- writer, from some listing, writes just these bytes into an output of their length (Writable).
pub file_accepted : (file : List ℕ) → Below 256 file → (place : ℕ) → (read_answer true file place ≡ 0) ↔ ((place < count_of file) × Writable file)
file_accepted = readable_writable

-- "each place of a written file reads back as the page number, q − 1 and body listed there" (ReadsBack): the file is the front of the output, as much of it
-- as the length says that the writer hands back.
pub file_back : (l : Listing) (output : List ℕ) → Below 65536 l.numbers → write_answer true l (length output) ≡ 0 → (place : ℕ) → place < page_count l
    → ReadsBack (take (write_outcome l output).left.size (write_outcome l output).left.output) l place
file_back = reads_back

-- Two listings that the writer takes, and that give one file, are equal.
pub file_listing : (l m : Listing) (a b : ℕ) → Below 65536 l.numbers → Below 65536 m.numbers → write_answer true l a ≡ 0 → write_answer true m b ≡ 0
    → file_of l ≡ file_of m → l ≡ m
file_listing = listing_unique

-- "keeps the rest": whatever the writer answers, its output is as long as before and unaltered from the file's length on, which is 0 where it is refused
-- (KeepsRest).
pub file_rest : (l : Listing) (output : List ℕ) → KeepsRest l output
file_rest = rest_kept

-- What the reader hands out lies inside the file: in C, `length` bytes from `file + offset` on.
pub file_inside : (file : List ℕ) (place : ℕ) → (read_outcome file place).left.offset + (read_outcome file place).left.size ≤ length file
file_inside = found_inside

-- Nothing of what is taken is empty: not a file that is read, and of what the writer gets neither the lists nor the bodies nor the output.
pub record NoneEmpty (l : Listing) (output_length : ℕ) : Type 0 where
  pub numbers : 0 < length l.numbers
  pub tops : 0 < length l.tops
  pub sizes : 0 < length l.sizes
  pub bodies : 0 < length l.bodies
  pub output : 0 < output_length

pub file_some : (file : List ℕ) (place : ℕ) → read_answer true file place ≡ 0 → 0 < length file
file_some = read_some

pub listing_some : (l : Listing) (output_length : ℕ) → write_answer true l output_length ≡ 0 → NoneEmpty l output_length
listing_some l n e = let s = write_some l n e in record { numbers = s.0; tops = s.1; sizes = s.2; bodies = s.3; output = s.4 }
