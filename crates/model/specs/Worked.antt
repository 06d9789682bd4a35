-- The proved set: the worked pages of document 01 that are marked ●, as one table, and one statement that the definitions give what its rows say.
-- Below it a second table pins misreadings that no marked page tells apart, and four lines hold demand 3 to its numbers; WorkedDemand has more of these.
use Rattle.std.specs.Prelude.{◌≡◌, refl, Bool, true, false, List, [], ◌∷◌, ◌++◌, map, ℕ, ◌+◌, ◌*◌, ◌%◌, ◌<◌, T, ℤ, pos, negsuc, length}
use Rattle.std.proofs.Common.{ap, subst, ◌∙◌, mod-eq_of_lt, arith}
use Rattle.std.specs.Int.Count.{ones_in, ones}
use Rattle.model.specs.Symbols.{sub, same, differ, count, distance, sum_over, sum_of_first, join_below, tabulate, symbols_at, subtract_at}
use Rattle.model.specs.Code.{bit_pages, wide16, wide32, Code, code_in, code_of, wide_code, data_count, check_count, page_length, branch_at, checks_by, checks_of, check_sum_by, check_symbol, check_symbols, code_word, syndrome, shared, every_below, self_orthogonal, differences_from, differences_by, differences, all_different}
use Rattle.model.specs.Vote.{first_by, other_by, leader, lead_count, next_count, Votes, votes, votes_by, counted, votes_read, margin, ground_of, equal_bits, gathered, ones_decide, bit_votes}
use Rattle.model.specs.Decoder.{state_by, State, Counts, estimates, is_change, change, changes, visit, after, change_count, pass, passes, allows, thresholds_run, opened, passes_of, run, distance_to, decoded_state, decoded_counts, margins_of}
use Rattle.model.specs.Outer.{part_sum, outer_word, reliability, least_below, weakest, is_step, outer_step, outer_steps, step_count, outer_state, outer_counts}
use Rattle.model.specs.Calls.{first_that_applies, within, syndrome_answer, syndrome_outcome, positions_fit, all_below, size_tests, table_tests, page_tests, threshold_tests, threshold_test, table_answer, encode_answer, decode_answer, open_answer, pass_tests, pass_answer, explain_answer, Outcome, outcome, encode_outcome, Decoded, decode_outcome, WithCounters, counters_fit, decode_counters_outcome, block_test, encode_outer_answer, decode_outer_answer, encode_outer_outcome, decode_outer_outcome, open_outcome, Passed, pass_outcome, PassCall, fitting, after_calls, call_changes, not_refused, Explained, explained, explain_outcome}
use Rattle.model.specs.Bytes.{bytes_of, margin_bytes, c_decode_outcome, c_pass_outcome, explained_bytes, c_explain_outcome, symbol_size, number_of, bytes_in, symbols_of, symbol_bytes, in_byte_form, wide_encode_outcome, wide_syndrome_outcome, wide_decode_outcome, wide_open_outcome, wide_pass_outcome, wide_explain_outcome}
use Rattle.model.specs.Demand.{VisitFalls, WithinBound, smallest, DecodeRecovers}

-- A row: a call's inputs, and what it must give.
data Row : Type 0 where
  -- the table check's number, and whether the differences of positions are all different
  table : (c : Code) (answer : ℕ) (different : Bool) → Row
  -- encode's number and page
  encoded : (c : Code) (u : List ℕ) (given : Outcome (List ℕ)) → Row
  -- decode's number, counts, result, S, D and margins
  decoded : (c : Code) (thresholds page : List ℕ) (given : Outcome (Decoded (List ℤ) Counts)) → Row
  -- decode's number, from a margin buffer of this length
  tested : (c : Code) (thresholds page : List ℕ) (margins : ℕ) (answer : ℕ) → Row
  -- open's number and the three buffers
  opening : (c : Code) (page : List ℕ) (given : Outcome State) → Row
  -- a pass's number, buffers and changes, on buffers as it finds them; `others` as in `pass_outcome`
  passing : (c : Code) (others : Bool) (threshold : ℕ) (found : State) (given : Outcome (Passed ℕ)) → Row
  -- what a list of pass calls leaves, their changes, and the thresholds of those not refused
  called_in_turn : (c : Code) (calls : List PassCall) (found left : State) (changes : ℕ) (made : List ℕ) → Row
  -- explain's number, ground_of, h0, m0, m1 and bits
  explaining : (c : Code) (others : Bool) (threshold j : ℕ) (found : State) (given : Outcome Explained) → Row
  -- decode's number, buffers, margins and counts with these counters, and the counters afterwards
  with_counters : (c : Code) (thresholds page counters : List ℕ) (given : WithCounters (Outcome (Decoded (List ℤ) Counts))) → Row
  -- encode's and decode's in blocks of L
  encoded_outer : (c : Code) (L : ℕ) (u : List ℕ) (given : Outcome (List ℕ)) → Row
  decoded_outer : (c : Code) (L : ℕ) (thresholds page : List ℕ) (given : Outcome (Decoded (List ℤ) Counts)) → Row
  -- the n counters when a list of estimates is counted, and the vote read from them
  counted_by : (n : ℕ) (es : List ℕ) (counters : List ℕ) (given : Votes) → Row
  -- the vote over a list of estimates, its margin, and whether it is a change at a threshold
  voted : (es : List ℕ) (threshold : ℕ) (given : Votes) (margin : ℤ) (changed : Bool) → Row
  -- the word of bits, the vote by its ones, and whether they decide for a change
  voted_bits : (es : List ℕ) (threshold word : ℕ) (given : Votes) (changed : Bool) → Row
  -- the C forms on wide symbols: encode from a page of this many bytes; syndrome; decode; open; a pass; explain
  wide_encoded : (c : Code) (u : List ℕ) (page_len : ℕ) (given : Outcome (List ℕ)) → Row
  wide_syndrome : (c : Code) (page : List ℕ) (given : Outcome (List ℕ)) → Row
  wide_decoded : (c : Code) (thresholds page : List ℕ) (given : Outcome (Decoded (List ℕ) (List ℕ))) → Row
  wide_opening : (c : Code) (page : List ℕ) (given : Outcome State) → Row
  wide_passing : (c : Code) (threshold : ℕ) (found : State) (given : Outcome (Passed (List ℕ))) → Row
  wide_explaining : (c : Code) (threshold j : ℕ) (found : State) (given : Outcome (List ℕ)) → Row

times : ℕ → ℕ → List ℕ
times n x = tabulate n (λ i. x)

abbrev zeros : ℕ → List ℕ
zeros n = times n 0

-- what lent buffers hold before a call
abbrev lent : ℕ → List ℕ
lent n = times n 165

abbrev lent_state : Code → State
lent_state c = state_by (lent (data_count c)) (lent (check_count c)) (lent (data_count c))

-- of wide symbols, as bytes
abbrev lent_bytes : Code → State
lent_bytes c = let w = symbol_size c.profile in state_by (lent (data_count c * w)) (lent (check_count c * w)) (lent (data_count c * w))

-- the row with what the definitions give for its inputs
computed : Row → Row
unfolding first_that_applies within positions_fit all_below size_tests table_tests page_tests threshold_tests threshold_test table_answer encode_answer decode_answer open_answer pass_tests pass_answer explain_answer
    outcome encode_outcome decode_outcome counters_fit decode_counters_outcome block_test encode_outer_answer decode_outer_answer encode_outer_outcome decode_outer_outcome open_outcome pass_outcome after_calls call_changes not_refused explained explain_outcome ground_of equal_bits
    branch_at checks_by checks_of check_sum_by check_symbol check_symbols code_word syndrome shared every_below self_orthogonal differences_from differences_by all_different
    first_by other_by leader lead_count next_count estimates is_change change changes visit after change_count pass passes allows thresholds_run opened passes_of run distance_to decoded_state decoded_counts margin margins_of
    counted votes_by votes_read part_sum outer_word reliability least_below weakest is_step outer_step outer_steps step_count outer_state outer_counts
    ones_in ones ones_decide bit_votes syndrome_answer syndrome_outcome bytes_of margin_bytes c_decode_outcome c_pass_outcome explained_bytes c_explain_outcome number_of bytes_in symbols_of symbol_bytes in_byte_form
    wide_encode_outcome wide_syndrome_outcome wide_decode_outcome wide_open_outcome wide_pass_outcome wide_explain_outcome
    sub same differ count distance sum_over sum_of_first join_below tabulate symbols_at subtract_at times
computed (table c a d) = table c (table_answer c) (all_different (differences c))
computed (encoded c u g) = encoded c u (encode_outcome c u (lent (page_length c)))
computed (decoded c ts page g) =
    decoded c ts page (decode_outcome c true page ts (lent_state c) (map pos (lent (data_count c))))
computed (tested c ts page m n) = tested c ts page m (decode_outcome c true page ts (lent_state c) (map pos (lent m))).number
computed (opening c page g) = opening c page (open_outcome c page (lent_state c))
computed (passing c o t st g) = passing c o t st (pass_outcome c o t st)
computed (called_in_turn c ps st l n m) = called_in_turn c ps st (after_calls c ps st) (call_changes c ps st) (not_refused c ps st)
computed (explaining c o t j st g) = explaining c o t j st (explain_outcome c o t j st)
computed (with_counters c ts page counters g) =
    with_counters c ts page counters (decode_counters_outcome c page ts (lent_state c) (map pos (lent (data_count c))) counters)
computed (encoded_outer c L u g) = encoded_outer c L u (encode_outer_outcome c L u (lent (page_length c)))
computed (decoded_outer c L ts page g) = decoded_outer c L ts page (decode_outer_outcome c L page ts (lent_state c) (map pos (lent (data_count c))))
computed (counted_by n es counters g) = counted_by n es (counted n es) (votes_read (counted n es) es)
computed (voted es t g m b) = voted es t (votes es) (margin es) (is_change t es)
computed (voted_bits es t w g b) = voted_bits es t (gathered es) (bit_votes (length es) (gathered es)) (ones_decide t (length es) (gathered es))
computed (wide_encoded c u n g) = wide_encoded c u n (wide_encode_outcome c u (lent n))
computed (wide_syndrome c page g) = wide_syndrome c page (wide_syndrome_outcome c page (lent_bytes c).syndrome)
computed (wide_decoded c ts page g) = wide_decoded c ts page (wide_decode_outcome c page ts (lent_bytes c) (lent (4 * data_count c)) (lent 16))
computed (wide_opening c page g) = wide_opening c page (wide_open_outcome c page (lent_bytes c))
computed (wide_passing c t st g) = wide_passing c t st (wide_pass_outcome c t st (lent 4))
computed (wide_explaining c t j st g) = wide_explaining c t j st (wide_explain_outcome c t j st (lent 24))

-- a code of one branch, as document 01 has them
abbrev one_branch : ℕ → ℕ → List ℕ → Code
one_branch q k positions = code_of q k 1 positions

-- "Code A is k = 13 with positions 0, 1, 4, 6."
code_a : Code
code_a = one_branch 256 13 (0 ∷ 1 ∷ 4 ∷ 6 ∷ [])

accepted : List ℕ → Outcome (List ℕ)
accepted page = record { number = 0; left = page }

found : List ℕ → List ℕ → List ℕ → List ℤ → ℕ → ℕ → ℕ → ℕ → Outcome (Decoded (List ℤ) Counts)
found r s d margins passes changes start end = record {
  number = 0;
  left = record {
    state = state_by r s d;
    margins = margins;
    counts = record { passes = passes; changes = changes; start = start; end = end };
  };
}

vote : ℕ → ℕ → ℕ → ℕ → Votes
vote h m0 m1 z = record { leader = h; lead = m0; next = m1; zeros = z }

-- the cases marked ●
rows : List Row
unfolding code_a accepted found times tabulate
rows =
    -- 1
    table (one_branch 256 13 (0 ∷ 1 ∷ 4 ∷ 6 ∷ [])) 0 true
    ∷ table (one_branch 256 12 (0 ∷ 1 ∷ 4 ∷ 6 ∷ [])) 5 false
    -- 2
    ∷ table (one_branch 256 7 (0 ∷ 1 ∷ 3 ∷ [])) 0 true
    ∷ table (one_branch 256 6 (0 ∷ 1 ∷ 3 ∷ [])) 5 false
    -- 3
    ∷ table (one_branch 256 1 (0 ∷ [])) 0 true
    ∷ encoded (one_branch 256 1 (0 ∷ [])) (9 ∷ []) (accepted (9 ∷ 9 ∷ []))
    -- 4
    ∷ encoded code_a (7 ∷ zeros 12) (accepted (7 ∷ zeros 12 ++ (7 ∷ 7 ∷ 0 ∷ 0 ∷ 7 ∷ 0 ∷ 7 ∷ zeros 6)))
    -- 5
    ∷ encoded code_a (10 ∷ zeros 11 ++ (250 ∷ []))
    (accepted (10 ∷ zeros 11 ++ (250 ∷ 4 ∷ 10 ∷ 0 ∷ 250 ∷ 10 ∷ 250 ∷ 10 ∷ zeros 5 ++ (250 ∷ []))))
    -- 6
    ∷ decoded code_a (2 ∷ 2 ∷ []) (7 ∷ zeros 25) (found (zeros 13) (zeros 13) (249 ∷ zeros 12) (map pos (3 ∷ times 12 5)) 2 1 4 1)
    -- 7, as N4 changes it: at 3 the lead 4 − 1 = 3 isn't above 3, so the pass is idle; a second 3 is skipped, and 2 is next
    ∷ decoded code_a (3 ∷ 2 ∷ []) (7 ∷ zeros 25) (found (zeros 13) (zeros 13) (249 ∷ zeros 12) (map pos (3 ∷ times 12 5)) 2 1 4 1)
    ∷ decoded code_a (3 ∷ 3 ∷ 2 ∷ []) (7 ∷ zeros 25) (found (zeros 13) (zeros 13) (249 ∷ zeros 12) (map pos (3 ∷ times 12 5)) 2 1 4 1)
    -- 8
    ∷ decoded code_a (0 ∷ []) (zeros 15 ++ (9 ∷ zeros 10)) (found (zeros 13) (0 ∷ 0 ∷ 247 ∷ zeros 10) (zeros 13)
    (map pos (5 ∷ 3 ∷ 3 ∷ 5 ∷ 5 ∷ 5 ∷ 5 ∷ 5 ∷ 5 ∷ 3 ∷ 5 ∷ 3 ∷ 5 ∷ [])) 1 0 1 1)
    -- 9
    ∷ decoded code_a (0 ∷ 0 ∷ []) (7 ∷ 3 ∷ zeros 24) (found (zeros 13) (zeros 13) (249 ∷ 253 ∷ zeros 11) (map pos (3 ∷ 3 ∷ times 11 5)) 2 2 7 2)
    -- 10
    ∷ decoded code_a (0 ∷ []) (zeros 13 ++ (251 ∷ 251 ∷ 0 ∷ 0 ∷ 251 ∷ zeros 8))
    (found (251 ∷ zeros 12) (zeros 6 ++ (251 ∷ zeros 6)) (251 ∷ zeros 12) (map pos (1 ∷ 5 ∷ 3 ∷ 5 ∷ 5 ∷ 3 ∷ 3 ∷ times 6 5)) 1 1 3 2)
    ∷ []

worked : map computed rows ≡ rows
unfolding computed rows
worked = refl

-- Case 3 for every q and every symbol: k = 1, position 0, "the symbol twice".
twice : (q x : ℕ) → x < q → code_word (one_branch q 1 (0 ∷ [])) (x ∷ []) ≡ x ∷ x ∷ []
unfolding code_word check_symbols check_symbol branch_at check_sum_by sum_over sum_of_first tabulate sub
twice q x h = ap (λ (v : ℕ). x ∷ v ∷ []) (ap (λ (n : ℕ). n % q) (let e : 0 + (x + 0) ≡ x = omega arith in e) ∙ mod-eq_of_lt h)

-- N2's code of two branches
two_runs : Code
two_runs = code_of 256 13 2 (0 ∷ 1 ∷ 0 ∷ 2 ∷ [])

-- what a pass gives
made : ℕ → State → ℕ → Outcome (Passed ℕ)
made n st changes = record { number = n; left = record { state = st; changes = changes } }

-- the page of case 6, opened, and what a pass with threshold 2 leaves of it
opened_six : State
opened_six = state_by (7 ∷ zeros 12) (7 ∷ 7 ∷ 0 ∷ 0 ∷ 7 ∷ 0 ∷ 7 ∷ zeros 6) (zeros 13)

passed_six : State
passed_six = state_by (zeros 13) (zeros 13) (249 ∷ zeros 12)

-- what explain gives
told : ℕ → ℕ → ℕ → ℕ → ℕ → ℕ → Outcome Explained
told n g h m0 m1 bits = record { number = n; left = record { ground_number = g; leader = h; lead = m0; next = m1; bits = bits } }

-- a decode of code A that is refused leaves what it was lent
refused_a : ℕ → Outcome (Decoded (List ℤ) Counts)
unfolding code_a times
refused_a n = record {
  number = n;
  left = record {
    state = lent_state code_a;
    margins = map pos (lent 13);
    counts = record { passes = 0; changes = 0; start = 0; end = 0 };
  };
}

-- k = 4, positions 0, 1, q = 5
code_b : Code
code_b = one_branch 5 4 (0 ∷ 1 ∷ [])

refused_b : ℕ → Outcome (Decoded (List ℤ) Counts)
unfolding code_b times
refused_b n = record {
  number = n;
  left = record {
    state = lent_state code_b;
    margins = map pos (lent 4);
    counts = record { passes = 0; changes = 0; start = 0; end = 0 };
  };
}

-- Rows that pin misreadings: case 14 tells a vote by absolute majority from the steps and pins the tie; a page of three checks tells votes
-- taken from the syndrome as it was at the start of the pass.
misreadings : List Row
unfolding code_a code_b two_runs accepted found made told refused_a refused_b opened_six passed_six vote times tabulate
misreadings =
    -- 14
    voted (2 ∷ 2 ∷ 1 ∷ 1 ∷ 0 ∷ []) 0 (vote 1 2 2 1) (negsuc 0) false
    ∷ voted (7 ∷ 7 ∷ 0 ∷ 9 ∷ 1 ∷ []) 0 (vote 7 2 1 1) (negsuc 0) true
    ∷ voted (7 ∷ 7 ∷ 0 ∷ 9 ∷ 1 ∷ []) 1 (vote 7 2 1 1) (negsuc 0) false
    -- N1: a margin runs "from −(J + 1) to J + 1"
    ∷ voted (times 5 0) 0 (vote 0 5 0 5) (pos 5) false
    ∷ voted (times 5 7) 0 (vote 7 5 0 0) (negsuc 4) true
    -- "6 covers a margin buffer that isn't k long", before 8
    ∷ tested code_a (0 ∷ []) (zeros 26) 13 0
    ∷ tested code_a [] (zeros 26) 12 6
    -- k = 3, positions 0, 1, all three received checks 251, so s is 5 everywhere: symbol 0 has estimates 0, 5, 5 and changes,
    -- which leaves s(0) and s(1) 0, so that symbols 1 and 2 have estimates 0, 0, 5 and stay
    ∷ decoded (one_branch 256 3 (0 ∷ 1 ∷ [])) (0 ∷ []) (zeros 3 ++ (251 ∷ 251 ∷ 251 ∷ []))
    (found (251 ∷ zeros 2) (0 ∷ 0 ∷ 5 ∷ []) (251 ∷ zeros 2) (map pos (times 3 1)) 1 1 3 2)
    -- N2: "With k = 13, runs 0, 1 and 0, 2 are accepted; runs 0, 1 and 0, 1 are not."
    ∷ table two_runs 0 true
    ∷ table (code_of 256 13 2 (0 ∷ 1 ∷ 0 ∷ 1 ∷ [])) 5 false
    -- u(13), symbol 0 of branch 1, is in checks 0 and 2
    ∷ encoded two_runs (7 ∷ zeros 12 ++ (250 ∷ zeros 12)) (accepted (7 ∷ zeros 12 ++ (250 ∷ zeros 12 ++ (1 ∷ 7 ∷ 250 ∷ zeros 10))))
    -- received u(13) is 7: lead 2 − 1 = 1 is above 0
    ∷ decoded two_runs (0 ∷ 0 ∷ []) (zeros 13 ++ (7 ∷ zeros 25))
    (found (zeros 26) (zeros 13) (zeros 13 ++ (249 ∷ zeros 12)) (map pos (times 13 3 ++ (1 ∷ times 12 3))) 2 1 2 1)
    -- the header's code of two branches: runs 0, 1, 4 and 0, 2, 7
    ∷ table (code_of 256 13 2 (0 ∷ 1 ∷ 4 ∷ 0 ∷ 2 ∷ 7 ∷ [])) 0 true
    -- 10: no branch, 9 branches, 2 times 2,049 symbols, each before 3; 3: 3 positions for 2 branches; 4: within each run
    ∷ table (code_of 256 13 0 (0 ∷ 1 ∷ [])) 10 true
    ∷ table (code_of 256 13 9 (0 ∷ [])) 10 true
    ∷ table (code_of 256 2049 2 (0 ∷ [])) 10 true
    ∷ table (code_of 256 13 2 (0 ∷ 1 ∷ 2 ∷ [])) 3 true
    ∷ table (code_of 256 13 2 (0 ∷ 1 ∷ 2 ∷ 2 ∷ [])) 4 true
    -- N4, on a page at distance 0, where every pass is idle: of 3, 3, 2, 0, 0 the first 3, the 2 and the first 0 are run, three passes.
    -- With "smaller or equal", with the next pass in place of the first smaller one, or with skipped passes counted there would be five
    ∷ decoded code_a (3 ∷ 3 ∷ 2 ∷ 0 ∷ 0 ∷ []) (zeros 26) (found (zeros 13) (zeros 13) (zeros 13) (map pos (times 13 5)) 3 0 0 0)
    -- of 2, 3, 2, 1 the first 2 and the 1 are run, two passes: the second 2 is smaller than the 3 before it, but not than the idle pass's own.
    -- With "smaller or equal" there would be three, with the next pass or with skipped passes counted four
    ∷ decoded code_a (2 ∷ 3 ∷ 2 ∷ 1 ∷ []) (zeros 26) (found (zeros 13) (zeros 13) (zeros 13) (map pos (times 13 5)) 2 0 0 0)
    -- a pass that changes something is followed by the next, whatever its threshold: on the page of case 6 the first 3 is idle, 2 changes
    -- symbol 0, and 3 is run again
    ∷ decoded code_a (3 ∷ 2 ∷ 3 ∷ []) (7 ∷ zeros 25) (found (zeros 13) (zeros 13) (249 ∷ zeros 12) (map pos (3 ∷ times 12 5)) 3 1 4 1)
    -- N5, on the page of case 6: open fills the three buffers; then a pass with 3 is idle, and one with 2 changes symbol 0
    ∷ opening code_a (7 ∷ zeros 25) (record { number = 0; left = opened_six })
    ∷ passing code_a true 3 opened_six (made 0 opened_six 0)
    ∷ passing code_a true 2 opened_six (made 0 passed_six 1)
    -- a threshold of 32 is taken, 33 refused with 9, after 6 and after a symbol of 251, in S and in D, with 7
    ∷ passing code_a true 32 opened_six (made 0 opened_six 0)
    ∷ passing code_a true 33 opened_six (made 9 opened_six 0)
    ∷ passing code_a false 33 opened_six (made 6 opened_six 0)
    ∷ passing (one_branch 251 1 (0 ∷ [])) true 33 (state_by (0 ∷ []) (251 ∷ []) (0 ∷ [])) (made 7 (state_by (0 ∷ []) (251 ∷ []) (0 ∷ [])) 0)
    ∷ passing (one_branch 251 1 (0 ∷ [])) true 33 (state_by (0 ∷ []) (0 ∷ []) (251 ∷ [])) (made 7 (state_by (0 ∷ []) (0 ∷ []) (251 ∷ [])) 0)
    -- five calls, of which two are refused: each gets what the one before it left, and their changes are 1 in all
    ∷ called_in_turn code_a (fitting 3 ∷ fitting 33 ∷ record { threshold = 2; fits = false } ∷ fitting 2 ∷ fitting 2 ∷ []) opened_six passed_six 1 (3 ∷ 2 ∷ 2 ∷ [])
    -- N6, on the same page: symbol 0 has estimates 0, 7, 7, 7, 7, whose lead 3 is not above 3 (ground 1) and above 2 (ground 3); the 7s are bits 1
    -- to 4. Symbol 12 has 0, 0, 7, 0, 0: zero leads by 3 (ground 2), bits 0, 1, 3 and 4
    ∷ explaining code_a true 3 0 opened_six (told 0 1 7 4 1 30)
    ∷ explaining code_a true 2 0 opened_six (told 0 3 7 4 1 30)
    ∷ explaining code_a true 2 12 opened_six (told 0 2 0 4 1 27)
    -- in a tie h0 is the smallest: of 5 and 3 it is 3, bit 1
    ∷ explaining (one_branch 251 1 (0 ∷ [])) true 0 0 (state_by (0 ∷ []) (3 ∷ []) (5 ∷ [])) (told 0 1 3 1 1 2)
    -- 11 after all others
    ∷ explaining code_a true 32 13 opened_six (told 11 0 0 0 0 0)
    ∷ explaining code_a true 33 13 opened_six (told 9 0 0 0 0 0)
    ∷ explaining code_a false 33 13 opened_six (told 6 0 0 0 0 0)
    -- N7: counters 0 to 9 when 7, 2, 2, 7, 0 are counted, and the vote read from them: of 7 and 2, which are as common, h0 is 2
    ∷ counted_by 10 (7 ∷ 2 ∷ 2 ∷ 7 ∷ 0 ∷ []) (1 ∷ 0 ∷ 2 ∷ 0 ∷ 0 ∷ 0 ∷ 0 ∷ 2 ∷ 0 ∷ 0 ∷ []) (vote 2 2 2 1)
    -- decode with counters gives what decode gives, on the page of case 6; 6 where they are not 256 zeros, before 8
    ∷ with_counters code_a (2 ∷ 2 ∷ []) (7 ∷ zeros 25) (zeros 256)
    (record { given = found (zeros 13) (zeros 13) (249 ∷ zeros 12) (map pos (3 ∷ times 12 5)) 2 1 4 1; counters = zeros 256 })
    ∷ with_counters code_a [] (7 ∷ zeros 25) (zeros 255 ++ (1 ∷ [])) (record { given = refused_a 6; counters = zeros 255 ++ (1 ∷ []) })
    ∷ with_counters code_a [] (7 ∷ zeros 25) (zeros 255) (record { given = refused_a 6; counters = zeros 255 })
    ∷ with_counters code_a [] (7 ∷ zeros 25) (zeros 256) (record { given = refused_a 8; counters = zeros 256 })
    -- N8, blocks of 2: the page gets 4 and 2 at the last places, whatever was lent there, if it is below q; 12 where 3 or 0 do not divide 4, after 7
    ∷ encoded_outer code_b 2 (1 ∷ 2 ∷ 3 ∷ 4 ∷ []) (accepted (1 ∷ 4 ∷ 3 ∷ 2 ∷ 3 ∷ 0 ∷ 2 ∷ 0 ∷ []))
    ∷ encoded_outer code_b 2 (1 ∷ 5 ∷ 3 ∷ 4 ∷ []) (record { number = 7; left = lent 8 })
    ∷ encoded_outer code_b 3 (1 ∷ 5 ∷ 3 ∷ 4 ∷ []) (record { number = 7; left = lent 8 })
    ∷ encoded_outer code_b 3 (1 ∷ 2 ∷ 3 ∷ 4 ∷ []) (record { number = 12; left = lent 8 })
    ∷ encoded_outer code_b 1 (1 ∷ 2 ∷ 3 ∷ 4 ∷ []) (record { number = 12; left = lent 8 })
    ∷ encoded_outer code_b 0 (1 ∷ 2 ∷ 3 ∷ 4 ∷ []) (record { number = 12; left = lent 8 })
    -- two wrong checks, beyond the bound: the pass makes symbol 0 wrong, 3, at distance 1; block 0 sums to 3, reliability 1 is below 3, and the step
    -- makes it right again, at distance 1 + 1
    ∷ decoded_outer code_b 2 (0 ∷ []) (zeros 4 ++ (3 ∷ 3 ∷ 0 ∷ 0 ∷ [])) (found (zeros 4) (2 ∷ 2 ∷ 0 ∷ 0 ∷ []) (zeros 4) (negsuc 0 ∷ map pos (1 ∷ 3 ∷ 1 ∷ [])) 1 2 2 2)
    -- symbols 1 and 2 wrong: block 0's last symbol is the least reliable, so no step; block 1 is made right by a step of reliability 0
    ∷ decoded_outer code_b 2 (0 ∷ []) (0 ∷ 3 ∷ 3 ∷ 0 ∷ zeros 4)
    (found (0 ∷ 3 ∷ 0 ∷ 0 ∷ []) (0 ∷ 3 ∷ 3 ∷ 0 ∷ []) (0 ∷ 0 ∷ 2 ∷ 0 ∷ []) (pos 1 ∷ negsuc 0 ∷ pos 0 ∷ pos 3 ∷ []) 1 1 3 3)
    -- one block of 7 in which symbols 0, 4 and 5 have the least reliability: the earliest is changed
    ∷ decoded_outer (one_branch 5 7 (0 ∷ 1 ∷ 3 ∷ [])) 7 (0 ∷ []) (4 ∷ zeros 9 ++ (4 ∷ 0 ∷ 1 ∷ 0 ∷ []))
    (found (zeros 7) (0 ∷ 0 ∷ 0 ∷ 1 ∷ 0 ∷ 4 ∷ 0 ∷ []) (1 ∷ zeros 6) (map pos (0 ∷ 4 ∷ 1 ∷ 2 ∷ 2 ∷ 2 ∷ 4 ∷ [])) 1 1 3 3)
    -- block 0's step alters the syndrome so that block 1, which would have had a step, has none
    ∷ decoded_outer code_b 2 (0 ∷ []) (0 ∷ 0 ∷ 0 ∷ 4 ∷ 0 ∷ 1 ∷ 3 ∷ 0 ∷ [])
    (found (0 ∷ 0 ∷ 0 ∷ 4 ∷ []) (4 ∷ 4 ∷ 2 ∷ 4 ∷ []) (zeros 4) (negsuc 0 ∷ pos 0 ∷ pos 0 ∷ negsuc 0 ∷ []) 1 2 4 4)
    -- a code word whose blocks break the rule: all reliabilities are J + 1, so no step
    ∷ decoded_outer code_b 2 (0 ∷ []) (1 ∷ 2 ∷ 3 ∷ 4 ∷ 0 ∷ 3 ∷ 0 ∷ 2 ∷ []) (found (1 ∷ 2 ∷ 3 ∷ 4 ∷ []) (zeros 4) (zeros 4) (map pos (times 4 3)) 1 0 0 0)
    -- 12, after 9
    ∷ decoded_outer code_b 1 (0 ∷ []) (zeros 8) (refused_b 12)
    ∷ decoded_outer code_b 1 (33 ∷ []) (zeros 8) (refused_b 9)
    ∷ []

told_apart : map computed misreadings ≡ misreadings
unfolding computed misreadings
told_apart = refl

-- ---- bits and wide symbols (N9, N10)

-- code A on bits, and the page whose data symbol 0 is received 1: opened, and what a pass with threshold 2 leaves of it
bits_a : ℕ → Code
bits_a q = code_in bit_pages q 13 1 (0 ∷ 1 ∷ 4 ∷ 6 ∷ [])

opened_bit : State
opened_bit = state_by (1 ∷ zeros 12) (1 ∷ 1 ∷ 0 ∷ 0 ∷ 1 ∷ 0 ∷ 1 ∷ zeros 6) (zeros 13)

passed_bit : State
passed_bit = state_by (zeros 13) (zeros 13) (1 ∷ zeros 12)

-- code A on symbols of two and of four bytes; k = 3 with positions 0, 1, and k = 1, on those of two
wide_a16 : Code
wide_a16 = wide_code wide16 13 1 (0 ∷ 1 ∷ 4 ∷ 6 ∷ [])

wide_a32 : Code
wide_a32 = wide_code wide32 13 1 (0 ∷ 1 ∷ 4 ∷ 6 ∷ [])

wide_three : Code
wide_three = wide_code wide16 3 1 (0 ∷ 1 ∷ [])

-- its page with data symbol 0 received 256, opened, and what a pass with threshold 0 leaves of it: d(0) is 65,280
opened_wide : State
opened_wide = state_by (0 ∷ 1 ∷ zeros 4) (0 ∷ 1 ∷ 0 ∷ 1 ∷ 0 ∷ 0 ∷ []) (zeros 6)

passed_wide : State
passed_wide = state_by (zeros 6) (zeros 6) (0 ∷ 255 ∷ zeros 4)

-- four bytes of a number below 256
word : ℕ → List ℕ
word n = n ∷ 0 ∷ 0 ∷ 0 ∷ []

in_profiles : List Row
unfolding bits_a opened_bit passed_bit wide_a16 wide_a32 wide_three opened_wide passed_wide word accepted found made told vote times tabulate
in_profiles =
    -- N9: "Here 1 refuses all but q = 2", which the calls on bytes refuse (case 11)
    table (bits_a 2) 0 true
    ∷ table (bits_a 1) 1 true
    ∷ table (bits_a 3) 1 true
    ∷ table (one_branch 2 13 (0 ∷ 1 ∷ 4 ∷ 6 ∷ [])) 1 true
    -- u(0) and u(12) are 1, and both are in check 0; a 2 is refused
    ∷ encoded (bits_a 2) (1 ∷ zeros 11 ++ (1 ∷ [])) (accepted (1 ∷ zeros 11 ++ (1 ∷ 0 ∷ 1 ∷ 0 ∷ 1 ∷ 1 ∷ 1 ∷ 1 ∷ zeros 5 ++ (1 ∷ []))))
    ∷ encoded (bits_a 2) (2 ∷ zeros 12) (record { number = 7; left = lent 26 })
    -- four ones against one zero: a change at 2, none at 3
    ∷ voted_bits (1 ∷ 1 ∷ 0 ∷ 1 ∷ 1 ∷ []) 2 27 (vote 1 4 1 1) true
    ∷ voted_bits (1 ∷ 1 ∷ 0 ∷ 1 ∷ 1 ∷ []) 3 27 (vote 1 4 1 1) false
    -- a tie, in which 0 is h0; zeros that lead; ones alone
    ∷ voted_bits (1 ∷ 0 ∷ 1 ∷ 0 ∷ []) 0 5 (vote 0 2 2 2) false
    ∷ voted (1 ∷ 0 ∷ 1 ∷ 0 ∷ []) 0 (vote 0 2 2 2) (pos 0) false
    ∷ voted_bits (0 ∷ 1 ∷ 0 ∷ 0 ∷ []) 0 2 (vote 0 3 1 3) false
    ∷ voted_bits (times 5 1) 4 31 (vote 1 5 0 0) true
    ∷ voted_bits (times 5 1) 5 31 (vote 1 5 0 0) false
    -- cases 6 and 7 on bits: data symbol 0 is received 1
    ∷ decoded (bits_a 2) (2 ∷ 2 ∷ []) (1 ∷ zeros 25) (found (zeros 13) (zeros 13) (1 ∷ zeros 12) (map pos (3 ∷ times 12 5)) 2 1 4 1)
    ∷ decoded (bits_a 2) (3 ∷ 2 ∷ []) (1 ∷ zeros 25) (found (zeros 13) (zeros 13) (1 ∷ zeros 12) (map pos (3 ∷ times 12 5)) 2 1 4 1)
    -- data symbols 0 and 1 are received 1: in check 1, which both have, the errors cancel, so the distance is 6 and not 7
    ∷ decoded (bits_a 2) (0 ∷ 0 ∷ []) (1 ∷ 1 ∷ zeros 24) (found (zeros 13) (zeros 13) (1 ∷ 1 ∷ zeros 11) (map pos (3 ∷ 3 ∷ times 11 5)) 2 2 6 2)
    ∷ opening (bits_a 2) (1 ∷ zeros 25) (record { number = 0; left = opened_bit })
    ∷ passing (bits_a 2) true 2 opened_bit (made 0 passed_bit 1)
    ∷ passing (bits_a 3) true 2 opened_bit (made 1 opened_bit 0)
    ∷ explaining (bits_a 2) true 2 0 opened_bit (told 0 3 1 4 1 30)
    ∷ explaining (bits_a 2) true 2 12 opened_bit (told 0 2 0 4 1 27)
    -- N10: tests 2 and 5, with no q to test
    ∷ table wide_a16 0 true
    ∷ table (wide_code wide16 12 1 (0 ∷ 1 ∷ 4 ∷ 6 ∷ [])) 5 false
    ∷ table (wide_code wide32 4097 1 (0 ∷ 1 ∷ 4 ∷ 6 ∷ [])) 2 true
    -- case 5 on wide symbols: 10 and 65,530 wrap to 4 in check 0; so do 10 and 4,294,967,290
    ∷ encoded wide_a16 (10 ∷ zeros 11 ++ (65530 ∷ []))
    (accepted (10 ∷ zeros 11 ++ (65530 ∷ 4 ∷ 10 ∷ 0 ∷ 65530 ∷ 10 ∷ 65530 ∷ 10 ∷ zeros 5 ++ (65530 ∷ []))))
    ∷ encoded wide_a32 (10 ∷ zeros 11 ++ (4294967290 ∷ []))
    (accepted (10 ∷ zeros 11 ++ (4294967290 ∷ 4 ∷ 10 ∷ 0 ∷ 4294967290 ∷ 10 ∷ 4294967290 ∷ 10 ∷ zeros 5 ++ (4294967290 ∷ []))))
    -- case 6: d(0) is 0 − 7; case 8: s(2) is 0 − 9
    ∷ decoded wide_a16 (2 ∷ 2 ∷ []) (7 ∷ zeros 25) (found (zeros 13) (zeros 13) (65529 ∷ zeros 12) (map pos (3 ∷ times 12 5)) 2 1 4 1)
    ∷ decoded wide_a32 (2 ∷ 2 ∷ []) (7 ∷ zeros 25) (found (zeros 13) (zeros 13) (4294967289 ∷ zeros 12) (map pos (3 ∷ times 12 5)) 2 1 4 1)
    ∷ decoded wide_a16 (0 ∷ []) (zeros 15 ++ (9 ∷ zeros 10)) (found (zeros 13) (0 ∷ 0 ∷ 65527 ∷ zeros 10) (zeros 13)
    (map pos (5 ∷ 3 ∷ 3 ∷ 5 ∷ 5 ∷ 5 ∷ 5 ∷ 5 ∷ 5 ∷ 3 ∷ 5 ∷ 3 ∷ 5 ∷ [])) 1 0 1 1)
    -- in C: a symbol is two bytes or four, low byte first; a byte too few or too many is 6, in what is read and in what is lent
    ∷ wide_encoded (wide_code wide16 1 1 (0 ∷ [])) (52 ∷ 18 ∷ []) 4 (accepted (52 ∷ 18 ∷ 52 ∷ 18 ∷ []))
    ∷ wide_encoded (wide_code wide32 1 1 (0 ∷ [])) (1 ∷ 2 ∷ 3 ∷ 4 ∷ []) 8 (accepted (1 ∷ 2 ∷ 3 ∷ 4 ∷ 1 ∷ 2 ∷ 3 ∷ 4 ∷ []))
    ∷ wide_encoded (wide_code wide16 1 1 (0 ∷ [])) (52 ∷ []) 4 (record { number = 6; left = lent 4 })
    ∷ wide_encoded (wide_code wide16 1 1 (0 ∷ [])) (52 ∷ 18 ∷ []) 5 (record { number = 6; left = lent 5 })
    -- the low byte first: 255, 0 and 1, 0 sum to 0, 1
    ∷ wide_encoded wide_three (255 ∷ 0 ∷ 0 ∷ 0 ∷ 1 ∷ 0 ∷ []) 12 (accepted (255 ∷ 0 ∷ 0 ∷ 0 ∷ 1 ∷ 0 ∷ 0 ∷ 1 ∷ 255 ∷ 0 ∷ 1 ∷ 0 ∷ []))
    -- data symbol 0 is received 256: s(0) and s(1) are 256, the lead 2 − 1 is above 0, and d(0) becomes 65,280
    ∷ wide_syndrome wide_three (0 ∷ 1 ∷ zeros 10) (accepted (0 ∷ 1 ∷ 0 ∷ 1 ∷ 0 ∷ 0 ∷ []))
    ∷ wide_opening wide_three (0 ∷ 1 ∷ zeros 10) (record { number = 0; left = opened_wide })
    ∷ wide_passing wide_three 0 opened_wide (record { number = 0; left = record { state = passed_wide; changes = word 1 } })
    ∷ wide_explaining wide_three 0 0 opened_wide (accepted (word 3 ++ (0 ∷ 1 ∷ 0 ∷ 0 ∷ word 2 ++ (word 1 ++ (word 6 ++ word 0)))))
    ∷ wide_decoded wide_three (0 ∷ 0 ∷ []) (0 ∷ 1 ∷ zeros 10)
    (record { number = 0; left = record { state = passed_wide; margins = word 1 ++ (word 3 ++ word 3); counts = word 2 ++ (word 1 ++ (word 2 ++ word 1)) } })
    ∷ wide_decoded wide_three (0 ∷ 0 ∷ []) (0 ∷ 1 ∷ zeros 9)
    (record { number = 6; left = record { state = lent_bytes wide_three; margins = lent 12; counts = lent 16 } })
    ∷ []

in-profiles : map computed in_profiles ≡ in_profiles
unfolding computed in_profiles
in-profiles = refl

-- ---- the numbers of demand 3

-- the page of case 6, and its first visit, at threshold 2: a change that lowers the distance from 4 to 1, by 3 and no more
page_six : List ℕ
page_six = 7 ∷ zeros 25

falls_by_three : VisitFalls 256 (checks_of code_a) (distance_to code_a page_six) (record { symbol = 0; threshold = 2 }) (opened code_a page_six)
unfolding code_a page_six times branch_at checks_by checks_of check_sum_by check_symbol check_symbols code_word syndrome first_by other_by leader lead_count next_count
    estimates is_change change changes visit opened distance_to sub same differ count distance sum_over sum_of_first tabulate symbols_at subtract_at
falls_by_three = record { lowered = (λ e. omega arith); left = (λ e. absurd (subst T e tt)) }

-- code A has J = 4: two replaced symbols are within the bound at threshold 0, and not at threshold 1
bound_met : WithinBound code_a 2 0
unfolding code_a
bound_met = omega arith

bound_passed : WithinBound code_a 2 1 → ⊥
unfolding code_a
bound_passed w = omega (arith, w)

-- by the smallest of the thresholds 3, 2 the page of case 6, a page of zeros with one symbol replaced, is within the bound, and so recovered;
-- by the first it would not be
bound_by_smallest : (result : List ℕ) → DecodeRecovers code_a (3 ∷ 2 ∷ []) page_six result → result ≡ zeros 13
unfolding smallest code_a page_six times first_that_applies within positions_fit all_below size_tests table_tests page_tests encode_answer branch_at checks_by checks_of check_sum_by check_symbol check_symbols code_word
    shared every_below self_orthogonal sub same differ count distance sum_over sum_of_first tabulate
bound_by_smallest result recovers = recovers (zeros 13) (zeros 26) 1 (refl, refl) (omega arith) (omega arith)
