-- Demand's definitions of a pass and of the outer check, at the numbers of worked pages. Each holds at some, its inequalities with no 1 to spare; and
-- at others, which a weaker definition would let pass, it does not hold, or gives what must follow.
use Rattle.std.specs.Prelude.{◌≡◌, refl, ◌≢◌, true, false, List, [], ◌∷◌, ℕ, zero, suc, ◌%◌, ◌<◌, T, pos, get_or}
use Rattle.std.proofs.Common.{ap, sym, ◌∙◌, subst, arith}
use Rattle.std.specs.Int.Signed.{mag}
use Rattle.model.specs.Symbols.{sub, same, differ, count, weight, distance, sum_over, sum_of_first, tabulate, symbols_at, subtract_at}
use Rattle.model.specs.Code.{Code, code_of, branch_at, checks_by, checks_of, check_sum_by, check_symbol, check_symbols, code_word, syndrome, shared, every_below, self_orthogonal}
use Rattle.model.specs.Vote.{first_by, other_by, leader, lead_count, next_count}
use Rattle.model.specs.Decoder.{state_by, State, Visit, Counts, estimates, is_change, change, changes, visit, after, change_count, pass, passes, allows, thresholds_run, data_symbols, opened, passes_of, run, state_weight, distance_to, decoded_state, decoded_counts}
use Rattle.model.specs.Outer.{part_sum, outer_word, reliability, reliability_of, least_below, weakest, is_step, outer_step}
use Rattle.model.specs.Calls.{first_that_applies, within, positions_fit, all_below, size_tests, table_tests, page_tests, encode_answer, passed_state}
use Rattle.model.specs.Demand.{VisitFalls, spent, PassFalls, smallest, KeepsOuter, EncodesOuter, StepAdds, OuterRecovers}

-- ---- a pass (N5)

-- q = 5, k = 7, positions 0, 1, 3
code_c : Code
code_c = code_of 5 7 1 (0 ∷ 1 ∷ 3 ∷ [])

-- its page of zeros with data symbol 0 received 3, opened
opened_three : State
opened_three = state_by (3 ∷ 0 ∷ 0 ∷ 0 ∷ 0 ∷ 0 ∷ 0 ∷ []) (3 ∷ 3 ∷ 0 ∷ 3 ∷ 0 ∷ 0 ∷ 0 ∷ []) (0 ∷ 0 ∷ 0 ∷ 0 ∷ 0 ∷ 0 ∷ 0 ∷ [])

-- a visit that is no change
idle : (q : ℕ) (checks : ℕ → List ℕ) (d : State → ℕ) (v : Visit) (st : State) → changes checks v st ≡ false → VisitFalls q checks d v st
unfolding visit
idle q checks d v st f = record { lowered = (λ e. absurd (subst T (sym e ∙ f) tt)); left = (λ e. rw f refl) }

-- a pass with threshold 1 changes symbol 0, which lowers the nonzero symbols of S and D from 3 to 1, by 2 and no more, and leaves the other six
pass_by_two : PassFalls code_c 1 opened_three
unfolding code_c opened_three spent pass branch_at checks_by checks_of first_by other_by leader lead_count next_count estimates is_change change changes visit after state_weight
    sub same differ count weight tabulate symbols_at subtract_at
pass_by_two = record {
  falls = (
    record { lowered = (λ e. omega arith); left = (λ e. absurd (subst T e tt)) },
    (idle _ _ _ _ _ refl, (idle _ _ _ _ _ refl, (idle _ _ _ _ _ refl, (idle _ _ _ _ _ refl, (idle _ _ _ _ _ refl, (idle _ _ _ _ _ refl, tt)))))),
  );
  total = omega arith;
}

pass_numbers : (state_weight opened_three ≡ 3) × (state_weight (passed_state code_c 1 opened_three) ≡ 1)
    × (spent 5 (checks_of code_c) (pass (data_symbols code_c) 1) opened_three ≡ 2)
unfolding code_c opened_three spent pass branch_at checks_by checks_of first_by other_by leader lead_count next_count estimates is_change change changes visit after state_weight
    sub same differ count weight tabulate symbols_at subtract_at
pass_numbers = (refl, refl, refl)

-- k = 1 and position 0 twice, a table that no call takes: check 0 loses h0 = 3 twice, so that the change lowers 2 to 1, which is not by more than 1
twice_position : Code
twice_position = code_of 5 1 1 (0 ∷ 0 ∷ [])

threes : State
threes = state_by (3 ∷ []) (3 ∷ []) (3 ∷ [])

two_not_below_two : 2 < 2 → ⊥
two_not_below_two h = omega (arith, h)

no_visit_falls : PassFalls twice_position 1 threes → ⊥
unfolding twice_position threes spent pass branch_at checks_by checks_of first_by other_by leader lead_count next_count estimates is_change change changes visit after state_weight
    sub same differ count weight tabulate symbols_at subtract_at
no_visit_falls p = two_not_below_two (p.falls.0.lowered refl)

no_total : PassFalls twice_position 1 threes → ⊥
unfolding twice_position threes spent pass branch_at checks_by checks_of first_by other_by leader lead_count next_count estimates is_change change changes visit after state_weight
    sub same differ count weight tabulate symbols_at subtract_at
no_total p = omega (arith, p.total)

-- ---- the outer check (N8)

-- k = 4, positions 0, 1, q = 5, in blocks of 2
code_b : Code
code_b = code_of 5 4 1 (0 ∷ 1 ∷ [])

-- 1 + 4 and 3 + 2 are 0 modulo 5,
rule_kept : KeepsOuter code_b 2 (1 ∷ 4 ∷ 3 ∷ 2 ∷ [])
unfolding code_b part_sum sum_of_first
rule_kept zero h = refl
rule_kept (suc zero) h = refl
rule_kept (suc (suc i)) h = absurd (omega (arith, h))

-- 1 + 3 and 3 + 3 are not
first_block_broken : KeepsOuter code_b 2 (1 ∷ 3 ∷ 3 ∷ 2 ∷ []) → ⊥
unfolding code_b part_sum sum_of_first
first_block_broken k = omega (arith, k 0 (omega arith))

last_block_broken : KeepsOuter code_b 2 (1 ∷ 4 ∷ 3 ∷ 3 ∷ []) → ⊥
unfolding code_b part_sum sum_of_first
last_block_broken k = omega (arith, k 1 (omega arith))

-- the data 1, 2, 3, 4 is sent as this page, with 4 and 2 at the last places, which the checks count,
data_four : List ℕ
data_four = 1 ∷ 2 ∷ 3 ∷ 4 ∷ []

sent_four : List ℕ
sent_four = 1 ∷ 4 ∷ 3 ∷ 2 ∷ 3 ∷ 0 ∷ 2 ∷ 0 ∷ []

encoded_in_blocks : EncodesOuter code_b 2 data_four sent_four
unfolding code_b data_four sent_four first_that_applies within positions_fit all_below size_tests table_tests page_tests encode_answer branch_at checks_by checks_of check_sum_by check_symbol
    check_symbols code_word shared every_below self_orthogonal part_sum outer_word sub same count sum_over sum_of_first tabulate
encoded_in_blocks = record { agrees = agrees; keeps = rule_kept; encodes = (refl, refl) }
  where
    agrees : (j : ℕ) → j < 4 → j % 2 ≢ 1 → get_or (outer_word code_b 2 data_four) j 0 ≡ get_or data_four j 0
    agrees zero h n = refl
    agrees (suc zero) h n = absurd (n refl)
    agrees (suc (suc zero)) h n = refl
    agrees (suc (suc (suc zero))) h n = absurd (n refl)
    agrees (suc (suc (suc (suc j)))) h n = absurd (omega (arith, h))

-- and as no other page
no_other_page : (sent : List ℕ) → EncodesOuter code_b 2 data_four sent → sent ≡ sent_four
unfolding code_b data_four sent_four branch_at check_sum_by check_symbol check_symbols code_word part_sum outer_word sub sum_over sum_of_first tabulate
no_other_page sent e = e.encodes.1

-- two wrong checks, 3 and 3, of a page of zeros: the pass has made data symbol 0 wrong, at distance 1
page_checks : List ℕ
page_checks = 0 ∷ 0 ∷ 0 ∷ 0 ∷ 3 ∷ 3 ∷ 0 ∷ 0 ∷ []

passed_checks : State
passed_checks = state_by (3 ∷ 0 ∷ 0 ∷ 0 ∷ []) (0 ∷ 0 ∷ 0 ∷ 0 ∷ []) (3 ∷ 0 ∷ 0 ∷ 0 ∷ [])

-- block 0 sums to 3, and symbol 0 has reliability 2 − 1, so the step adds 1 to the distance; block 1 has no step
step_adds_one : StepAdds code_b 2 page_checks 0 passed_checks
unfolding code_b page_checks passed_checks branch_at checks_by checks_of check_sum_by check_symbol check_symbols code_word estimates change distance_to
    part_sum reliability least_below weakest is_step outer_step sub same differ count distance sum_over sum_of_first tabulate symbols_at subtract_at
step_adds_one = record { added = (λ e. refl); left = (λ e. absurd (subst T e tt)) }

step_numbers : (distance_to code_b page_checks passed_checks ≡ 1) × (distance_to code_b page_checks (outer_step code_b 2 0 passed_checks) ≡ 2)
    × (reliability_of code_b 3 passed_checks 0 ≡ pos 1) × (is_step code_b 2 0 passed_checks ≡ true)
unfolding code_b page_checks passed_checks branch_at checks_by checks_of check_sum_by check_symbol check_symbols code_word estimates change distance_to
    part_sum reliability least_below weakest is_step outer_step sub same differ count distance sum_over sum_of_first tabulate symbols_at subtract_at
step_numbers = (refl, refl, refl, refl)

no_step_adds_none : StepAdds code_b 2 page_checks 1 passed_checks
unfolding code_b page_checks passed_checks branch_at checks_by checks_of check_sum_by check_symbol check_symbols code_word estimates change distance_to
    part_sum reliability least_below weakest is_step outer_step sub same differ count distance sum_over sum_of_first tabulate symbols_at subtract_at
no_step_adds_none = record { added = (λ e. absurd (subst T (sym e) tt)); left = (λ e. refl) }

-- on a page that this state is not of the same step lowers the distance, from 3 to 0
not_of_the_page : StepAdds code_b 2 (0 ∷ 0 ∷ 0 ∷ 0 ∷ 0 ∷ 0 ∷ 0 ∷ 0 ∷ []) 0 passed_checks → ⊥
unfolding code_b passed_checks branch_at checks_by checks_of check_sum_by check_symbol check_symbols code_word estimates change distance_to
    part_sum reliability least_below weakest is_step outer_step sub same differ count distance sum_over sum_of_first tabulate symbols_at subtract_at
not_of_the_page s = omega (arith, ap mag (s.added refl))

-- 2 is received for the 1 of that page, one replaced symbol, and J is 2: with thresholds 1, 0 decode in blocks of 2 gives back the data sent, by one
-- change. By the smallest threshold that is within the bound, by the first it is not
recovered_in_blocks : (result : List ℕ) (counts : Counts) → OuterRecovers code_b 2 (1 ∷ 0 ∷ []) (2 ∷ 4 ∷ 3 ∷ 2 ∷ 3 ∷ 0 ∷ 2 ∷ 0 ∷ []) result counts
    → (result ≡ 1 ∷ 4 ∷ 3 ∷ 2 ∷ []) × (counts.changes ≡ 1)
unfolding code_b sent_four smallest first_that_applies within positions_fit all_below size_tests table_tests page_tests encode_answer branch_at checks_by checks_of check_sum_by check_symbol
    check_symbols code_word syndrome shared every_below self_orthogonal first_by other_by leader lead_count next_count estimates is_change change changes visit after change_count pass
    passes allows thresholds_run opened passes_of run distance_to decoded_state decoded_counts sub same differ count distance sum_over sum_of_first tabulate symbols_at subtract_at
recovered_in_blocks result counts recovers =
    let r = recovers (1 ∷ 4 ∷ 3 ∷ 2 ∷ []) sent_four 1 (refl, refl) rule_kept (omega arith) (omega arith) in
    (r.data_sent, r.changes)
