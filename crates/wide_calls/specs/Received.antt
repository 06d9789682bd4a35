-- What opening and decoding take once the page stands in the result and S, and what a decode leaves for its margins.
use Rattle.std.specs.Prelude.{◌≡◌, ◌≢◌, Bool, true, ◌&&◌, List, ◌++◌, ℕ, ◌+◌, ◌≤◌, eqb, ℤ, take}
use Rattle.std.proofs.Math.Path.{ap}
use Rattle.std.proofs.Common.{sym, ◌∙◌, subst}
use Rattle.std.proofs.Math.ListN.{length}
use Rattle.model.specs.Calls.{Decoded, decode_fits, decode_answer, decode_outcome}
use Rattle.model.specs.Code.{Code, data_count, page_length}
use Rattle.model.specs.Decoder.{State, state_by, data_symbols, passes_of, run, Counts, decoded_state, decoded_counts, margins_of, state_weight}
use Rattle.model.specs.Demand.{DecodeFalls, DecodeRecovers}
use Rattle.model.specs.Symbols.{weight}
use Rattle.theory.specs.Answers.{Opens, Taken}
use Rattle.theory.specs.Codes.{Usable}
use Rattle.theory.specs.Decoding.{OnPage, on_distance, code_on}
use Rattle.theory.specs.Falling.{InRange}
use Rattle.theory.specs.Outcomes.{outcome_number, outcome_done}
use Rattle.theory.specs.Runs.{range_passes, symbols_range}
use Rattle.theory.proofs.Statements.{decode_falls, decode_recovers}
use Rattle.theory.specs.Steps.{SymbolsBelow}
use Rattle.correction.specs.Decoded.{decoded}
use Rattle.margins.specs.Margins.{Left}
use Rattle.visits.specs.Progress.{Progress}
use Rattle.zeros.specs.Counts.{zero_counts}

-- the page, in the result x and S y that were r and s
module _ (c : Code) (page r s d x y : List ℕ) (e : x ++ y ≡ page) (l : length x ≡ length r) (m : length y ≡ length s) where
  pub opens_loaded : Opens c page (state_by r s d) → Opens c (x ++ y) (state_by x y d)
  opens_loaded o = record {
    usable = o.usable;
    high = o.high;
    whole = subst (SymbolsBelow c.q (page_length c)) (sym e) o.whole;
    len_result = l ∙ o.len_result;
    len_syndrome = m ∙ o.len_syndrome;
    len_difference = o.len_difference;
  }

  pub taken_loaded : (ts : List ℕ) → Taken c page ts (state_by r s d) → Taken c (x ++ y) ts (state_by x y d)
  taken_loaded ts t = record { opens = opens_loaded t.opens; some = t.some; few = t.few; small = t.small }

-- what a decode leaves for its margins
module _ (c : Code) (page ts : List ℕ) (u : Usable c) (whole : SymbolsBelow c.q (page_length c) page) where
  range : InRange (data_count c) (run c ts page)
  unfolding run
  range = range_passes (data_count c) (data_symbols c) (symbols_range c) (passes_of c ts page)

  decoded_on : OnPage c page (decoded_state c ts page)
  unfolding decoded_state
  decoded_on = code_on c u page whole (run c ts page) range

  pub left_by : (x : Progress) (zeros : List ℕ) → x ≡ decoded c ts page → data_count c ≤ length zeros
      → (x.tally.end ≢ 0 → take (data_count c) zeros ≡ zero_counts c x.state.syndrome)
      → Left c x.state.syndrome x.state.difference zeros x.tally.end
  unfolding decoded_counts state_weight
  left_by x zeros e room counted = record {
    checks = record { table = u.table; len = ap (λ (y : Progress). length y.state.syndrome) e ∙ decoded_on.sized.len_syndrome };
    len_difference = ap (λ (y : Progress). length y.state.difference) e ∙ decoded_on.sized.len_difference;
    weighed = ap (λ (y : Progress). y.tally.end) e ∙ on_distance c u page whole (decoded_state c ts page) decoded_on
        ∙ ap (λ (y : Progress). weight y.state.difference + weight y.state.syndrome) (sym e);
    room = room;
    counted = counted;
  }

-- Demand 3 of a decode that is done, by its outcome
pub decode_holds : (c : Code) (page ts : List ℕ) (lent : State) (margins : List ℤ) (r : ℕ) (x : Decoded (List ℤ) Counts)
    → record { number = r; left = x } ≡ decode_outcome c true page ts lent margins
    → (record { number = r; left = x } ≡ decode_outcome c true page ts lent margins)
    × ((r ≡ 0 → DecodeFalls c ts page x.counts) × (r ≡ 0 → DecodeRecovers c ts page x.state.result))
unfolding decode_outcome
decode_holds c page ts lent margins r x e =
    let fits : Bool = eqb (length margins) (data_count c) in
    let done : r ≡ 0 → x ≡ record { state = decoded_state c ts page; margins = margins_of c (decoded_state c ts page); counts = decoded_counts c ts page } =
    (λ z. outcome_done _ _ _ r x e z) in
    let taken : r ≡ 0 → decode_answer c (fits && decode_fits c page lent) page ts ≡ 0 = (λ z. sym (outcome_number _ _ _ r x e) ∙ z) in (
      e,
      (
        λ z. subst (λ (y : Decoded (List ℤ) Counts). DecodeFalls c ts page y.counts) (sym (done z)) (decode_falls c fits page ts lent (taken z)),
        λ z. subst (λ (y : Decoded (List ℤ) Counts). DecodeRecovers c ts page y.state.result) (sym (done z)) (decode_recovers c fits page ts lent (taken z)),
      ),
    )
