-- What decode leaves and counts, for every form of the call, and what its margins are filled from.
use Rattle.std.specs.Prelude.{◌≡◌, ◌≢◌, Bool, true, List, ℕ, ◌+◌, ◌≤◌, length, take}
use Rattle.std.proofs.Common.{ap, sym, subst, ◌∙◌, arith}
use Rattle.model.specs.Calls.{Outcome, outcome, no_counts}
use Rattle.model.specs.Code.{Code, data_count}
use Rattle.model.specs.Decoder.{State, Counts, state_weight}
use Rattle.model.specs.Outer.{outer_state, outer_counts}
use Rattle.model.specs.Symbols.{weight, Below}
use Rattle.theory.specs.Answers.{Opens}
use Rattle.theory.specs.Decoding.{OnPage, on_distance}
use Rattle.theory.specs.InBlocks.{Blocks, blocks_answer}
use Rattle.margins.specs.Margins.{Left}
use Rattle.ones.specs.Pages.{AllBits}
use Rattle.outer_correction.specs.Corrected.{corrected, corrected_on}
use Rattle.visits.specs.Progress.{Progress}
use Rattle.zeros.specs.Counts.{zero_counts}

-- what decoding leaves and counts, its margins apart
pub record Ran : Type 0 where
  pub state : State
  pub counts : Counts

-- in blocks of n, with lent buffers that fit or not
unfoldable pub ran_outcome : Code → ℕ → Bool → List ℕ → List ℕ → State → Outcome Ran
ran_outcome c n fits page thresholds lent =
    outcome (blocks_answer c n fits page thresholds)
    (record { state = outer_state c n thresholds page; counts = outer_counts c n thresholds page })
    (record { state = lent; counts = no_counts })

-- what it leaves for its margins
pub left_by : (c : Code) (n : ℕ) (page ts : List ℕ) (lent : State) → Opens c page lent → Blocks c n → (x : Progress) (zeros : List ℕ) → x ≡ corrected c n ts page
    → data_count c ≤ length zeros → (x.tally.end ≢ 0 → take (data_count c) zeros ≡ zero_counts c x.state.syndrome)
    → Left c x.state.syndrome x.state.difference zeros x.tally.end
unfolding outer_counts state_weight
left_by c n page ts lent o fits x zeros e room counted =
    let on : OnPage c page (outer_state c n ts page) = corrected_on c n ts page lent o fits in
    record {
      checks = record { table = o.usable.table; len = ap (λ (y : Progress). length y.state.syndrome) e ∙ on.sized.len_syndrome };
      len_difference = ap (λ (y : Progress). length y.state.difference) e ∙ on.sized.len_difference;
      weighed = ap (λ (y : Progress). y.tally.end) e ∙ on_distance c o.usable page o.whole (outer_state c n ts page) on
          ∙ ap (λ (y : Progress). weight y.state.difference + weight y.state.syndrome) (sym e);
      room = room;
      counted = counted;
    }

-- on bit pages all of it is bits
pub low_by : (c : Code) (n : ℕ) (page ts : List ℕ) (lent : State) → Opens c page lent → Blocks c n → (x : Progress) → x ≡ corrected c n ts page
    → (bits : Bool) → (bits ≡ true → c.q ≤ 2) → AllBits bits x.state.syndrome x.state.difference
low_by c n page ts lent o fits x e bits two z =
    let on : OnPage c page (outer_state c n ts page) = corrected_on c n ts page lent o fits in
    subst (λ (y : Progress). Below 2 y.state.syndrome × Below 2 y.state.difference) (sym e)
    ((λ i. omega (arith, two z, on.sized.in_syndrome i)), (λ i. omega (arith, two z, on.sized.in_difference i)))
