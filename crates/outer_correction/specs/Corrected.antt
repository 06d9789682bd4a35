-- Correcting a whole page in blocks: the passes, and then the outer steps.
use Rattle.std.specs.Prelude.{◌≡◌, ℕ, ◌+◌, ◌≤◌}
use Rattle.std.proofs.Math.Path.{ap, sym, subst}
use Rattle.std.proofs.Common.{◌∙◌}
use mathlib.Core.List.{List, []}
use Rattle.std.proofs.Math.Decide.{ℕ_discrete}
use native.Mathlib.Omega.{arith}
use Rattle.model.specs.Code.{highest, Code, data_count, check_count, checks_of}
use Rattle.model.specs.Decoder.{State, after, data_symbols, opened, passes_of, run, distance_to, decoded_state, decoded_counts, state_weight}
use Rattle.model.specs.Outer.{block_count, outer_steps, step_count, outer_state, outer_counts}
use Rattle.theory.specs.Answers.{Opens, BlockFits}
use Rattle.theory.specs.InBlocks.{Blocks}
use Rattle.theory.proofs.Statements.{one_block}
use Rattle.theory.specs.Decoding.{OnPage, on_distance, code_on, code_falls, code_distance, code_opened_sized}
use Rattle.theory.specs.Falling.{InRange, changes_spent}
use Rattle.theory.specs.Moments.{weight_few}
use Rattle.theory.specs.OuterCheck.{no_steps, steps_on}
use Rattle.theory.proofs.OuterCheck.{clean_no_step}
use Rattle.theory.specs.Runs.{range_passes, symbols_range}
use Rattle.correction.specs.Decoded.{tally_of, decoded, decoded_distance}
use Rattle.outer_steps.specs.Blocks.{Stepped, steps_to, none_made, steps_ready, steps_fit, blocks_few}
use Rattle.visits.specs.Progress.{Progress, Ready}

-- what it hands back
abbrev pub corrected : Code → ℕ → List ℕ → List ℕ → Progress
corrected c L ts page = record { state = outer_state c L ts page; tally = tally_of (outer_counts c L ts page) }

module _ (c : Code) (L : ℕ) (ts page : List ℕ) (lent : State) (o : Opens c page lent) where
  abbrev st : State
  st = decoded_state c ts page

  range : InRange (data_count c) (run c ts page)
  unfolding run
  range = range_passes (data_count c) (data_symbols c) (symbols_range c) (passes_of c ts page)

  -- what the passes leave
  passes_on : OnPage c page st
  unfolding decoded_state
  passes_on = code_on c o.usable page o.whole (run c ts page) range

  passes_ready : highest c.profile ≤ 256 → Ready c st
  passes_ready h = record { usable = o.usable; bytes = omega (arith, o.high); sized = passes_on.sized }

  -- they change no more often than the distance at the start tells
  changes_few : (decoded_counts c ts page).changes ≤ 8192
  unfolding decoded_counts after
  changes_few =
      let l = o.usable in
      let z = l.table.sizes in
      omega (
        arith,
        (code_falls c l page o.whole (run c ts page) range).total,
        changes_spent c.q (checks_of c) (run c ts page) (opened c page),
        code_distance c l page o.whole [] tt,
        weight_few c.q (data_count c) (check_count c) (opened c page) (code_opened_sized c l page o.whole),
        z.data-high,
        z.k_high,
      )

  -- where no step is made, it is what the passes leave
  as_passed : outer_steps c L (block_count c L) st ≡ st → step_count c L (block_count c L) st ≡ 0 → decoded c ts page ≡ corrected c L ts page
  unfolding outer_state outer_counts decoded_counts
  as_passed e z = λ i. record {
    state = sym e i;
    tally = record {
      passes = (decoded_counts c ts page).passes;
      changes = (let n : (decoded_counts c ts page).changes ≡ (decoded_counts c ts page).changes + step_count c L (block_count c L) st = omega (arith, z) in n) i;
      start = (decoded_counts c ts page).start;
      end = ap (distance_to c page) (sym e) i;
    };
  }

  -- and what the steps leave
  stepped_on : BlockFits c L → OnPage c page (outer_state c L ts page)
  unfolding outer_state
  stepped_on fits = steps_on c L fits o.usable page o.whole (block_count c L) (omega arith) st passes_on

  pub corrected_on : Blocks c L → OnPage c page (outer_state c L ts page)
  corrected_on fits = elim (ℕ_discrete L 1) as (λ x. OnPage c page (outer_state c L ts page)) [
    | yes y ↦ subst (OnPage c page) (sym (ap (λ (n : ℕ). outer_state c n ts page) y ∙ (one_block c ts page).0)) passes_on
    | no n ↦ stepped_on (fits n)
  ]

  module _ (p : Progress) (e : p ≡ decoded c ts page) where
    pub passed_ready : highest c.profile ≤ 256 → Ready c p.state
    passed_ready h = subst (λ (y : Progress). Ready c y.state) (sym e) (passes_ready h)

    -- in blocks of 1 no step is made
    pub one_corrected : L ≡ 1 → p ≡ corrected c L ts page
    one_corrected y =
        let one = one_block c ts page in
        e ∙ (λ i. record { state = sym one.0 i; tally = tally_of (sym one.1 i) }) ∙ ap (λ (n : ℕ). corrected c n ts page) (sym y)

    -- and none at distance 0
    pub clean_corrected : Blocks c L → p.tally.end ≡ 0 → p ≡ corrected c L ts page
    unfolding decoded_counts
    clean_corrected fits z = elim (ℕ_discrete L 1) as (λ x. p ≡ corrected c L ts page) [
      | yes y ↦ one_corrected y
      | no m ↦
          let n = no_steps c L st (block_count c L)
          (λ i h. clean_no_step c L (fits m) o.usable page o.whole i h st (decoded_distance c page o.usable o.whole ts ∙ sym (ap (λ (y : Progress). y.tally.end) e) ∙ z)) in
          e ∙ as_passed n.0 n.1
    ]

    -- ---- what the steps leave

    module _ (fits : BlockFits c L) (x : Stepped) (f : x ≡ steps_to c L (block_count c L) p.state) where
      from-passed : x ≡ steps_to c L (block_count c L) st
      from-passed = f ∙ ap (λ (y : Progress). steps_to c L (block_count c L) y.state) e

      pub stepped-ready : highest c.profile ≤ 256 → Ready c x.state
      unfolding steps_to
      stepped-ready h = subst (λ (y : Stepped). Ready c y.state) (sym from-passed) (steps_ready c L (block_count c L) st (passes_ready h))

      -- the changes, the steps included, fit
      pub stepped-few : p.tally.changes + x.steps ≤ 12288
      stepped-few = omega (
        arith,
        ap (λ (y : Progress). y.tally.changes) e,
        changes_few,
        steps_fit c L (block_count c L) st x from-passed,
        blocks_few c L fits,
        o.usable.table.sizes.data-high,
      )

      -- none is made
      pub left-corrected : x.steps ≡ 0 → (p.state ≡ x.state) × (◌≡◌ {A = Progress} (record { state = x.state; tally = p.tally }) (corrected c L ts page))
      unfolding steps_to
      left-corrected z =
          let n : step_count c L (block_count c L) st ≡ 0 = sym (ap (λ (y : Stepped). y.steps) from-passed) ∙ z in
          let k : outer_steps c L (block_count c L) st ≡ st = none_made c L (block_count c L) st n in
          let g : x.state ≡ st = ap (λ (y : Stepped). y.state) from-passed ∙ k in
          (ap (λ (y : Progress). y.state) e ∙ sym g, (λ i. record { state = g i; tally = (e i).tally }) ∙ as_passed k n)

      -- some are: w is the weight of D and S then
      pub steps-corrected : (w : ℕ) → w ≡ state_weight x.state
          → ◌≡◌ {A = Progress} (record { state = x.state; tally = record { passes = p.tally.passes; changes = p.tally.changes + x.steps; start = p.tally.start; end = w } })
          (corrected c L ts page)
      unfolding outer_state outer_counts steps_to
      steps-corrected w g =
          λ i. record {
            state = (from-passed i).state;
            tally = record {
              passes = (e i).tally.passes;
              changes = (e i).tally.changes + (from-passed i).steps;
              start = (e i).tally.start;
              end = (g ∙ ap (λ (y : Stepped). state_weight y.state) from-passed ∙ sym (on_distance c o.usable page o.whole (outer_steps c L (block_count c L) st) (stepped_on fits))) i;
            };
          }
