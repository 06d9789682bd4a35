-- Decoding a whole page: the run of passes from the opened page, and a page at distance 0.
use Rattle.std.specs.Prelude.{◌≡◌, List, ℕ, ◌+◌, ◌≤◌}
use Rattle.std.proofs.Math.Path.{ap, sym}
use Rattle.std.proofs.Common.{◌∙◌}
use native.Mathlib.Omega.{arith}
use Rattle.std.proofs.Math.ListN.{length}
use Rattle.model.specs.Code.{Code, data_count, page_length, checks_of}
use Rattle.model.specs.Decoder.{State, change_count, passes, none, thresholds_run, data_symbols, opened, passes_of, run, distance_to, Counts, decoded_state, decoded_counts, state_weight}
use Rattle.model.specs.Symbols.{weight}
use Rattle.theory.specs.Codes.{Usable, code_incidence}
use Rattle.theory.specs.Counting.{zeros_weight}
use Rattle.theory.specs.Decoding.{code_opened_sized, code_distance, code_idle, code_minima}
use Rattle.theory.specs.Falling.{InRange, after_sized}
use Rattle.theory.specs.Runs.{range_passes, symbols_range}
use Rattle.theory.specs.Schedule.{minima}
use Rattle.theory.specs.Steps.{SymbolsBelow}
use Rattle.passes.specs.Runs.{ran, passes_from, run_of}
use Rattle.visits.specs.Progress.{Progress, ReadyIn}
use Rattle.tally.specs.declared.Tally.{Tally}

-- the counts as the tally has them
abbrev pub tally_of : Counts → Tally
tally_of n = record { passes = n.passes; changes = n.changes; start = n.start; end = n.end }

-- what decoding a page hands back
abbrev pub decoded : Code → List ℕ → List ℕ → Progress
decoded c ts page = record { state = decoded_state c ts page; tally = tally_of (decoded_counts c ts page) }

-- an opened page before the first pass, at distance n
abbrev pub start_at : Code → List ℕ → ℕ → Progress
start_at c page n = record { state = opened c page; tally = record { passes = 0; changes = 0; start = n; end = n } }

-- ---- single facts

-- a weight is at most the length, so that the sum of two fits
pub weights_small : (xs ys : List ℕ) → length xs ≤ 4096 → length ys ≤ 4096 → weight xs + weight ys ≤ 8192
weights_small xs ys a b = omega (arith, zeros_weight xs, zeros_weight ys)

-- ---- the opened page

module _ (c : Code) (page : List ℕ) (u : Usable c) (whole : SymbolsBelow c.q (page_length c) page) where
  pub opened_ready : {w : ℕ} → c.q ≤ w → ReadyIn w c (opened c page)
  opened_ready h = record { usable = u; bytes = h; sized = code_opened_sized c u page whole }

  range : (ts : List ℕ) → InRange (data_count c) (run c ts page)
  unfolding run
  range ts = range_passes (data_count c) (data_symbols c) (symbols_range c) (passes_of c ts page)

  -- after the run the distance is the weight of D and S
  pub decoded_distance : (ts : List ℕ) → state_weight (decoded_state c ts page) ≡ distance_to c page (decoded_state c ts page)
  unfolding decoded_state
  decoded_distance ts = sym (code_distance c u page whole (run c ts page) (range ts))

  -- a page at distance 0: every pass is idle
  pub clean_decoded : distance_to c page (opened c page) ≡ 0 → (ts : List ℕ) (n : ℕ) → n ≡ length (minima none ts)
      → ◌≡◌ {A = Progress} (record { state = opened c page; tally = record { passes = n; changes = 0; start = 0; end = 0 } }) (decoded c ts page)
  unfolding decoded_state decoded_counts
  clean_decoded z ts n e =
      let i = code_idle c u page whole z (run c ts page) (range ts) in
      λ x. record {
        state = sym i.0 x;
        tally = record {
          passes = (e ∙ ap length (sym (code_minima c u page whole z ts))) x;
          changes = sym i.1 x;
          start = sym z x;
          end = sym (ap (distance_to c page) i.0 ∙ z) x;
        };
      }

  -- ---- the run of the passes from it

  module _ (ts : List ℕ) (n : ℕ) (x : Progress) (f : x ≡ run_of c ts (start_at c page n)) where
    run_state : x.state ≡ decoded_state c ts page
    unfolding run_of passes_from ran decoded_state run passes_of
    run_state = ap (λ (y : Progress). y.state) f

    run_passes : x.tally.passes ≡ length (passes_of c ts page)
    unfolding run_of passes_from ran passes_of
    run_passes = ap (λ (y : Progress). y.tally.passes) f ∙ (let z : 0 + length (passes_of c ts page) ≡ length (passes_of c ts page) = omega arith in z)

    run_changes : x.tally.changes ≡ change_count c.q (checks_of c) (run c ts page) (opened c page)
    unfolding run_of passes_from ran run passes_of
    run_changes =
        ap (λ (y : Progress). y.tally.changes) f
        ∙ (let z : 0 + change_count c.q (checks_of c) (run c ts page) (opened c page) ≡ change_count c.q (checks_of c) (run c ts page) (opened c page) = omega arith in z)

    -- what it leaves has the lengths that it found
    pub run_lengths : (length x.state.difference ≤ 4096) × (length x.state.syndrome ≤ 4096)
    unfolding run_of passes_from ran
    run_lengths =
        let z = after_sized (code_incidence c u) (passes (data_symbols c) (thresholds_run c.q (checks_of c) (data_symbols c) none ts (opened c page)))
        (opened c page) (code_opened_sized c u page whole) in
        let l = u.table.sizes in
        rw f (omega (arith, z.len_difference, l.data-high), omega (arith, z.len_syndrome, l.k_high))

    -- it is the decode: e is the weight of D and S that it leaves
    pub run_decoded : (e : ℕ) → n ≡ distance_to c page (opened c page) → e ≡ weight x.state.difference + weight x.state.syndrome
        → ◌≡◌ {A = Progress} (record { state = x.state; tally = record { passes = x.tally.passes; changes = x.tally.changes; start = x.tally.start; end = e } })
        (decoded c ts page)
    unfolding run_of passes_from ran decoded_counts state_weight
    run_decoded e g w = λ i. record {
      state = run_state i;
      tally = record {
        passes = run_passes i;
        changes = run_changes i;
        start = (ap (λ (y : Progress). y.tally.start) f ∙ g) i;
        end = (w ∙ ap state_weight run_state ∙ decoded_distance ts) i;
      };
    }
