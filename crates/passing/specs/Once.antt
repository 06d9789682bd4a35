-- The run of passes on a list of one threshold is one pass.
use Rattle.std.specs.Prelude.{◌≡◌}
use Rattle.std.proofs.Math.Path.{ap}
use Rattle.std.proofs.Common.{◌∙◌, arith}
use mathlib.Core.List.{List, [], ◌∷◌, append-nil}
use Prim.Native.Nat.{ℕ, ◌+◌, ◌≤◌}
use Rattle.model.specs.Calls.{passed_state, passed_changes}
use Rattle.model.specs.Code.{highest, Code, checks_of}
use Rattle.model.specs.Decoder.{State, Visit, after, change_count, pass, passes, allows, thresholds_run, data_symbols}
use Rattle.theory.specs.Answers.{PassTaken, table_usable}
use Rattle.passes.specs.Runs.{ran, passes_from, run_of}
use Rattle.visits.specs.Progress.{Progress, Ready}

-- what a pass takes is what the run of passes works on
pub taken_ready : (c : Code) (t : ℕ) (st : State) → highest c.profile ≤ 256 → PassTaken c t st → Ready c st
taken_ready c t st h p = record { usable = table_usable c p.table; bytes = omega (arith, p.high); sized = p.sized }

module _ (c : Code) (t : ℕ) (p x : Progress) (f : x ≡ run_of c (t ∷ []) p) where
  -- its visits are those of the pass
  visits : passes (data_symbols c) (t ∷ []) ≡ pass (data_symbols c) t
  unfolding passes
  visits = append-nil (pass (data_symbols c) t)

  pub once_state : x.state ≡ passed_state c t p.state
  unfolding run_of passes_from ran thresholds_run allows
  once_state = ap (λ (y : Progress). y.state) f ∙ ap (λ (vs : List Visit). after c.q (checks_of c) vs p.state) visits

  pub once_changes : p.tally.changes ≡ 0 → x.tally.changes ≡ passed_changes c t p.state
  unfolding run_of passes_from ran thresholds_run allows
  once_changes z =
      ap (λ (y : Progress). y.tally.changes) f
      ∙ (let n : ℕ = change_count c.q (checks_of c) (passes (data_symbols c) (t ∷ [])) p.state in
      let e : p.tally.changes + n ≡ n = omega (arith, z) in
      e)
      ∙ ap (λ (vs : List Visit). change_count c.q (checks_of c) vs p.state) visits
