-- The smallest threshold of a list is always run.
use Rattle.std.proofs.Math.Path.{refl}
use mathlib.Core.List.{List}
use Prim.Native.Nat.{ℕ, ◌<◌}
use Rattle.std.proofs.Math.ListN.{length}
use Rattle.model.specs.Decoder.{State, none, allows, thresholds_run}
use Rattle.model.specs.Demand.{smallest}
use Rattle.model.specs.Symbols.{count}
use Rattle.theory.specs.Schedule.{smallest_in, smallest_least, least_run}

module _ (q : ℕ) (checks : ℕ → List ℕ) (js : List ℕ) where
  -- so the smallest is always run
  pub smallest_run : (ts : List ℕ) (st : State) → 0 < length ts → 0 < count (smallest ts) (thresholds_run q checks js none ts st)
  unfolding allows
  smallest_run ts st h = least_run q checks js (smallest ts) none ts st refl (smallest_least ts) (smallest_in ts h)
