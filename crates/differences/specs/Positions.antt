-- Laws of positions that fit, and of the run of a branch as it is lent.
use Rattle.std.specs.Prelude.{◌≡◌, Bool, true, List, [], ◌∷◌, ℕ, zero, suc, ◌+◌, ◌-◌, ◌*◌, ◌≤◌, ◌<◌, ◌++◌, min, length, get_or, take, drop}
use Rattle.std.proofs.Common.{◌∙◌, sym, ap, add-one, arith, length-drop}
use Rattle.std.proofs.lemmas.List.{take_at, drop_at, drop-drop}
use Rattle.std.proofs.Math.Decide.{dec_lt}
use Rattle.model.specs.Calls.{positions_fit}
use Rattle.model.specs.Code.{Code, checks_each, branch_at, self_orthogonal, differences, all_different}
use Rattle.model.specs.Limits.{SizeLimits, TableLimits}
use Rattle.theory.specs.Branches.{run_part, run_inside, orthogonal_differences}
use Rattle.theory.specs.Counting.{All}
use Rattle.theory.specs.Tables.{fit_cons, orthogonal_test}
use Rattle.differences.specs.Marks.{same_truth}

-- ---- what positions that pass are

-- from `least`, and so from `low`, to k
pub fit_above : (k low least : ℕ) → low ≤ least → (ps : List ℕ) → positions_fit k least ps ≡ true → All (λ a. (low ≤ a) × (a < k)) ps
fit_above k low least h [] t = tt
fit_above k low least h (p ∷ ps) t =
    let f = fit_cons k least p ps t in
    ((omega (arith, f.0), f.1), fit_above k low (suc p) (omega (arith, f.0)) ps f.2)

pub fit_at : (k least : ℕ) (ps : List ℕ) → positions_fit k least ps ≡ true → (i : ℕ) → i < length ps → (least ≤ get_or ps i 0) × (get_or ps i 0 < k)
fit_at k least [] t i h = absurd (omega arith)
fit_at k least (p ∷ ps) t zero h = let f = fit_cons k least p ps t in (f.0, f.1)
fit_at k least (p ∷ ps) t (suc i) h =
    let f = fit_cons k least p ps t in
    let g = fit_at k (suc p) ps f.2 i (omega arith) in
    (omega (arith, f.0, g.0), g.1)

-- those after position i are above it
pub fit_later : (k least : ℕ) (ps : List ℕ) → positions_fit k least ps ≡ true → (i : ℕ) → i < length ps → positions_fit k (get_or ps i 0 + 1) (drop (i + 1) ps) ≡ true
fit_later k least ps t i h = rw (add-one i, add-one (get_or ps i 0)) (go least ps t i h)
  where
    go : (least : ℕ) (ps : List ℕ) → positions_fit k least ps ≡ true → (i : ℕ) → i < length ps → positions_fit k (suc (get_or ps i 0)) (drop (suc i) ps) ≡ true
    go least [] t i h = absurd (omega arith)
    go least (p ∷ ps) t zero h = (fit_cons k least p ps t).2
    go least (p ∷ ps) t (suc i) h = go (suc p) ps (fit_cons k least p ps t).2 i (omega arith)

-- ---- all runs

-- run r as it is lent: `each` positions from `at` on
module _ (c : Code) (r at each : ℕ) (e : at ≡ r * checks_each c) (f : each ≡ checks_each c) where
  pub run_lent : take (at + each - at) (drop at c.positions) ≡ branch_at c r
  run_lent = rw f (run_part c r at e)

  pub lent_inside : SizeLimits c → r < c.b → at + each ≤ length c.positions
  lent_inside s h = omega (arith, run_inside c s r h, e, f)

-- the runs as `chunks` lends them: `left` is what is left after r of them
module _ (c : Code) (s : SizeLimits c) (r : ℕ) (few : r ≤ c.b) (size : ℕ) (left : List ℕ) (e : size ≡ checks_each c) (is : left ≡ drop (r * checks_each c) c.positions) where
  left_length : length left ≡ length c.positions - r * checks_each c
  left_length = ap length is ∙ length-drop (r * checks_each c) c.positions

  -- the next part is run r
  pub run_next : (part rest : List ℕ) → (left ≡ part ++ rest) × (length part ≡ min size (length left)) × (0 < length left)
      → (r < c.b) × (part ≡ branch_at c r) × (rest ≡ drop ((r + 1) * checks_each c) c.positions)
  unfolding branch_at
  run_next part rest (f, l, some) = (below, of, on)
    where
      below : r < c.b
      below = elim (dec_lt r c.b) as (λ o. r < c.b) [
        | yes h ↦ h
        | no n ↦ let z : r * checks_each c ≡ c.b * checks_each c = ap (λ (x : ℕ). x * checks_each c) (omega arith) in absurd (omega (arith, z, left_length, s.runs, some))
      ]

      whole : length part ≡ checks_each c
      whole = omega (arith, run_inside c s r below, left_length, l, e)

      of : part ≡ take (checks_each c) (drop (r * checks_each c) c.positions)
      of = sym (take_at part rest (checks_each c) whole) ∙ ap (take (checks_each c)) (sym f ∙ is)

      on : rest ≡ drop ((r + 1) * checks_each c) c.positions
      on = sym (drop_at part rest (checks_each c) whole) ∙ ap (drop (checks_each c)) (sym f ∙ is)
          ∙ drop-drop (checks_each c) (r * checks_each c) c.positions ∙ ap (λ (n : ℕ). drop n c.positions) (omega arith)

  -- where nothing is left these were all
  pub run_last : length left ≡ 0 → r ≡ c.b
  run_last z = elim (dec_lt r c.b) as (λ o. r ≡ c.b) [
    | yes h ↦ absurd (omega (arith, run_inside c s r h, left_length, s.J-low, z))
    | no n ↦ omega arith
  ]

-- what the differences tell
pub orthogonal_told : (c : Code) → TableLimits c → (r : Bool) → r ≡ all_different (differences c) → r ≡ self_orthogonal c
orthogonal_told c l r d =
    let test = orthogonal_test c in
    let differ = orthogonal_differences c l in
    d ∙ same_truth (all_different (differences c)) (self_orthogonal c) (λ t. test.1 (differ.1 t)) (λ t. differ.0 (test.0 t))
