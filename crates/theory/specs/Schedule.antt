-- The schedule of the passes: which thresholds of a list are run.
use Rattle.std.specs.Prelude.{◌≡◌, Bool, ltb}
use Rattle.std.proofs.Math.Path.{refl, ap}
use Rattle.std.proofs.Common.{subst, lt→ltb}
use Rattle.std.proofs.Math.Bool.{true, false}
use mathlib.Core.List.{List, [], ◌∷◌}
use Prim.Native.Nat.{ℕ, suc, ◌≤◌, ◌<◌, min}
use Rattle.std.proofs.Math.Decide.{ℕ_discrete, dec_le}
use native.Mathlib.Omega.{arith}
use Rattle.std.proofs.Math.ListN.{length}
use Rattle.model.specs.Decoder.{State, after, change_count, pass, is_idle, Limit, none, under, allows, thresholds_run, first_smaller}
use Rattle.model.specs.Demand.{smallest}
use Rattle.model.specs.Symbols.{choose, count}
use Rattle.theory.specs.Counting.{is_true, same_yes, same_no, count_nil, count_cons, All}
use Rattle.theory.specs.Falling.{choose_case}

-- ---- the smallest of a list

pub smallest_in : (ts : List ℕ) → 0 < length ts → 0 < count (smallest ts) ts
unfolding smallest
smallest_in [] h = absurd (omega arith)
smallest_in (t ∷ []) h = omega (arith, count_cons t t [], same_yes t t refl)
smallest_in (t ∷ u ∷ us) h =
    let s : ℕ = smallest (u ∷ us) in
    elim (dec_le t s) as (λ o. 0 < count (min t s) (t ∷ u ∷ us)) [
      | yes l ↦ rw (let e : min t s ≡ t = omega arith in e) (omega (arith, count_cons t t (u ∷ us), same_yes t t refl))
      | no l ↦ rw (let e : min t s ≡ s = omega arith in e) (omega (arith, count_cons s t (u ∷ us), smallest_in (u ∷ us) (omega arith)))
    ]

pub smallest_least : (ts : List ℕ) (x : ℕ) → 0 < count x ts → smallest ts ≤ x
unfolding smallest
smallest_least [] x n = absurd (omega (arith, count_nil x))
smallest_least (t ∷ []) x n = elim (ℕ_discrete x t) as (λ o. t ≤ x) [ yes e ↦ omega arith | no d ↦ absurd (omega (arith, count_cons x t [], count_nil x, same_no x t d)) ]
smallest_least (t ∷ u ∷ us) x n =
    let s : ℕ = smallest (u ∷ us) in
    elim (ℕ_discrete x t) as (λ o. min t s ≤ x)
    [ yes e ↦ omega arith | no d ↦ omega (arith, smallest_least (u ∷ us) x (omega (arith, count_cons x t (u ∷ us), same_no x t d))) ]

-- ---- what is run

-- after a pass a smaller threshold is allowed, whether the pass was idle or not
smaller_allowed : (h t : ℕ) → h < t → (idle : Bool) → allows (choose idle (under t) none) h ≡ true
unfolding allows
smaller_allowed h t l true = is_true (ltb h t) (lt→ltb h t l)
smaller_allowed h t l false = refl

module _ (q : ℕ) (checks : ℕ → List ℕ) (js : List ℕ) where
  -- the limit after a pass
  abbrev limit_after : ℕ → State → Limit
  limit_after t st = choose (is_idle q checks js t st) (under t) none

  -- no more passes than thresholds
  pub runs_few : (limit : Limit) (ts : List ℕ) (st : State) → length (thresholds_run q checks js limit ts st) ≤ length ts
  unfolding thresholds_run
  runs_few limit [] st = omega arith
  runs_few limit (t ∷ ts) st =
      let st' : State = after q checks (pass js t) st in
      choose_case (λ b us. length us ≤ suc (length ts)) (allows limit t)
      (t ∷ thresholds_run q checks js (limit_after t st) ts st') (thresholds_run q checks js limit ts st)
      (λ w. omega (arith, runs_few (limit_after t st) ts st')) (λ w. omega (arith, runs_few limit ts st))

  -- those run are of the list
  pub runs_of : (P : ℕ → Type 0) (limit : Limit) (ts : List ℕ) → All P ts → (st : State) → All P (thresholds_run q checks js limit ts st)
  unfolding thresholds_run
  runs_of P limit [] a st = tt
  runs_of P limit (t ∷ ts) a st =
      let st' : State = after q checks (pass js t) st in
      choose_case (λ b us. All P us) (allows limit t) (t ∷ thresholds_run q checks js (limit_after t st) ts st') (thresholds_run q checks js limit ts st)
      (λ w. (a.0, runs_of P (limit_after t st) ts a.1 st')) (λ w. runs_of P limit ts a.1 st)

  -- a threshold that the limit allows is run, where none of the list is smaller
  pub least_run : (h : ℕ) (limit : Limit) (ts : List ℕ) (st : State) → allows limit h ≡ true → ((x : ℕ) → 0 < count x ts → h ≤ x) → 0 < count h ts
      → 0 < count h (thresholds_run q checks js limit ts st)
  unfolding thresholds_run
  least_run h limit [] st a l n = absurd (omega (arith, count_nil h))
  least_run h limit (t ∷ ts) st a l n =
      let st' : State = after q checks (pass js t) st in
      let later : List ℕ = thresholds_run q checks js (limit_after t st) ts st' in
      let skipped : List ℕ = thresholds_run q checks js limit ts st in
      elim (ℕ_discrete h t) as (λ o. 0 < count h (choose (allows limit t) (t ∷ later) skipped)) [
        | yes e ↦
            let first : 0 < count h (t ∷ later) = omega (arith, count_cons h t later, same_yes h t e) in
            rw (subst (λ (x : ℕ). allows limit x ≡ true) e a) first
        | no d ↦
            let tail : (x : ℕ) → 0 < count x ts → h ≤ x = (λ x m. l x (omega (arith, count_cons x t ts))) in
            let rest : 0 < count h ts = omega (arith, count_cons h t ts, same_no h t d) in
            let below : h < t = omega (arith, l t (omega (arith, count_cons t t ts, same_yes t t refl))) in
            choose_case (λ b us. 0 < count h us) (allows limit t) (t ∷ later) skipped
            (λ w. omega (arith, count_cons h t later, least_run h (limit_after t st) ts st' (smaller_allowed h t below (is_idle q checks js t st)) tail rest))
            (λ w. least_run h limit ts st a tail rest)
      ]

  -- a limit skips to the first threshold below it
  skips : (n : ℕ) (ts : List ℕ) (st : State) → thresholds_run q checks js (under n) ts st ≡ thresholds_run q checks js none (first_smaller n ts) st
  unfolding allows thresholds_run first_smaller
  skips n [] st = refl
  skips n (t ∷ ts) st =
      choose_case
      (λ b us. choose b (t ∷ thresholds_run q checks js (limit_after t st) ts (after q checks (pass js t) st)) (thresholds_run q checks js (under n) ts st)
      ≡ thresholds_run q checks js none us st) (ltb t n) (t ∷ ts) (first_smaller n ts) (λ w. refl) (λ w. skips n ts st)

  -- what follows a pass
  pub followed : (t : ℕ) (ts : List ℕ) (st : State) → thresholds_run q checks js none (t ∷ ts) st
      ≡ t ∷ thresholds_run q checks js none (choose (is_idle q checks js t st) (first_smaller t ts) ts) (after q checks (pass js t) st)
  unfolding allows thresholds_run
  followed t ts st = ap (λ (us : List ℕ). t ∷ us) (go (is_idle q checks js t st) (after q checks (pass js t) st))
    where
      go : (idle : Bool) (x : State) → thresholds_run q checks js (choose idle (under t) none) ts x ≡ thresholds_run q checks js none (choose idle (first_smaller t ts) ts) x
      go true x = skips t ts x
      go false x = refl

-- ---- where every pass is idle

-- the thresholds that the limit allows and that are below all run before them
unfoldable pub minima : Limit → List ℕ → List ℕ
minima limit [] = []
minima limit (t ∷ ts) = choose (allows limit t) (t ∷ minima (under t) ts) (minima limit ts)

minima_skips : (n : ℕ) (ts : List ℕ) → minima (under n) ts ≡ minima none (first_smaller n ts)
unfolding allows minima first_smaller
minima_skips n [] = refl
minima_skips n (t ∷ ts) =
    choose_case (λ b us. choose b (t ∷ minima (under t) ts) (minima (under n) ts) ≡ minima none us) (ltb t n) (t ∷ ts) (first_smaller n ts) (λ w. refl) (λ w. minima_skips n ts)

pub minima_followed : (t : ℕ) (ts : List ℕ) → minima none (t ∷ ts) ≡ t ∷ minima none (first_smaller t ts)
unfolding allows minima
minima_followed t ts = ap (λ (us : List ℕ). t ∷ us) (minima_skips t ts)

-- on a state that no pass alters those are run
pub idle_run : (q : ℕ) (checks : ℕ → List ℕ) (js : List ℕ) (st : State)
    → ((t : ℕ) → (after q checks (pass js t) st ≡ st) × (change_count q checks (pass js t) st ≡ 0))
    → (limit : Limit) (ts : List ℕ) → thresholds_run q checks js limit ts st ≡ minima limit ts
unfolding thresholds_run minima
idle_run q checks js st i limit [] = refl
idle_run q checks js st i limit (t ∷ ts) = rw ((i t).0, (i t).1, idle_run q checks js st i (under t) ts, idle_run q checks js st i limit ts) refl
