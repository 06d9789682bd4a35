-- The place of a data symbol by its number, found branch by branch.
use Rattle.std.specs.Prelude.{◌≡◌, ℕ, suc, ◌+◌, ◌*◌, ◌-◌, ◌/◌, ◌<◌, ◌≤◌}
use Rattle.std.proofs.Common.{ap, sym, ◌∙◌, mul-le-mul_right, mul-le-mul_left, arith}
use Rattle.std.proofs.Math.Arith.{digits_div}
use Rattle.model.specs.Code.{Code, data_count, checks_each}
use Rattle.checks.specs.Places.{place_at, Placed}
use Rattle.checks.specs.declared.Place.{Place}

-- the place of data symbol j, of branches of k symbols and runs of `each` positions
abbrev pub place_by : ℕ → ℕ → ℕ → Place
place_by k each j = record { symbol = j; start = j / k * k; end = j / k * k + k; first = j / k * each; last = j / k * each + each }

-- it is the place of j, with as many checks as each data symbol has
pub placed_by : (c : Code) (each j : ℕ) (p : Place) → each ≡ checks_each c → j < data_count c → p ≡ place_by c.k each j → Placed c p
placed_by c each j p e h f =
    let n : p.symbol ≡ j = ap (λ (x : Place). x.symbol) f in
    record { inside = omega (arith, n); here = f ∙ ap (λ (m : ℕ). place_by c.k m j) e ∙ ap (place_at c) (sym n) }

-- the branches before `start` are passed, whose runs end at `first`
pub record Walked (k each j start first : ℕ) : Type 0 where
  pub branch : ℕ
  pub start_is : start ≡ branch * k
  pub first_is : first ≡ branch * each
  pub low : start ≤ j

pub walked_none : (k each j : ℕ) → Walked k each j 0 0
walked_none k each j = record { branch = 0; start_is = omega arith; first_is = omega arith; low = omega arith }

module _ {k each j start first : ℕ} (w : Walked k each j start first) where
  pub walked_on : start + k ≤ j → Walked k each j (start + k) (first + each)
  walked_on h = record { branch = suc w.branch; start_is = omega (arith, w.start_is); first_is = omega (arith, w.first_is); low = h }

  -- the runs passed are few
  pub walked_few : 1 ≤ k → each ≤ 256 → j < 4096 → first ≤ 1048576
  walked_few p e l =
      let b : w.branch ≤ 4096 = omega (arith, mul-le-mul_left w.branch p, w.start_is, w.low) in
      omega (arith, w.first_is, mul-le-mul_right each b, mul-le-mul_left 4096 e)

  pub walked_here : j < start + k
      → ◌≡◌ {A = Place} (record { symbol = j; start = start; end = start + k; first = first; last = first + each }) (place_by k each j)
  walked_here h =
      let i : ℕ = j - start in
      let e : j ≡ w.branch * k + i = omega (arith, w.start_is, w.low) in
      let l : i < k = omega (arith, w.low) in
      let d : w.branch ≡ j / k = sym (ap (λ (x : ℕ). x / k) e ∙ digits_div w.branch {m = k} l) in
      let s : start ≡ j / k * k = w.start_is ∙ ap (λ (x : ℕ). x * k) d in
      let f : first ≡ j / k * each = w.first_is ∙ ap (λ (x : ℕ). x * each) d in
      λ o. record { symbol = j; start = s o; end = s o + k; first = f o; last = f o + each }
