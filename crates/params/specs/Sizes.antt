-- The sizes that a call's k and b give: whatever these are they fit in 64 bits; and products and quotients by sums and differences.
use Rattle.std.specs.Prelude.{◌≡◌, ℕ, ◌+◌, ◌*◌, ◌/◌, ◌%◌, ◌≤◌, ◌<◌}
use Rattle.std.proofs.Common.{ap, sym, ◌∙◌, mul-le-mul, mul-le-mul_right, div-add-mod', arith}
use Rattle.std.proofs.Math.Arith.{digits_div}

-- b times k data symbols, and k checks more
pub sizes_fit : (k b : ℕ) → k ≤ 4294967295 → b ≤ 4294967295 → b * k + k ≤ 18446744073709551615
sizes_fit k b hk hb = omega (arith, mul-le-mul hb hk)

-- n times t, by half of n
pub halved : (n t : ℕ) → n % 2 * t + n / 2 * (t + t) ≡ n * t
halved n t = (let e : n % 2 * t + n / 2 * (t + t) ≡ (n / 2 * 2 + n % 2) * t = omega arith in e) ∙ ap (λ (x : ℕ). x * t) (div-add-mod' n 2)

-- a number from 2 on has a half, so that twice t is within n times t
pub halved_room : (n t : ℕ) → 1 < n → t + t ≤ n / 2 * (t + t)
halved_room n t h = omega (arith, mul-le-mul_right (t + t) (let e : 1 ≤ n / 2 = omega arith in e))

-- a number below 2 is its own remainder
pub last_term : (n t : ℕ) → n ≤ 1 → n % 2 * t ≡ n * t
last_term n t h = ap (λ (x : ℕ). x * t) (let e : n % 2 ≡ n = omega arith in e)

-- the quotient, by what is left
pub quotient : (n b q r : ℕ) → n ≡ q * b + r → r < b → q ≡ n / b
quotient n b q r e h = sym (ap (λ (x : ℕ). x / b) e ∙ digits_div q {m = b} h)
