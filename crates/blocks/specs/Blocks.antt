-- Sums of the symbols of blocks, and what a division leaves of them.
use Rattle.std.specs.Prelude.{◌≡◌, refl, Bool, true, false, List, ℕ, zero, suc, ◌+◌, ◌-◌, ◌*◌, ◌/◌, ◌%◌, ◌≤◌, ◌<◌, leb, length, get_or, take, drop}
use Rattle.std.proofs.Common.{sym, ap, subst, ◌∙◌, zero-mul, mul-le-mul_right, add-one, arith, leb-true, leb-false, le-leb, length-take, length-drop, get_or-take, get_or-drop}
use Rattle.std.proofs.Math.Nat.{add-mod_right}
use Rattle.std.proofs.Math.Decide.{ℕ_discrete, dec_lt}
use Rattle.std.proofs.lemmas.Bool.{lt-leb}
use Rattle.model.specs.Code.{Code, data_count}
use Rattle.model.specs.Limits.{SizeLimits}
use Rattle.model.specs.Outer.{block_count}
use Rattle.model.specs.Symbols.{choose, Below, sum_of_first}
use Rattle.theory.specs.Answers.{BlockFits}
use Rattle.theory.specs.Counting.{sum_ext}
use Rattle.theory.specs.Modulo.{by_eq}
use Rattle.theory.specs.Parts.{below_part}

-- a block is no longer than the data
pub block_small : (c : Code) (L : ℕ) → SizeLimits c → BlockFits c L → L ≤ 4096
block_small c L z fits = go (block_count c L) fits.divides
  where
    some : 1 ≤ data_count c
    some = omega (arith, z.k_low, mul-le-mul_right c.k z.b_low)

    go : (n : ℕ) → n * L ≡ data_count c → L ≤ 4096
    go zero e = absurd (omega (arith, zero-mul L, e, some))
    go (suc n) e = let m : suc n * L ≡ n * L + L = omega arith in omega (arith, m, e, z.data-high)

-- ---- sums of symbols

-- q, 2 q, 4 q and so on
pub doubled : ℕ → ℕ → ℕ
doubled q zero = q
doubled q (suc t) = doubled q t + doubled q t

pub record Doubled (q m : ℕ) : Type 0 where
  pub turns : ℕ
  pub is : m ≡ doubled q turns

pub doubled_none : (q : ℕ) → Doubled q q
unfolding doubled
doubled_none q = record { turns = 0; is = refl }

pub doubled_more : {q m : ℕ} → Doubled q m → Doubled q (m + m)
unfolding doubled
doubled_more {q} {m} d = record { turns = suc d.turns; is = (let e = d.is in omega (arith, e)) }

-- what is above q has a half that is such a number too
pub doubled_half : {q m : ℕ} → Doubled q m → q < m → (Doubled q (m / 2)) × (m ≡ m / 2 + m / 2)
unfolding doubled
doubled_half {q} {m} d h = go d.turns d.is
  where
    go : (t : ℕ) → m ≡ doubled q t → (Doubled q (m / 2)) × (m ≡ m / 2 + m / 2)
    go zero e = absurd (omega (arith, h, e))
    go (suc t) e = let x : m / 2 ≡ doubled q t = omega (arith, e) in (record { turns = t; is = x }, omega (arith, x, e))

-- taking one off alters nothing modulo q
doubled_off : (q t n : ℕ) → (n + doubled q t) % q ≡ n % q
unfolding doubled
doubled_off q zero n = add-mod_right n q
doubled_off q (suc t) n = by_eq q (let e : n + (doubled q t + doubled q t) ≡ n + doubled q t + doubled q t = omega arith in e) ∙ doubled_off q t (n + doubled q t) ∙ doubled_off q t n

-- the carry of n less m, and m taken off by it
pub by_carry : (n m f : ℕ) → n < 4294967296 → m < 4294967296 → f ≡ (n + 4294967296 - m) / 4294967296 → (f ≤ 1) × (m * f ≤ n) × (n - m * f ≡ choose (leb m n) (n - m) n)
by_carry n m f hn hm e = elim (dec_lt n m) as (λ o. (f ≤ 1) × (m * f ≤ n) × (n - m * f ≡ choose (leb m n) (n - m) n)) [
  | yes l ↦ let z : f ≡ 0 = omega (arith, e) in
      let y : m * f ≡ 0 = ap (λ (x : ℕ). m * x) z ∙ omega arith in
      (omega (arith, z), omega (arith, y), rw (lt-leb m n l) (omega (arith, y)))
  | no l ↦ let z : f ≡ 1 = omega (arith, e) in
      let y : m * f ≡ m = ap (λ (x : ℕ). m * x) z ∙ omega arith in
      (omega (arith, z), omega (arith, y), rw (le-leb m n (omega arith)) (omega (arith, y)))
]

-- n is to be divided by q: what is left is below m, a doubled q
pub record Dividing (q n m rest : ℕ) : Type 0 where
  pub of : Doubled q m
  pub below : rest < m
  pub same : rest % q ≡ n % q

pub dividing_turn : {q n m rest : ℕ} → Dividing q n m rest → q < m → (r : ℕ) → r ≡ choose (leb (m / 2) rest) (rest - m / 2) rest → Dividing q n (m / 2) r
dividing_turn {q} {n} {m} {rest} d h r e = go (leb (m / 2) rest) refl
  where
    half : (Doubled q (m / 2)) × (m ≡ m / 2 + m / 2)
    half = doubled_half d.of h

    go : (b : Bool) → leb (m / 2) rest ≡ b → Dividing q n (m / 2) r
    go true x =
        let y : r ≡ rest - m / 2 = e ∙ ap (λ (b : Bool). choose b (rest - m / 2) rest) x in
        let l : m / 2 ≤ rest = leb-true (m / 2) rest x in
        let back : r + doubled q half.0.turns ≡ rest = omega (arith, y, l, half.0.is) in
        record {
          of = half.0;
          below = omega (arith, y, half.1, d.below);
          same = sym (doubled_off q half.0.turns r) ∙ by_eq q back ∙ d.same;
        }
    go false x =
        let y : r ≡ rest = e ∙ ap (λ (b : Bool). choose b (rest - m / 2) rest) x in
        record { of = half.0; below = omega (arith, y, leb-false (m / 2) rest x); same = by_eq q y ∙ d.same }

-- the sum of n symbols below q
sum_few : (q n : ℕ) (f : ℕ → ℕ) → 1 ≤ q → ((p : ℕ) → f p < q) → sum_of_first n f + n ≤ n * q
unfolding sum_of_first
sum_few q zero f s h = omega (arith, zero-mul q)
sum_few q (suc n) f s h = let e : suc n * q ≡ n * q + q = omega arith in omega (arith, sum_few q n f s h, h n, e)

-- it does not reach n q, nor a doubled q that is as high
pub sum_bounded : (q n m : ℕ) (f : ℕ → ℕ) → 1 ≤ q → ((p : ℕ) → f p < q) → Doubled q m → n * q ≤ m → sum_of_first n f < m
unfolding sum_of_first doubled
sum_bounded q zero m f s h d l = go d.turns m d.is
  where
    go : (t m : ℕ) → m ≡ doubled q t → 0 < m
    go zero m e = omega (arith, e, s)
    go (suc t) m e = omega (arith, e, go t (doubled q t) refl)
sum_bounded q (suc n) m f s h d l = omega (arith, sum_few q (suc n) f s h, l)

pub sum_turn : (n : ℕ) (f : ℕ → ℕ) (s x : ℕ) → s ≡ sum_of_first n f → x ≡ f n → s + x ≡ sum_of_first (n + 1) f
unfolding sum_of_first
sum_turn n f s x e h = let more : sum_of_first (n + 1) f ≡ sum_of_first (suc n) f = ap (λ (m : ℕ). sum_of_first m f) (add-one n) in omega (arith, more)

-- ---- L symbols from a on, which are lent as a part

part_length : (L a : ℕ) (u : List ℕ) → a + L ≤ length u → length (take (a + L - a) (drop a u)) ≡ L
part_length L a u h = length-take (a + L - a) (drop a u) ∙ omega (arith, length-drop a u)

-- what they sum to
pub part-sum : (q L a : ℕ) (u : List ℕ) → a + L ≤ length u
    → sum_of_first (length (take (a + L - a) (drop a u))) (λ p. get_or (take (a + L - a) (drop a u)) p 0) % q ≡ sum_of_first L (λ p. get_or u (a + p) 0) % q
part-sum q L a u h =
    let part : List ℕ = take (a + L - a) (drop a u) in
    by_eq q
    (ap (λ (x : ℕ). sum_of_first x (λ p. get_or part p 0)) (part_length L a u h)
    ∙ sum_ext L (λ p. get_or part p 0) (λ p. get_or u (a + p) 0) (λ p l. get_or-take (a + L - a) (drop a u) p 0 (omega arith) ∙ get_or-drop a u p 0))

-- what `sum_of` asks of them
pub part_summed : (q L a bound : ℕ) (u : List ℕ) → 1 ≤ q → q ≤ 256 → Below q u → a + L ≤ length u → L ≤ 4096 → Doubled q bound → L * q ≤ bound
    → (1 ≤ q)
    × (q ≤ 256)
    × Below q (take (a + L - a) (drop a u))
    × (length (take (a + L - a) (drop a u)) ≤ 4096)
    × Doubled q bound
    × (length (take (a + L - a) (drop a u)) * q ≤ bound)
part_summed q L a bound u low high b inside small d l =
    let n : length (take (a + L - a) (drop a u)) ≡ L = part_length L a u inside in
    (low, high, below_part q low a (a + L - a) u b, omega (arith, n), d, subst (λ (x : ℕ). x * q ≤ bound) (sym n) l)

-- ---- blocks in a row

-- from a on there are only whole blocks of L
pub record WholeFrom (L n a : ℕ) : Type 0 where
  pub times : ℕ
  pub whole : n ≡ a + times * L

pub whole_next : {L n a : ℕ} → WholeFrom L n a → a < n → (a + L ≤ n) × WholeFrom L n (a + L)
whole_next {L} {n} {a} w h = go w.times w.whole
  where
    go : (t : ℕ) → n ≡ a + t * L → (a + L ≤ n) × WholeFrom L n (a + L)
    go zero e = absurd (omega (arith, zero-mul L, e, h))
    go (suc t) e = let m : suc t * L ≡ t * L + L = omega arith in (omega (arith, m, e), record { times = t; whole = omega (arith, m, e) })

-- so many blocks from a on, up to r, sum to 0
pub record BrokenFrom (q L : ℕ) (s : List ℕ) (a r : ℕ) : Type 0 where
  pub blocks : ℕ
  pub passed : r ≡ a + blocks * L
  pub whole : WholeFrom L (length s) r
  pub zeros : (t : ℕ) → t < blocks → sum_of_first L (λ p. get_or s (a + t * L + p) 0) % q ≡ 0

pub broken_none : {q L a : ℕ} {s : List ℕ} → WholeFrom L (length s) a → BrokenFrom q L s a a
broken_none {q} {L} {a} {s} w = record { blocks = 0; passed = omega (arith, zero-mul L); whole = w; zeros = (λ t h. absurd (omega arith)) }

pub broken_more : {q L a r : ℕ} {s : List ℕ} → BrokenFrom q L s a r → r < length s → sum_of_first L (λ p. get_or s (r + p) 0) % q ≡ 0 → BrokenFrom q L s a (r + L)
broken_more {q} {L} {a} {r} {s} b h z = record {
  blocks = suc b.blocks;
  passed = (let m : suc b.blocks * L ≡ b.blocks * L + L = omega arith in omega (arith, m, b.passed));
  whole = (whole_next b.whole h).1;
  zeros = (λ t l. elim (ℕ_discrete t b.blocks) as (λ o. sum_of_first L (λ p. get_or s (a + t * L + p) 0) % q ≡ 0) [
    | yes e ↦ ap (λ (x : ℕ). sum_of_first L (λ p. get_or s (a + x * L + p) 0) % q) e ∙ ap (λ (x : ℕ). sum_of_first L (λ p. get_or s (x + p) 0) % q) (sym b.passed) ∙ z
    | no n ↦ b.zeros t (omega arith)
  ]);
}
