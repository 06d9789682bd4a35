-- The first of the least values, found one value after the other.
use Rattle.std.proofs.Math.Path.{◌≡◌, refl}
use Rattle.std.proofs.Common.{ap, sym, ◌∙◌, arith}
use Rattle.std.specs.Prelude.{Bool, ℕ, suc, ◌+◌, ◌-◌, ◌≤◌, ◌<◌, ℤ}
use Rattle.std.proofs.Math.Bool.{true, false}
use Rattle.std.specs.Int.Signed.{lt_z}
use Rattle.model.specs.Outer.{least_below}
use Rattle.model.specs.Symbols.{choose}

-- of the values r of the numbers from a on and before j, with m the end: its number and the value there
pub record LeastTo (r : ℕ → ℤ) (a m j best : ℕ) (least : ℤ) : Type 0 where
  pub low : a < j
  pub high : j ≤ m
  pub place : best ≡ a + least_below (j - a) (λ p. r (a + p))
  pub value : least ≡ r best

module _ (r : ℕ → ℤ) (a m : ℕ) where
  -- the first value alone, and one value more
  least_one : least_below 1 (λ p. r (a + p)) ≡ 0
  unfolding least_below
  least_one = go (lt_z (r (a + 0)) (r (a + 0)))
    where
      go : (b : Bool) → ◌≡◌ {A = ℕ} (choose b 0 0) 0
      go true = refl
      go false = refl

  least_more : (n : ℕ) → least_below (suc n) (λ p. r (a + p)) ≡ choose (lt_z (r (a + n)) (r (a + least_below n (λ p. r (a + p))))) n (least_below n (λ p. r (a + p)))
  unfolding least_below
  least_more n = refl

  pub least_first : (least : ℤ) → a < m → least ≡ r a → LeastTo r a m (a + 1) a least
  least_first least h e = record {
    low = omega arith;
    high = omega arith;
    place = (let n : (a + 1) - a ≡ 1 = omega arith in rw n (omega (arith, least_one)));
    value = e;
  }

  module _ (j best : ℕ) (least x : ℤ) (t : LeastTo r a m j best least) (h : j < m) (e : x ≡ r j) where
    here : a + (j - a) ≡ j
    here = omega (arith, t.low)

    next : (j + 1) - a ≡ suc (j - a)
    next = omega (arith, t.low)

    -- what tells whether the next value is less
    test : lt_z (r (a + (j - a))) (r (a + least_below (j - a) (λ p. r (a + p)))) ≡ lt_z x least
    test = ap (λ (n : ℕ). lt_z (r n) (r (a + least_below (j - a) (λ p. r (a + p))))) here ∙ ap (λ (n : ℕ). lt_z (r j) (r n)) (sym t.place)
        ∙ ap (lt_z (r j)) (sym t.value) ∙ ap (λ (y : ℤ). lt_z y least) (sym e)

    pub least_less : lt_z x least ≡ true → LeastTo r a m (j + 1) j x
    least_less y = record {
      low = omega (arith, t.low);
      high = omega arith;
      place = rw next (rw (least_more (j - a), test, y) (sym here));
      value = e;
    }

    pub least_same : lt_z x least ≡ false → LeastTo r a m (j + 1) best least
    least_same y = record {
      low = omega (arith, t.low);
      high = omega arith;
      place = rw next (rw (least_more (j - a), test, y) t.place);
      value = t.value;
    }
