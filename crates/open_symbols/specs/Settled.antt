-- Data symbols whose visits the zeros at their checks settle, and the way past them.
use Rattle.std.specs.Prelude.{◌≡◌, Bool, true, false, List, ℕ, ◌+◌, ◌-◌, ◌≤◌, ◌<◌, leb, length, get_or, take, drop}
use Rattle.std.proofs.Common.{ap, sym, ◌∙◌, arith, get_or-take, get_or-drop, leb-true, leb-false}
use Rattle.std.proofs.Math.Decide.{ℕ_discrete, dec_lt}
use Rattle.model.specs.Symbols.{same}
use Rattle.theory.specs.Parts.{part_length}
use Rattle.checks.specs.declared.Place.{Place}

-- the zeros of data symbol j, counted twice, and t are more than J: the vote of its visit is settled
abbrev pub Settled : ℕ → ℕ → List ℕ → List ℕ → ℕ → Type 0
Settled J t d zs j = J < get_or zs j 0 + same 0 (get_or d j 0) + (get_or zs j 0 + same 0 (get_or d j 0)) + t

-- it is not
abbrev pub Open : ℕ → ℕ → List ℕ → List ℕ → ℕ → Type 0
Open J t d zs j = get_or zs j 0 + same 0 (get_or d j 0) + (get_or zs j 0 + same 0 (get_or d j 0)) + t ≤ J

-- a symbol with n zeros or more at its checks is settled, whatever its own difference is
abbrev pub Settling : ℕ → ℕ → ℕ → Type 0
Settling J t n = (z : ℕ) → n ≤ z → J < z + z + t

-- r is from a to b, and all from a to r have n zeros or more at their checks
pub record Past (n : ℕ) (zs : List ℕ) (a b r : ℕ) : Type 0 where
  pub low : a ≤ r
  pub high : r ≤ b
  pub many : (j : ℕ) → a ≤ j → j < r → n ≤ get_or zs j 0

pub past_none : {n a b : ℕ} {zs : List ℕ} → a ≤ b → Past n zs a b a
past_none h = record { low = omega arith; high = h; many = (λ j l m. absurd (omega arith)) }

-- a part that starts where one ends
pub past_part : {n a b r e : ℕ} {zs : List ℕ} → Past n zs a b r → Past n zs r b e → Past n zs a b e
past_part {n} {a} {b} {r} {e} {zs} f g = record {
  low = omega (arith, f.low, g.low);
  high = g.high;
  many = (λ j l m. elim (dec_lt j r) as (λ o. n ≤ get_or zs j 0) [ yes h ↦ f.many j l h | no h ↦ g.many j (omega arith) m ]);
}

-- a block in which all have v or more
pub past_block : {n a b r v : ℕ} {zs : List ℕ} (w : ℕ) → Past n zs a b r → r + w ≤ b → b ≤ length zs
    → ((i : ℕ) → i < length (take (r + w - r) (drop r zs)) → v ≤ get_or (take (r + w - r) (drop r zs)) i 0) → n ≤ v → Past n zs a b (r + w)
past_block {n} {a} {b} {r} {v} {zs} w f h e all few =
    past_part f (record {
      low = omega arith;
      high = h;
      many = (λ j l m.
          let at : get_or (take (r + w - r) (drop r zs)) (j - r) 0 ≡ get_or zs j 0 =
          get_or-take (r + w - r) (drop r zs) (j - r) 0 (omega arith) ∙ get_or-drop r zs (j - r) 0 ∙ ap (λ (i : ℕ). get_or zs i 0) (let z : r + (j - r) ≡ j = omega arith in z) in
          omega (arith, at, all (j - r) (omega (arith, part_length r w zs (omega arith)))));
    })

-- one symbol
pub past_one : {n a b r : ℕ} {zs : List ℕ} → Past n zs a b r → r < b → n ≤ get_or zs r 0 → Past n zs a b (r + 1)
past_one {n} {a} {b} {r} {zs} f h s = record {
  low = omega (arith, f.low);
  high = omega arith;
  many = (λ j l m. elim (ℕ_discrete j r) as (λ o. n ≤ get_or zs j 0) [ yes e ↦ rw e s | no o ↦ f.many j l (omega arith) ]);
}

-- r is from a to b, and all from a to r are settled
pub record FirstOpen (J t : ℕ) (d zs : List ℕ) (a b r : ℕ) : Type 0 where
  pub low : a ≤ r
  pub high : r ≤ b
  pub passed : (j : ℕ) → a ≤ j → j < r → Settled J t d zs j

pub open_none : {J t a b : ℕ} {d zs : List ℕ} → a ≤ b → FirstOpen J t d zs a b a
open_none h = record { low = omega arith; high = h; passed = (λ j l m. absurd (omega arith)) }

pub open_more : {J t a b r : ℕ} {d zs : List ℕ} → FirstOpen J t d zs a b r → r < b → Settled J t d zs r → FirstOpen J t d zs a b (r + 1)
open_more {J} {t} {a} {b} {r} {d} {zs} f h s = record {
  low = omega (arith, f.low);
  high = omega arith;
  passed = (λ j l m. elim (ℕ_discrete j r) as (λ o. Settled J t d zs j) [ yes e ↦ rw e s | no n ↦ f.passed j l (omega arith) ]);
}

-- a part that starts where one ends
pub open-part : {J t a b r m e : ℕ} {d zs : List ℕ} → FirstOpen J t d zs a b r → m ≤ b → FirstOpen J t d zs r m e → FirstOpen J t d zs a b e
open-part {J} {t} {a} {b} {r} {m} {e} {d} {zs} f h g = record {
  low = omega (arith, f.low, g.low);
  high = omega (arith, g.high);
  passed = (λ j l u. elim (dec_lt j r) as (λ o. Settled J t d zs j) [ yes z ↦ f.passed j l z | no z ↦ g.passed j (omega arith) u ]);
}

-- past those that have so many zeros that they are settled
pub open_past : {J t n a b r e : ℕ} {d zs : List ℕ} → FirstOpen J t d zs a b r → Settling J t n → Past n zs r b e → FirstOpen J t d zs a b e
open_past {J} {t} {n} {a} {b} {r} {e} {d} {zs} f s p = record {
  low = omega (arith, f.low, p.low);
  high = p.high;
  passed = (λ j l m. elim (dec_lt j r) as (λ o. Settled J t d zs j) [
    | yes h ↦ f.passed j l h
    | no h ↦ omega (arith, s (get_or zs j 0) (p.many j (omega arith) m))
  ]);
}

-- the test of a symbol, where it is passed and where it is not
pub open_yes : (J n : ℕ) (b : Bool) → b ≡ leb n J → b ≡ true → n ≤ J
open_yes J n b e t = leb-true n J (sym e ∙ t)

pub open_no : (J n : ℕ) (b : Bool) → b ≡ leb n J → b ≡ false → J < n
open_no J n b e t = leb-false n J (sym e ∙ t)

-- the first place of p's branch from p on that is not settled, or the one after its last symbol
pub record OpenFrom (J t : ℕ) (d zs : List ℕ) (p r : Place) : Type 0 where
  pub same : r ≡ record { symbol = r.symbol; start = p.start; end = p.end; first = p.first; last = p.last }
  pub first : FirstOpen J t d zs p.symbol p.end r.symbol
  pub open_here : r.symbol < p.end → Open J t d zs r.symbol
