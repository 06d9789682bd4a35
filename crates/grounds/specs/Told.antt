-- What explain tells of estimates, and the bits from the last estimate on.
use Rattle.std.specs.Prelude.{◌≡◌, List, ◌∷◌, ℕ, suc, ◌+◌, ◌*◌, ◌<◌, ◌≤◌, length, get_or, drop}
use Rattle.std.proofs.Common.{ap, sym, ◌∙◌, arith, drop_of_length-le, length-drop, drop-cons}
use Rattle.model.specs.Symbols.{same}
use Rattle.model.specs.Vote.{leader, lead_count, next_count, ground_of, equal_bits}
use Rattle.theory.specs.Explaining.{bits_cons, bits_nil, bits_small}
use Rattle.grounds.specs.declared.Told.{Told}

abbrev pub told_of : ℕ → List ℕ → Told
told_of t es = record { ground_number = ground_of t es; leader = leader es; lead = lead_count es; next = next_count es; bits = equal_bits es (leader es) }

-- ---- the bits of the estimates from place i on

-- they are b
pub record FromBits (es : List ℕ) (h i b : ℕ) : Type 0 where
  pub inside : i ≤ length es
  pub are : b ≡ equal_bits (drop i es) h

pub from_end : (es : List ℕ) (h i : ℕ) → i ≡ length es → FromBits es h i 0
from_end es h i e = record {
  inside = omega arith;
  are = sym (ap (λ (l : List ℕ). equal_bits l h) (drop_of_length-le es {i = i} (omega arith)) ∙ bits_nil h);
}

-- one estimate more, at place i
pub from_turn : (es : List ℕ) (h i j b x : ℕ) → FromBits es h j b → j ≡ i + 1 → x ≡ same (get_or es i 0) h → FromBits es h i (b + b + x)
from_turn es h i j b x w e f =
    let l : i < length es = omega (arith, w.inside) in
    let s : drop i es ≡ get_or es i 0 ∷ drop j es = drop-cons es i 0 l ∙ ap (λ (n : ℕ). get_or es i 0 ∷ drop n es) (let z : suc i ≡ j = omega arith in z) in
    record {
      inside = omega arith;
      are = (let y : b + b + x ≡ equal_bits (drop j es) h * 2 + same (get_or es i 0) h = omega (arith, w.are) in y)
          ∙ sym (ap (λ (l : List ℕ). equal_bits l h) s ∙ bits_cons (get_or es i 0) (drop j es) h);
    }

pub from_small : (es : List ℕ) (h i b : ℕ) → length es ≤ 33 → FromBits es h i b → b ≤ 8589934591
from_small es h i b l w = omega (arith, w.are, bits_small (drop i es) h (omega (arith, length-drop i es)))

pub from_all : (es : List ℕ) (h i b : ℕ) → i ≤ 0 → FromBits es h i b → b ≡ equal_bits es h
from_all es h i b z w = w.are ∙ ap (λ (n : ℕ). equal_bits (drop n es) h) (let y : i ≡ 0 = omega arith in y)
