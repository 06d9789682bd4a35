-- Scans of a slice: the highest symbol, which tells whether all are below q, and the weight, by symbols and by parts.
use Rattle.std.specs.Prelude.{◌≡◌, refl, Bool, true, false, ◌&&◌, List, [], ◌∷◌, ◌++◌, ℕ, suc, ◌+◌, ◌-◌, ◌≤◌, ◌<◌, max, ltb, length, get_or, take, drop}
use Rattle.std.proofs.Common.{ap, ◌∙◌, arith, lt-ltb, le-ltb, ltb-true, ltb-false, length-take, take-add}
use Rattle.model.specs.Calls.{all_below}
use Rattle.model.specs.Symbols.{differ, weight}
use Rattle.theory.specs.Counting.{zeros_weight}
use Rattle.theory.specs.Turns.{take_more}

-- the highest of a list, 0 where it is empty
unfoldable pub highest : List ℕ → ℕ
highest [] = 0
highest (x ∷ xs) = max x (highest xs)

pub highest_none : (s : List ℕ) → highest (take 0 s) ≡ 0
unfolding highest
highest_none s = refl

highest_snoc : (s : List ℕ) (x : ℕ) → highest (s ++ (x ∷ [])) ≡ max (highest s) x
unfolding highest
highest_snoc [] x = omega arith
highest_snoc (y ∷ s) x = omega (arith, highest_snoc s x)

pub highest_turn : (s : List ℕ) (i : ℕ) → i < length s → highest (take (i + 1) s) ≡ max (highest (take i s)) (get_or s i 0)
highest_turn s i h = ap highest (take_more s i h) ∙ highest_snoc (take i s) (get_or s i 0)

-- a maximum is below n where both numbers are
below_both : (a b n : ℕ) (x y : Bool) → ltb a n ≡ x → ltb b n ≡ y → ltb (max a b) n ≡ (x && y)
below_both a b n true true e f = lt-ltb (max a b) n (omega (arith, ltb-true a n e, ltb-true b n f))
below_both a b n true false e f = le-ltb (max a b) n (omega (arith, ltb-false b n f))
below_both a b n false y e f = le-ltb (max a b) n (omega (arith, ltb-false a n e))

-- all are below q where the highest is
pub below_highest : (q : ℕ) → 1 ≤ q → (s : List ℕ) → ltb (highest s) q ≡ all_below q s
unfolding highest all_below
below_highest q h [] = lt-ltb 0 q h
below_highest q h (x ∷ s) = below_both x (highest s) q (ltb x q) (all_below q s) refl (below_highest q h s)

-- a list is all below q where each of its symbols is
pub all_below_at : (q : ℕ) (s : List ℕ) → ((i : ℕ) → get_or s i 0 < q) → all_below q s ≡ true
unfolding all_below
all_below_at q [] h = refl
all_below_at q (x ∷ s) h = rw (lt-ltb x q (h 0)) (all_below_at q s (λ i. h (suc i)))

-- ---- the weight

pub weight_none : (s : List ℕ) → weight (take 0 s) ≡ 0
unfolding weight
weight_none s = refl

pub weight_append : (s t : List ℕ) → weight (s ++ t) ≡ weight s + weight t
unfolding weight
weight_append [] t = omega arith
weight_append (x ∷ s) t = omega (arith, weight_append s t)

weight_one : (x : ℕ) → weight (x ∷ []) ≡ differ x 0
unfolding weight
weight_one x = omega arith

-- by one symbol more
pub weight_turn : (s : List ℕ) (i : ℕ) → i < length s → weight (take (i + 1) s) ≡ weight (take i s) + differ (get_or s i 0) 0
weight_turn s i h = ap weight (take_more s i h) ∙ weight_append (take i s) (get_or s i 0 ∷ []) ∙ omega (arith, weight_one (get_or s i 0))

-- by one part more
pub weight_part : (s : List ℕ) (a e : ℕ) → a ≤ e → weight (take e s) ≡ weight (take a s) + weight (take (e - a) (drop a s))
weight_part s a e h =
    ap (λ (n : ℕ). weight (take n s)) (let z : e ≡ a + (e - a) = omega arith in z)
    ∙ ap weight (take-add a (e - a) s) ∙ weight_append (take a s) (take (e - a) (drop a s))

pub weight_le : (s : List ℕ) → weight s ≤ length s
weight_le s = omega (arith, zeros_weight s)

pub weight_take_le : (s : List ℕ) (i : ℕ) → weight (take i s) ≤ i
weight_take_le s i = omega (arith, weight_le (take i s), length-take i s)
