-- The margin of a list of estimates: where it is at most 0, what it says of a visit, how the vote tells it; and the margins of a state. proofs/Margins
-- has its range, and what its ends mean.
use Rattle.std.specs.Prelude.{◌≡◌, refl, ◌≢◌, ◌↔◌, false, List, [], ◌∷◌, ◌++◌, map, ℕ, zero, suc, ◌+◌, ◌≤◌, ◌<◌, eqb, ℤ, pos, neg_ℤ, length, get_or, ◌≤ℤ◌}
use Rattle.std.proofs.Common.{sym, ap, ◌∙◌, subst, not-suc-le-zero, le_of_suc-le-suc, arith}
use Rattle.std.proofs.Math.Decide.{ℕ_discrete, dec_le}
use Rattle.model.specs.Code.{Code, data_count, checks_of}
use Rattle.model.specs.Decoder.{State, estimates, is_change, data_symbols, margins_of}
use Rattle.model.specs.Symbols.{choose, count, tabulate}
use Rattle.model.specs.Vote.{leader, lead_count, other_count, next_count, margin}
use Rattle.theory.specs.Counting.{is_false, eqb_yes, eqb_no, same_yes, same_eq, same_le, All, count_misses}
use Rattle.theory.specs.Distance.{length_tabulate, get_d_tabulate}
use Rattle.theory.specs.Falling.{is_change_facts}
use Rattle.theory.specs.Integers.{minus_le, minus}
use Rattle.theory.specs.Turns.{tabulate_snoc}
use Rattle.theory.specs.Voting.{lead_max, next_max, other_max, other_least, other_some, leader_mem}

-- ---- counts that are the whole list

pub count_le : (v : ℕ) (es : List ℕ) → count v es ≤ length es
count_le v es = omega (arith, count_misses v es)

pub count_all : (v : ℕ) (es : List ℕ) → count v es ≡ length es → All (λ e. e ≡ v) es
unfolding count
count_all v [] e = tt
count_all v (x ∷ xs) e =
    let n = count_le v xs in
    (sym (same_eq v x (omega (arith, same_le v x))), count_all v xs (omega (arith, same_le v x)))

pub all_count : (v : ℕ) (es : List ℕ) → All (λ e. e ≡ v) es → count v es ≡ length es
unfolding count
all_count v [] a = refl
all_count v (x ∷ xs) a = omega (arith, same_yes v x (sym a.0), all_count v xs a.1)

-- ---- the sign

-- at most 0: a value other than 0 has at least as many estimates
pub margin_behind : (es : List ℕ) → 0 < length es → (margin es ≤ℤ pos 0) ↔ ((v : ℕ) × (v ≢ 0) × (count 0 es ≤ count v es))
unfolding margin
margin_behind es h = (
  (λ m.
      let b : count 0 es + 0 ≤ 0 + other_count es 0 es = (minus_le (count 0 es) (other_count es 0 es) 0 0).0 m in
      elim (ℕ_discrete (count 0 es) 0) as (λ o. (v : ℕ) × (v ≢ 0) × (count 0 es ≤ count v es)) [
        | yes z ↦ (leader es, (λ e. absurd (omega (arith, leader_mem es h, ap (λ (v : ℕ). count v es) e))), omega arith)
        | no n ↦ let s = other_some es 0 es (omega arith) in (s.0, s.1, omega (arith, s.2))
      ]),
  (λ p. (minus_le (count 0 es) (other_count es 0 es) 0 0).1 (elim (dec_le (count p.0 es) 0) as (λ o. count 0 es + 0 ≤ 0 + other_count es 0 es)
      [ yes z ↦ omega (arith, p.2) | no n ↦ omega (arith, p.2, other_max es 0 es p.0 p.1 (omega arith)) ])),
)

-- ---- the vote and the visit

-- the other term: m1 where the leader is 0, else m0
pub other_zero : (es : List ℕ) → other_count es 0 es ≡ choose (eqb (leader es) 0) (next_count es) (lead_count es)
unfolding next_count lead_count
other_zero es = elim (ℕ_discrete (leader es) 0) as (λ o. other_count es 0 es ≡ choose (eqb (leader es) 0) (next_count es) (lead_count es)) [
  | yes e ↦ rw (eqb_yes (leader es) 0 e, e) refl
  | no n ↦ rw (eqb_no (leader es) 0 n) (omega (arith, other_least es 0 es (lead_count es) (λ v m. lead_max es v), other_lead n))
]
  where
    other_lead : leader es ≢ 0 → lead_count es ≤ other_count es 0 es
    other_lead n = elim (dec_le (count (leader es) es) 0) as (λ o. lead_count es ≤ other_count es 0 es)
        [ yes z ↦ omega arith | no m ↦ other_max es 0 es (leader es) n (omega arith) ]

-- a symbol whose margin is at least −T stays, at threshold T
pub margin_stays : (t : ℕ) (es : List ℕ) → neg_ℤ (pos t) ≤ℤ margin es → is_change t es ≡ false
unfolding margin
margin_stays t es h = is_false (is_change t es) (λ c.
    let f = is_change_facts t es c in
    let o : other_count es 0 es ≡ lead_count es = other_zero es ∙ rw (eqb_no (leader es) 0 (λ e. f.1 (sym e))) refl in
    let b : 0 + other_count es 0 es ≤ count 0 es + t =
    (minus_le 0 t (count 0 es) (other_count es 0 es)).0 (subst (λ (z : ℤ). z ≤ℤ margin es) (sym (minus t)) h) in
    absurd (omega (arith, f.0, next_max es 0 f.1)))

-- ---- the margins of a state, one for each data symbol

map_append : (f : ℕ → ℤ) (xs ys : List ℕ) → map f (xs ++ ys) ≡ map f xs ++ map f ys
map_append f [] ys = refl
map_append f (x ∷ xs) ys = ap (λ (l : List ℤ). f x ∷ l) (map_append f xs ys)

pub map_at : (f : ℕ → ℤ) (xs : List ℕ) (j : ℕ) → j < length xs → get_or (map f xs) j (pos 0) ≡ f (get_or xs j 0)
map_at f [] j h = absurd (not-suc-le-zero h)
map_at f (x ∷ xs) zero h = refl
map_at f (x ∷ xs) (suc j) h = map_at f xs j (le_of_suc-le-suc h)

-- over the first n symbols, and one more
pub margins_snoc : (f : ℕ → ℤ) (n : ℕ) → map f (tabulate (n + 1) (λ j. j)) ≡ map f (tabulate n (λ j. j)) ++ (f n ∷ [])
margins_snoc f n = ap (map f) (tabulate_snoc n (λ j. j)) ∙ map_append f (tabulate n (λ j. j)) (n ∷ [])

pub margin-at : (c : Code) (st : State) (j : ℕ) → j < data_count c → get_or (margins_of c st) j (pos 0) ≡ margin (estimates (checks_of c j) j st)
unfolding margins_of
margin-at c st j h =
    let f : ℕ → ℤ = (λ i. margin (estimates (checks_of c i) i st)) in
    map_at f (data_symbols c) j (rw (length_tabulate (data_count c) (λ i. i)) h) ∙ ap f (get_d_tabulate (data_count c) (λ i. i) j h)
