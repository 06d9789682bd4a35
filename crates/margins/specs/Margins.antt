-- A symbol's margin by its zeros, margins written from the front, and the margins of a state in which S and D are 0.
use Rattle.std.specs.Prelude.{◌≡◌, refl, ◌≢◌, List, [], ◌∷◌, ◌++◌, map, ℕ, zero, suc, ◌+◌, ◌-◌, ◌≤◌, ◌<◌, ℤ, pos, ◌-ℤ◌, length, get_or, set, take}
use Rattle.std.proofs.Common.{ap, sym, subst, ◌∙◌, add-one, arith, length-set, take-suc-set, take_all, to_z, of_z, SFits, lt-ltb, le-ltb}
use Rattle.std.proofs.Math.Decide.{ℕ_discrete, dec_lt}
use Rattle.std.specs.Int.Signed.{mag}
use Rattle.std.specs.Int.{w32}
use Rattle.std.proofs.lemmas.Int.{to_z-of_z}
use Rattle.model.specs.Code.{Code, data_count, checks_each, checks_by, checks_of}
use Rattle.model.specs.Decoder.{State, state_by, estimates, data_symbols, margins_of, state_weight}
use Rattle.model.specs.Limits.{TableLimits}
use Rattle.model.specs.Symbols.{same, count, weight, tabulate, symbols_at}
use Rattle.model.specs.Vote.{other_count, margin}
use Rattle.theory.specs.Branches.{checks_length}
use Rattle.theory.specs.Counting.{same_yes, differ_no, differ_yes, All, length_symbols_at, misses, count_misses}
use Rattle.theory.specs.Integers.{whole}
use Rattle.theory.proofs.Margins.{zeros_others, margin_top}
use Rattle.theory.specs.Margins.{margins_snoc}
use Rattle.theory.specs.Runs.{symbols_range}
use Rattle.theory.specs.Voting.{other_max}
use Rattle.checks.specs.Checks.{AtChecks, estimates_by}
use Rattle.checks.specs.Places.{AtTable, Found, run_at}
use Rattle.checks.specs.declared.Place.{Place}
use Rattle.checks.specs.Estimates.{estimates_at, zeros_counted}
use Rattle.zeros.specs.Counts.{zero_counts, zero_counts_at}

-- where every estimate is 0
pub margin_firm : (es : List ℕ) → count 0 es ≡ length es → pos (count 0 es) -ℤ pos 0 ≡ margin es
unfolding margin
margin_firm es e = ap (λ (n : ℕ). pos (count 0 es) -ℤ pos n) (let z : 0 ≡ other_count es 0 es = omega (arith, zeros_others es) in z)

-- where all but one are 0
some_other : (es : List ℕ) → 0 < misses 0 es → (v : ℕ) × (v ≢ 0) × (0 < count v es)
unfolding misses count
some_other [] h = absurd (omega arith)
some_other (x ∷ xs) h = elim (ℕ_discrete x 0) as (λ o. (v : ℕ) × (v ≢ 0) × (0 < count v (x ∷ xs))) [
  | yes e ↦ let s = some_other xs (omega (arith, differ_no 0 x (sym e))) in (s.0, s.1, omega (arith, s.2))
  | no n ↦ (x, n, omega (arith, same_yes x x refl))
]

pub margin_but_one : (es : List ℕ) → count 0 es + 1 ≡ length es → pos (count 0 es) -ℤ pos 1 ≡ margin es
unfolding margin
margin_but_one es e =
    let s = some_other es (omega (arith, count_misses 0 es)) in
    ap (λ (n : ℕ). pos (count 0 es) -ℤ pos n) (let z : 1 ≡ other_count es 0 es = omega (arith, zeros_others es, s.2, other_max es 0 es s.0 s.1 s.2) in z)

-- both terms are no more than the estimates
pub others_few : (es : List ℕ) → other_count es 0 es ≤ length es
others_few es = omega (arith, zeros_others es)

-- ---- the margins of all data symbols

-- that of data symbol i, by S and D
abbrev pub margin_of : Code → List ℕ → List ℕ → ℕ → ℤ
margin_of c s d i = margin (estimates_at c i (get_or d i 0) s)

pub margins_are : (c : Code) (r s d : List ℕ) (n : ℕ) → n ≡ data_count c → map (margin_of c s d) (tabulate n (λ i. i)) ≡ margins_of c (state_by r s d)
unfolding margins_of estimates
margins_are c r s d n e = ap (λ (m : ℕ). map (margin_of c s d) (tabulate m (λ i. i))) e

-- ---- at a place p, where the run of its branch is lent

module _ {c : Code} {s : List ℕ} {p : Place} (f : Found c s p) (run : List ℕ) (e : run ≡ run_at p c.positions) where
  run_checks : checks_by c.k run (p.symbol - p.start) ≡ checks_of c p.symbol
  run_checks = ap (λ (ps : List ℕ). checks_by c.k ps (p.symbol - p.start)) e ∙ f.checks_are

  -- what the margin there asks
  pub placed_fits : p.symbol < data_count c → (zs : List ℕ) → zs ≡ zero_counts c s
      → AtChecks c.k run s
      × (p.symbol - p.start < c.k)
      × (get_or zs p.symbol 0 ≡ count 0 (symbols_at s (checks_by c.k run (p.symbol - p.start))))
  placed_fits h zs z = (
    subst (λ (ps : List ℕ). AtChecks c.k ps s) (sym e) f.checks_lent,
    f.index_low,
    ap (λ (l : List ℕ). get_or l p.symbol 0) z ∙ zero_counts_at c s p.symbol h ∙ ap (λ (is : List ℕ). count 0 (symbols_at s is)) (sym run_checks),
  )

  -- and where the zeros among its estimates are given
  pub placed_counted : p.symbol < data_count c → (zs : List ℕ) → zs ≡ zero_counts c s → (own n : ℕ) → n ≡ get_or zs p.symbol 0 + same 0 own
      → AtChecks c.k run s
      × (p.symbol - p.start < c.k)
      × (n ≡ count 0 (estimates_by c.k run (p.symbol - p.start) own s))
  placed_counted h zs z own n m =
      let w = placed_fits h zs z in
      (w.0, w.1, m ∙ zeros_counted own (symbols_at s (checks_by c.k run (p.symbol - p.start))) (get_or zs p.symbol 0) (same 0 own) w.2 refl)

  -- the margin
  pub placed_margin : (own : ℕ) (m : ℤ) → m ≡ margin (estimates_by c.k run (p.symbol - p.start) own s) → m ≡ margin (estimates_at c p.symbol own s)
  placed_margin own m g = g ∙ ap (λ (is : List ℕ). margin (own ∷ symbols_at s is)) run_checks

-- ---- margins written from the front

-- the first j of n are written: f tells each
pub record Front (f : ℕ → ℤ) (n : ℕ) (ms : List ℤ) (j : ℕ) : Type 0 where
  pub inside : j ≤ n
  pub len : length ms ≡ n
  pub made : take j ms ≡ map f (tabulate j (λ i. i))

pub front_none : (f : ℕ → ℤ) (n : ℕ) (ms : List ℤ) → length ms ≡ n → Front f n ms 0
unfolding tabulate
front_none f n ms e = record { inside = omega arith; len = e; made = refl }

module _ (f : ℕ → ℤ) (n : ℕ) (ms : List ℤ) (j : ℕ) (w : Front f n ms j) where
  pub front_turn : j < n → (v : ℤ) → v ≡ f j → Front f n (set ms j v) (j + 1)
  front_turn h v e = record {
    inside = omega arith;
    len = length-set ms j v ∙ w.len;
    made = ap (λ (m : ℕ). take m (set ms j v)) (add-one j) ∙ take-suc-set ms j v (omega (arith, w.len)) ∙ ap (λ (l : List ℤ). l ++ (v ∷ [])) w.made
        ∙ ap (λ (m : ℤ). map f (tabulate j (λ i. i)) ++ (m ∷ [])) e ∙ sym (margins_snoc f j);
  }

  pub front_all : n ≤ j → ms ≡ map f (tabulate n (λ i. i))
  front_all h =
      let e : j ≡ n = omega (arith, w.inside) in
      sym (take_all j ms (omega (arith, w.len))) ∙ w.made ∙ ap (λ (m : ℕ). map f (tabulate m (λ i. i))) e

-- ---- a state in which S and D are 0

zero_weight : (s : List ℕ) → weight s ≡ 0 → (i : ℕ) → get_or s i 0 ≡ 0
unfolding weight
zero_weight [] e i = refl
zero_weight (x ∷ xs) e zero = elim (ℕ_discrete x 0) as (λ o. x ≡ 0) [ yes p ↦ p | no n ↦ absurd (omega (arith, differ_yes x 0 n)) ]
zero_weight (x ∷ xs) e (suc i) = zero_weight xs (omega arith) i

zeros-at : (s : List ℕ) → ((i : ℕ) → get_or s i 0 ≡ 0) → (is : List ℕ) → All (λ e. e ≡ 0) (symbols_at s is)
unfolding symbols_at
zeros-at s z [] = tt
zeros-at s z (i ∷ is) = (z i, zeros-at s z is)

map_same : (f g : ℕ → ℤ) (xs : List ℕ) → All (λ x. f x ≡ g x) xs → map f xs ≡ map g xs
map_same f g [] a = refl
map_same f g (x ∷ xs) a = λ i. a.0 i ∷ map_same f g xs a.1 i

-- every margin is the number of estimates, J + 1
pub margins_firm : (c : Code) → TableLimits c → (st : State) (n : ℕ) → n ≡ checks_each c + 1 → state_weight st ≡ 0 → map (λ j. pos n -ℤ pos 0) (tabulate (data_count c) (λ j. j)) ≡ margins_of c st
unfolding margins_of state_weight estimates
margins_firm c t st n m e =
    map_same (λ j. pos n -ℤ pos 0) (λ j. margin (estimates (checks_of c j) j st)) (data_symbols c) (every (data_symbols c) (symbols_range c))
  where
    firm : (j : ℕ) → j < data_count c → pos n -ℤ pos 0 ≡ margin (get_or st.difference j 0 ∷ symbols_at st.syndrome (checks_of c j))
    firm j h =
        let es : List ℕ = get_or st.difference j 0 ∷ symbols_at st.syndrome (checks_of c j) in
        let l : n ≡ length es = omega (arith, length_symbols_at st.syndrome (checks_of c j), checks_length c t j h) in
        whole n ∙ ap pos l
        ∙ sym ((margin_top es).1 (zero_weight st.difference (omega arith) j, zeros-at st.syndrome (zero_weight st.syndrome (omega arith)) (checks_of c j)))

    every : (xs : List ℕ) → All (λ j. j < data_count c) xs → All (λ j. pos n -ℤ pos 0 ≡ margin (get_or st.difference j 0 ∷ symbols_at st.syndrome (checks_of c j))) xs
    every [] a = tt
    every (x ∷ xs) a = (firm x a.0, every xs a.1)

-- what a decode that is done leaves for its margins: S and D, their weight, and, where that is not 0, the zeros at the checks of each data symbol
pub record Left (c : Code) (s d zeros : List ℕ) (n : ℕ) : Type 0 where
  pub checks : AtTable c s
  pub len_difference : length d ≡ data_count c
  pub weighed : n ≡ weight d + weight s
  pub room : data_count c ≤ length zeros
  pub counted : n ≢ 0 → take (data_count c) zeros ≡ zero_counts c s

-- ---- a margin as a 32-bit number

mag_sub : (a b : ℕ) → a ≤ 33 → b ≤ 33 → mag (pos a -ℤ pos b) ≤ 33
mag_sub a zero h g = omega arith
mag_sub a (suc b) h g = by (dec_lt a (suc b))
  where
    by : Dec (a < suc b) → mag (pos a -ℤ pos (suc b)) ≤ 33
    by (yes l) = simp (lt-ltb a (suc b) l) (omega arith)
    by (no l) = simp (le-ltb a (suc b) (omega arith)) (omega arith)

pub small_fits : (a b : ℕ) → a ≤ 33 → b ≤ 33 → SFits w32 (pos a -ℤ pos b)
small_fits a b h g = record { sfits = omega (arith, mag_sub a b h g) }

-- a signed number that was stored is read back
pub read_back : (z : ℤ) → mag z < 2147483648 → to_z w32 (of_z w32 z) ≡ z
read_back z h = to_z-of_z w32 z (record { sfits = h })
