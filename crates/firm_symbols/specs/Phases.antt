-- Margins in two phases: first the margin of every data symbol as it is where at most one of its estimates is not 0, then those of the others.
-- A symbol is firm where the zeros among its J + 1 estimates are J or more.
use Rattle.std.specs.Prelude.{◌≡◌, refl, List, [], ◌∷◌, map, ℕ, suc, ◌+◌, ◌-◌, ◌≤◌, ◌<◌, ltb, ℤ, pos, ◌-ℤ◌, length, get_or, set, take, drop}
use Rattle.std.proofs.Common.{sym, ap, subst, ◌∙◌, arith, length-set, get_or-take, get_or-drop, get_or-set_same, get_or-set_other, ext_get_or, lt-ltb, le-ltb}
use Rattle.std.proofs.Math.Decide.{ℕ_discrete, dec_lt}
use Rattle.std.proofs.Math.ListN.{get_or-eq_default}
use Rattle.model.specs.Code.{Code, data_count, checks_each, checks_of}
use Rattle.model.specs.Limits.{TableLimits}
use Rattle.model.specs.Symbols.{choose, same, count, Below, tabulate, symbols_at}
use Rattle.model.specs.Vote.{margin}
use Rattle.theory.specs.Branches.{checks_length}
use Rattle.theory.specs.Counting.{length_symbols_at}
use Rattle.theory.specs.Distance.{length_tabulate, get_d_tabulate}
use Rattle.theory.specs.Margins.{count_le, map_at}
use Rattle.checks.specs.Estimates.{estimates_at, zeros_counted}
use Rattle.zeros.specs.Counts.{zero_counts, length_zero_counts, zero_counts_at}
use Rattle.margins.specs.Margins.{margin_of, margin_firm, margin_but_one}

-- the zeros among the estimates of data symbol i, by those at its checks
abbrev pub zeros_at : List ℕ → List ℕ → ℕ → ℕ
zeros_at zs d i = get_or zs i 0 + same 0 (get_or d i 0)

-- there are at most 32 checks
pub zeros_below : (c : Code) → TableLimits c → (s zs : List ℕ) → zs ≡ zero_counts c s → Below 33 zs
zeros_below c t s zs e i = elim (dec_lt i (data_count c)) as (λ o. get_or zs i 0 < 33) [
  | yes h ↦
      let is : List ℕ = checks_of c i in
      omega (arith, ap (λ (l : List ℕ). get_or l i 0) e ∙ zero_counts_at c s i h, count_le 0 (symbols_at s is), length_symbols_at s is, checks_length c t i h, t.sizes.J-high)
  | no h ↦ omega (arith, get_or-eq_default zs 0 {n = i} (omega (arith, ap length e, length_zero_counts c s)))
]

-- the margin by n zeros among J + 1 estimates, where at most one of these is not 0
unfoldable pub by_zeros : ℕ → ℕ → ℤ
by_zeros J n = choose (ltb J n) (pos (J + 1) -ℤ pos 0) (pos J -ℤ pos 1)

-- of each data symbol
abbrev pub zeros_margin : ℕ → List ℕ → List ℕ → ℕ → ℤ
zeros_margin J zs d i = by_zeros J (zeros_at zs d i)

pub by_all : (J n : ℕ) → J < n → pos (J + 1) -ℤ pos 0 ≡ by_zeros J n
unfolding by_zeros
by_all J n h = rw (lt-ltb J n h)

pub by_fewer : (J n : ℕ) → n ≤ J → pos J -ℤ pos 1 ≡ by_zeros J n
unfolding by_zeros
by_fewer J n h = rw (le-ltb J n h)

-- it is the margin of a symbol that is firm
pub firm_margin : (c : Code) → TableLimits c → (s d zs : List ℕ) → zs ≡ zero_counts c s → (i : ℕ) → i < data_count c → checks_each c ≤ zeros_at zs d i
    → by_zeros (checks_each c) (zeros_at zs d i) ≡ margin_of c s d i
firm_margin c t s d zs e i h f =
    let J : ℕ = checks_each c in
    let own : ℕ = get_or d i 0 in
    let n : ℕ = zeros_at zs d i in
    let es : List ℕ = estimates_at c i own s in
    let z : n ≡ count 0 es = zeros_counted own (symbols_at s (checks_of c i)) (get_or zs i 0) (same 0 own) (ap (λ (l : List ℕ). get_or l i 0) e ∙ zero_counts_at c s i h) refl in
    let l : length es ≡ J + 1 = omega (arith, length_symbols_at s (checks_of c i), checks_length c t i h) in
    elim (dec_lt J n) as (λ o. by_zeros J n ≡ margin es) [
      | yes m ↦ sym (by_all J n m)
          ∙ ap (λ (x : ℕ). pos x -ℤ pos 0) (let g : J + 1 ≡ count 0 es = omega (arith, z, l, count_le 0 es) in g)
          ∙ margin_firm es (omega (arith, z, l, count_le 0 es))
      | no m ↦ sym (by_fewer J n (omega arith))
          ∙ ap (λ (x : ℕ). pos x -ℤ pos 1) (let g : J ≡ count 0 es = omega (arith, z) in g)
          ∙ margin_but_one es (omega (arith, z, l))
    ]

-- ---- blocks that are passed over

-- r is from a to b, and all symbols from a to r have bound zeros or more: n tells those of each
pub record PastFirm (bound : ℕ) (n : ℕ → ℕ) (a b r : ℕ) : Type 0 where
  pub low : a ≤ r
  pub high : r ≤ b
  pub many : (j : ℕ) → a ≤ j → j < r → bound ≤ n j

pub past_none : {bound a b : ℕ} {n : ℕ → ℕ} → a ≤ b → PastFirm bound n a b a
past_none h = record { low = omega arith; high = h; many = (λ j l m. absurd (omega arith)) }

-- the zeros of a part
part_at : (zs : List ℕ) (r w i : ℕ) → i < w → get_or (take (r + w - r) (drop r zs)) i 0 ≡ get_or zs (r + i) 0
part_at zs r w i h = get_or-take (r + w - r) (drop r zs) i 0 (omega arith) ∙ get_or-drop r zs i 0

pub zeros_part : (zs d : List ℕ) (r w i : ℕ) → i < w → zeros_at (take (r + w - r) (drop r zs)) (take (r + w - r) (drop r d)) i ≡ zeros_at zs d (r + i)
zeros_part zs d r w i h = λ o. part_at zs r w i h o + same 0 (part_at d r w i h o)

-- by one block more, in which none has fewer than v
pub past_block : {bound a b r v : ℕ} (zs d : List ℕ) (w : ℕ) → PastFirm bound (zeros_at zs d) a b r → r + w ≤ b
    → ((i : ℕ) → i < w → v ≤ zeros_at (take (r + w - r) (drop r zs)) (take (r + w - r) (drop r d)) i) → bound ≤ v → PastFirm bound (zeros_at zs d) a b (r + w)
past_block {bound} {a} {b} {r} {v} zs d w f h all few = record {
  low = omega (arith, f.low);
  high = h;
  many = (λ j l m. elim (dec_lt j r) as (λ o. bound ≤ zeros_at zs d j) [
    | yes u ↦ f.many j l u
    | no u ↦
        let e : zeros_at zs d (r + (j - r)) ≡ zeros_at zs d j = ap (zeros_at zs d) (let z : r + (j - r) ≡ j = omega arith in z) in
        omega (arith, e, zeros_part zs d r w (j - r) (omega arith), all (j - r) (omega arith))
  ]);
}

-- ---- margins of which the first are written, and of the others those of the firm symbols

-- the first j of count, and those of symbols with bound zeros or more: f tells each, n its zeros
pub record Held (f : ℕ → ℤ) (n : ℕ → ℕ) (bound count : ℕ) (ms : List ℤ) (j : ℕ) : Type 0 where
  pub inside : j ≤ count
  pub len : length ms ≡ count
  pub passed : (i : ℕ) → i < j → get_or ms i (pos 0) ≡ f i
  pub firm : (i : ℕ) → j ≤ i → i < count → bound ≤ n i → get_or ms i (pos 0) ≡ f i

map_of : (f : ℕ → ℤ) (count i : ℕ) → i < count → get_or (map f (tabulate count (λ l. l))) i (pos 0) ≡ f i
map_of f count i h = map_at f (tabulate count (λ l. l)) i (rw (length_tabulate count (λ l. l)) h) ∙ ap f (get_d_tabulate count (λ l. l) i h)

length-of : (f : ℕ → ℤ) (xs : List ℕ) → length (map f xs) ≡ length xs
length-of f [] = refl
length-of f (x ∷ xs) = ap suc (length-of f xs)

length_first : (f : ℕ → ℤ) (count : ℕ) → length (map f (tabulate count (λ l. l))) ≡ count
length_first f count = length-of f (tabulate count (λ l. l)) ∙ length_tabulate count (λ l. l)

-- after the first phase, which wrote g
pub held_first : {f : ℕ → ℤ} {n : ℕ → ℕ} {bound : ℕ} (g : ℕ → ℤ) (count : ℕ) → ((i : ℕ) → i < count → bound ≤ n i → g i ≡ f i)
    → Held f n bound count (map g (tabulate count (λ l. l))) 0
held_first g count right = record {
  inside = omega arith;
  len = length_first g count;
  passed = (λ i h. absurd (omega arith));
  firm = (λ i l h b. map_of g count i h ∙ right i h b);
}

module _ {f : ℕ → ℤ} {n : ℕ → ℕ} {bound count : ℕ} {ms : List ℤ} {j : ℕ} (w : Held f n bound count ms j) where
  -- firm symbols are passed over
  pub held_past : {b r : ℕ} → PastFirm bound n j b r → b ≤ count → Held f n bound count ms r
  held_past {b} {r} p h = record {
    inside = omega (arith, p.high);
    len = w.len;
    passed = (λ i l. elim (dec_lt i j) as (λ o. get_or ms i (pos 0) ≡ f i) [
      | yes u ↦ w.passed i u
      | no u ↦ w.firm i (omega arith) (omega (arith, p.high)) (p.many i (omega arith) l)
    ]);
    firm = (λ i l. w.firm i (omega (arith, p.low)));
  }

  -- one of them
  pub held_one : j < count → bound ≤ n j → Held f n bound count ms (j + 1)
  held_one h b = held_past (record {
    low = omega arith;
    high = omega arith;
    many = (λ i l m. subst (λ (x : ℕ). bound ≤ n x) (let e : j ≡ i = omega arith in e) b);
  }) h

  -- the margin of the next is written
  pub held_turn : j < count → (m : ℤ) → m ≡ f j → Held f n bound count (set ms j m) (j + 1)
  held_turn h m e = record {
    inside = omega arith;
    len = length-set ms j m ∙ w.len;
    passed = (λ i l. elim (ℕ_discrete i j) as (λ o. get_or (set ms j m) i (pos 0) ≡ f i) [
      | yes u ↦ rw u (get_or-set_same ms j m (pos 0) (omega (arith, w.len)) ∙ e)
      | no u ↦ get_or-set_other ms j i m (pos 0) u ∙ w.passed i (omega arith)
    ]);
    firm = (λ i l g b. get_or-set_other ms j i m (pos 0) (λ z. omega (arith, z)) ∙ w.firm i (omega arith) g b);
  }

  -- all are written
  pub held_all : count ≤ j → ms ≡ map f (tabulate count (λ l. l))
  held_all h = ext_get_or (pos 0) ms (map f (tabulate count (λ l. l))) (w.len ∙ sym (length_first f count))
      (λ i l. w.passed i (omega (arith, w.len)) ∙ sym (map_of f count i (omega (arith, w.len))))
