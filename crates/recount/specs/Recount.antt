-- One check written: the counts of the symbols of a branch in that check follow, one position a turn.
use Rattle.std.specs.Prelude.{◌≡◌, refl, ℕ, ◌+◌, ◌*◌, ◌-◌, ◌%◌, ◌<◌, ◌≤◌, length, set, take, drop}
use Rattle.std.proofs.Math.Path.{sym, ap, subst}
use Rattle.std.proofs.Common.{◌∙◌, mod-eq_of_lt, take-append-drop, take_all, get_or-set_same, get_or-set_other}
use mathlib.Core.List.{List, [], ◌∷◌}
use Rattle.std.proofs.Math.Nat.{mul-le-mul_left, mul-le-mul_right}
use Rattle.std.proofs.Math.Decide.{ℕ_discrete}
use native.Mathlib.Omega.{arith}
use Rattle.std.proofs.Math.ListN.{get_or, length-set}
use Rattle.model.specs.Code.{Code, data_count, checks_by, checks_of}
use Rattle.model.specs.Limits.{Ascending}
use Rattle.model.specs.Symbols.{sub, same, count, tabulate, symbols_at}
use Rattle.theory.specs.Written.{tabulate_get_d}
use Rattle.theory.specs.Circulant.{same_iff, length_checks_by}
use Rattle.theory.specs.Counting.{count_nil, count_cons, same_yes, same_no, same_le}
use Rattle.theory.specs.Distance.{tabulate_ext}
use Rattle.theory.specs.Modulo.{sub_lt, sub_add, sub_unique}
use Rattle.theory.specs.Tables.{count_append}
use Rattle.theory.specs.Turns.{checks_by_append, checks_by_turn}
use Rattle.checks.specs.Checks.{AtChecks}
use Rattle.zeros.specs.Counts.{run_zeros, zero_counts, length_run_zeros, run_zeros_at, run_zeros_below, count_le}

-- v at place c: the zeros at a list of places lose those that stood at c, and gain those that v makes
zeros_set : (s : List ℕ) (c v : ℕ) → c < length s → (is : List ℕ)
    → count 0 (symbols_at (set s c v) is) + same 0 (get_or s c 0) * count c is ≡ count 0 (symbols_at s is) + same 0 v * count c is
unfolding symbols_at count
zeros_set s c v h [] = omega arith
zeros_set s c v h (i ∷ is) = elim (ℕ_discrete i c) as (λ o. count 0 (symbols_at (set s c v) (i ∷ is)) + same 0 (get_or s c 0) * count c (i ∷ is) ≡ count 0 (symbols_at s (i ∷ is)) + same 0 v * count c (i ∷ is)) [
  | yes e ↦ rw (e, get_or-set_same s c v 0 h, same_yes c c refl) (omega (arith, zeros_set s c v h is))
  | no n ↦ rw (get_or-set_other s c i v 0 n, same_no c i (λ e. n (sym e))) (omega (arith, zeros_set s c v h is))
]

-- a zero at c is counted as often as c is among the places
zeros_hold : (s : List ℕ) (c : ℕ) → c < length s → (is : List ℕ) → same 0 (get_or s c 0) * count c is ≤ count 0 (symbols_at s is)
zeros_hold s c h is =
    let e = subst (λ (z : ℕ). count 0 (symbols_at (set s c 1) is) + same 0 (get_or s c 0) * count c is ≡ count 0 (symbols_at s is) + z * count c is)
    (same_no 0 1 (omega arith)) (zeros_set s c 1 h is) in
    omega (arith, e)

-- how often check c is a check of symbol x by the first n positions
abbrev times : ℕ → List ℕ → ℕ → ℕ → ℕ → ℕ
times k ps c n x = count c (checks_by k (take n ps) x)

module _ (k : ℕ) (ps : List ℕ) (c n x : ℕ) where
  -- by one position p more: x is in check c by p where x is (c − p) mod k
  times_turn : n < length ps → get_or ps n 0 < k → c < k → x < k → times k ps c (n + 1) x ≡ times k ps c n x + same x (sub k c (get_or ps n 0))
  times_turn h hp hc hx =
      let p : ℕ = get_or ps n 0 in
      ap (λ (l : List ℕ). count c l) (checks_by_turn k ps x n h)
      ∙ count_append c (checks_by k (take n ps) x) ((x + p) % k ∷ [])
      ∙ omega (
        arith,
        count_cons c ((x + p) % k) [],
        count_nil c,
        same_iff c ((x + p) % k) x (sub k c p)
            (λ e. sub_unique k (omega arith) c p x (omega arith) hx (sym e ∙ sym (mod-eq_of_lt hc)))
            (λ e. sym (ap (λ (z : ℕ). (z + p) % k) e ∙ sub_add k (omega arith) c p (omega arith) ∙ mod-eq_of_lt hc)),
      )

  times_le : times k ps c n x ≤ count c (checks_by k ps x)
  times_le =
      let e : count c (checks_by k ps x) ≡ times k ps c n x + count c (checks_by k (drop n ps) x) =
      ap (λ (l : List ℕ). count c (checks_by k l x)) (sym (take-append-drop n ps))
      ∙ ap (λ (l : List ℕ). count c l) (checks_by_append k (take n ps) (drop n ps) x)
      ∙ count_append c (checks_by k (take n ps) x) (checks_by k (drop n ps) x) in
      omega (arith, e)

  times_few : times k ps c n x ≤ length ps
  times_few = omega (arith, times_le, count_le c (checks_by k ps x), length_checks_by k ps x)

-- n positions passed: the count of each symbol, zs₀ at first, has gained and lost as often as c is its check by them
pub record Recounted (k : ℕ) (ps : List ℕ) (c gained lost : ℕ) (zs₀ : List ℕ) (n : ℕ) (zs : List ℕ) : Type 0 where
  pub within : n ≤ length ps
  pub sized : length zs ≡ k
  pub moved : (x : ℕ) → x < k → get_or zs x 0 + lost * times k ps c n x ≡ get_or zs₀ x 0 + gained * times k ps c n x

moved_turn : {k : ℕ} {ps : List ℕ} {c gained lost : ℕ} {zs₀ : List ℕ} {n : ℕ} {zs : List ℕ} {y : ℕ} → Recounted k ps c gained lost zs₀ n zs
    → n < length ps → get_or ps n 0 < k → c < k → y < length zs → y ≡ sub k c (get_or ps n 0) → lost ≤ get_or zs y 0 → (x : ℕ) → x < k
    → get_or (set zs y (get_or zs y 0 + gained - lost)) x 0 + lost * times k ps c (n + 1) x ≡ get_or zs₀ x 0 + gained * times k ps c (n + 1) x
moved_turn {k} {ps} {c} {gained} {lost} {zs₀} {n} {zs} {y} w h p i l e a x r =
    let u : ℕ = get_or zs y 0 + gained - lost in
    let m = w.moved x r in
    rw (times_turn k ps c n x h p i r, sym e)
    (elim (ℕ_discrete x y) as (λ o. get_or (set zs y u) x 0 + lost * (times k ps c n x + same x y) ≡ get_or zs₀ x 0 + gained * (times k ps c n x + same x y)) [
      | yes d ↦ rw (same_yes x y d, ap (λ (z : ℕ). get_or (set zs y u) z 0) d ∙ get_or-set_same zs y u 0 l) (omega (arith, m, ap (λ (z : ℕ). get_or zs z 0) d))
      | no d ↦ rw (same_no x y d, get_or-set_other zs y x u 0 d) (omega (arith, m))
    ])

-- what the counts of a branch need: each symbol in check c has what it loses, and no more than 32
pub record Recounts (k : ℕ) (ps : List ℕ) (c gained lost : ℕ) (zs₀ : List ℕ) : Type 0 where
  pub k_high : k ≤ 4096
  pub J-high : length ps ≤ 32
  pub ascending : Ascending k ps
  pub inside : c < k
  pub gain : gained ≤ 1
  pub sized : length zs₀ ≡ k
  pub holds : (x : ℕ) → x < k → lost * count c (checks_by k ps x) ≤ get_or zs₀ x 0
  pub few : (x : ℕ) → x < k → get_or zs₀ x 0 ≤ 32

-- the counts that follow
unfoldable pub recounted : ℕ → List ℕ → ℕ → ℕ → ℕ → List ℕ → List ℕ
recounted k ps c gained lost zs = tabulate k (λ x. get_or zs x 0 + gained * count c (checks_by k ps x) - lost * count c (checks_by k ps x))

-- what a turn at symbol y needs, and what it leaves
pub record Turn (k : ℕ) (ps : List ℕ) (c gained lost : ℕ) (zs₀ : List ℕ) (n : ℕ) (zs : List ℕ) (y : ℕ) : Type 0 where
  pub inside : y < length zs
  pub holds : lost ≤ get_or zs y 0
  pub room : get_or zs y 0 + gained ≤ 65
  pub next : Recounted k ps c gained lost zs₀ (n + 1) (set zs y (get_or zs y 0 + gained - lost))

module _ {k : ℕ} {ps : List ℕ} {c gained lost : ℕ} {zs₀ : List ℕ} (o : Recounts k ps c gained lost zs₀) where
  -- before the first turn
  pub recount_none : Recounted k ps c gained lost zs₀ 0 zs₀
  unfolding checks_by count
  recount_none = record { within = omega arith; sized = o.sized; moved = (λ x h. omega arith) }

  -- one turn, at symbol (c − p) mod k
  pub recount_turn : {n : ℕ} {zs : List ℕ} → Recounted k ps c gained lost zs₀ n zs → n < length ps → {y : ℕ} → y ≡ (c + (k - get_or ps n 0)) % k
      → Turn k ps c gained lost zs₀ n zs y
  unfolding sub
  recount_turn {n} {zs} w h {y} e =
      let i : c < k = o.inside in
      let p : get_or ps n 0 < k = o.ascending.below n h in
      let l : y < k = rw e (sub_lt k (omega arith) c (get_or ps n 0)) in
      let t : times k ps c (n + 1) y ≡ times k ps c n y + 1 =
      times_turn k ps c n y h p i l ∙ ap (λ (z : ℕ). times k ps c n y + z) (same_yes y (sub k c (get_or ps n 0)) e) in
      let m = w.moved y l in
      let b = o.holds y l in
      let a : lost ≤ get_or zs y 0 = omega (arith, m, b, mul-le-mul_left lost (let z : times k ps c n y + 1 ≤ count c (checks_by k ps y) = omega (arith, t, times_le k ps c (n + 1) y) in z)) in
      record {
        inside = omega (arith, w.sized);
        holds = a;
        room = omega (arith, m, o.few y l, mul-le-mul_right (times k ps c n y) o.gain, times_few k ps c n y, o.J-high);
        next = record {
          within = omega arith;
          sized = length-set zs y _ ∙ w.sized;
          moved = moved_turn w h p i (omega (arith, w.sized)) e a;
        };
      }

  -- at the end
  pub recount_all : {n : ℕ} {zs : List ℕ} → Recounted k ps c gained lost zs₀ n zs → length ps ≤ n → zs ≡ recounted k ps c gained lost zs₀
  unfolding recounted
  recount_all {n} {zs} w h =
      sym (tabulate_get_d zs) ∙ ap (λ (m : ℕ). tabulate m (λ x. get_or zs x 0)) w.sized
      ∙ tabulate_ext k _ _ (λ x l.
      let e = subst (λ (qs : List ℕ). get_or zs x 0 + lost * count c (checks_by k qs x) ≡ get_or zs₀ x 0 + gained * count c (checks_by k qs x)) (take_all n ps h) (w.moved x l) in
      omega (arith, e, o.holds x l))

-- v written at check c of s: what each symbol of a branch in that check gains and loses
module _ {k : ℕ} {ps s : List ℕ} (f : AtChecks k ps s) (c v : ℕ) (i : c < k) where
  pub recounts : (gained lost : ℕ) → gained ≡ same 0 v → lost ≡ same 0 (get_or s c 0) → Recounts k ps c gained lost (run_zeros k ps s)
  recounts gained lost g o = record {
    k_high = f.k_high;
    J-high = f.J-high;
    ascending = f.ascending;
    inside = i;
    gain = omega (arith, g, same_le 0 v);
    sized = length_run_zeros k ps s;
    holds = (λ x h. rw (o, run_zeros_at k ps s x h) (zeros_hold s c (omega (arith, f.len)) (checks_by k ps x)));
    few = (λ x h. omega (arith, f.J-high, run_zeros_below k ps s (length ps + 1) (omega arith) x));
  }

  -- what is counted again, from a lent run qs and the zeros zs of its part, is the zeros once v stands there
  pub recounted_zeros : (gained lost : ℕ) → gained ≡ same 0 v → lost ≡ same 0 (get_or s c 0) → (qs zs part : List ℕ) → qs ≡ ps → zs ≡ run_zeros k ps s
      → part ≡ recounted k qs c gained lost zs → part ≡ run_zeros k ps (set s c v)
  unfolding recounted run_zeros
  recounted_zeros gained lost g o qs zs part e z p = p ∙ rw (e, z, g, o) (tabulate_ext k _ _ (λ x l.
      omega (
        arith,
        run_zeros_at k ps s x l,
        zeros_set s c v (omega (arith, f.len)) (checks_by k ps x),
        zeros_hold s c (omega (arith, f.len)) (checks_by k ps x),
      )))

-- where a zero is neither made nor ended, the zeros stay, of every data symbol
pub unchanged_zeros : (code : Code) (s : List ℕ) (c v : ℕ) → c < length s → same 0 v ≡ same 0 (get_or s c 0) → zero_counts code s ≡ zero_counts code (set s c v)
unfolding zero_counts
unchanged_zeros code s c v h e = tabulate_ext (data_count code) _ _ (λ x l.
    let z = subst (λ (n : ℕ). count 0 (symbols_at (set s c v) (checks_of code x)) + same 0 (get_or s c 0) * count c (checks_of code x) ≡ count 0 (symbols_at s (checks_of code x)) + n * count c (checks_of code x))
    e (zeros_set s c v h (checks_of code x)) in
    omega (arith, z))
