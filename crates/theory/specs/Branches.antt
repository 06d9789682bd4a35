-- The branches of a code within its limits: their runs of positions, their checks, and when no two data symbols share two checks.
use Rattle.std.specs.Prelude.{◌≡◌, ◌≢◌, ◌↔◌, true, List, T, length, take, drop}
use Rattle.std.proofs.Math.Path.{refl, sym, subst}
use Rattle.std.proofs.Common.{ap, ◌∙◌, zero-mul, mod-lt, mod-eq_of_lt, div-add-mod', div-lt_iff_lt-mul}
use Prim.Native.Nat.{ℕ, zero, ◌+◌, ◌-◌, ◌*◌, ◌/◌, ◌%◌, ◌≤◌, ◌<◌}
use Rattle.std.proofs.Math.Nat.{add-sub_cancel_left, mul-le-mul_right}
use Rattle.std.proofs.Math.Decide.{ℕ_discrete, dec_le, dec_lt}
use native.Mathlib.Omega.{arith}
use Rattle.std.proofs.Math.Arith.{digits_div, digits_mod, digits_lt}
use Rattle.std.proofs.Math.ListN.{get_or, length-take, length-drop}
use Rattle.std.proofs.Math.Seq.{get_or-take, get_or-drop}
use Rattle.model.specs.Code.{Code, data_count, checks_each, branch_at, branch_data, checks_by, checks_of, check_sum_by, shared, SelfOrthogonal, differences_by, differences, all_different}
use Rattle.model.specs.Symbols.{sub, same, count, sum_over, sum_of_first}
use Rattle.model.specs.Limits.{SizeLimits, TableLimits}
use Rattle.theory.specs.Circulant.{row_sum, length_checks_by, pair_count, common_pairs}
use Rattle.theory.specs.Counting.{is_true, same_yes, same_le, same_eq, All, Distinct, distinct_count, all_at, sum_ext, sum_zero, sum_term, sum_two, sum_one, sum_rows, sum_over_ext, some_term, sum_over_term, two_terms, sum_over_two}
use Rattle.theory.specs.Modulo.{by_eq, cong_add, cong_cancel, sub_lt, sub_add, sub_self, sub_zero_eq, sub_cross, sub_no_borrow}
use Rattle.theory.specs.Steps.{check_sum}
use Rattle.theory.specs.Tables.{distinct_test, count_join, count_distinct, differences_count, differences_zero, pairs_far, ascending_facts}

-- ---- pairs of positions, the first of one run and the second of another

-- the pairs that have a difference
pair_of : (k : ℕ) (ps rs : List ℕ) (d : ℕ) → 0 < pair_count k ps rs d → (a x : ℕ) × (0 < count a ps) × (0 < count x rs) × (d ≡ sub k a x)
unfolding pair_count
pair_of k ps rs d h =
    let s = some_term ps (λ a. sum_over rs (λ b. same d (sub k a b))) h in
    let t = some_term rs (λ b. same d (sub k s.0 b)) s.2 in
    (s.0, t.0, s.1, t.1, same_eq d (sub k s.0 t.0) t.2)

row_in : (k : ℕ) (rs : List ℕ) (d a x : ℕ) → 0 < count x rs → d ≡ sub k a x → 0 < sum_over rs (λ b. same d (sub k a b))
row_in k rs d a x h e = omega (arith, sum_over_term rs (λ b. same d (sub k a b)) x h, same_yes d (sub k a x) e)

pair_in : (k : ℕ) (ps rs : List ℕ) (d a x : ℕ) → 0 < count a ps → 0 < count x rs → d ≡ sub k a x → 0 < pair_count k ps rs d
unfolding pair_count
pair_in k ps rs d a x hp hr e = omega (arith, sum_over_term ps (λ b. sum_over rs (λ y. same d (sub k b y))) a hp, row_in k rs d a x hr e)

module _ (k : ℕ) (pos : zero < k) where
  -- where a − c and x − y are equal, so are a − x and c − y
  crossed : (a c x y : ℕ) → c < k → x < k → y < k → sub k a c ≡ sub k x y → sub k a x ≡ sub k c y
  crossed a c x y hc hx hy e =
      sub_cross k pos a x c y (omega arith) (omega arith)
      (sym (cong_add k (sub k a c + c) a y (sub_add k pos a c (omega arith)))
      ∙ by_eq k {x = sub k a c + c + y} {y = sub k x y + y + c} (omega arith)
      ∙ cong_add k (sub k x y + y) x c (sub_add k pos x y (omega arith))
      ∙ by_eq k {x = x + c} {y = c + x} (omega arith))

  right_one : (a x y : ℕ) → x < k → y < k → sub k a x ≡ sub k a y → x ≡ y
  right_one a x y hx hy e =
      sym (mod-eq_of_lt hx)
      ∙ cong_cancel k x y (sub k a x) (omega (arith, sub_lt k pos a x))
      (by_eq k {x = x + sub k a x} {y = sub k a x + x} (omega arith) ∙ sub_add k pos a x (omega arith)
      ∙ sym (sub_add k pos a y (omega arith)) ∙ by_eq k {x = sub k a y + y} {y = y + sub k a x} (omega arith))
      ∙ mod-eq_of_lt hy

  -- a position has the difference d from at most one of a run
  row_one : (rs : List ℕ) → All (λ p. p < k) rs → Distinct rs → (d a : ℕ) → sum_over rs (λ b. same d (sub k a b)) ≤ 1
  row_one rs low apart d a = elim (dec_le (sum_over rs (λ b. same d (sub k a b))) 1) as (λ o. sum_over rs (λ b. same d (sub k a b)) ≤ 1) [
    | yes h ↦ h
    | no h ↦
        let s = two_terms rs (λ b. same d (sub k a b)) apart (λ b. same_le d (sub k a b)) (omega arith) in
        absurd (s.2 (right_one a s.0 s.1 (all_at (λ p. p < k) rs low s.0 s.3) (all_at (λ p. p < k) rs low s.1 s.4)
        (sym (same_eq d (sub k a s.0) s.5) ∙ same_eq d (sub k a s.1) s.6)))
  ]

  module _ (ps rs : List ℕ) (low-p : All (λ p. p < k) ps) (low-r : All (λ p. p < k) rs) where
    -- a difference other than 0 that two runs both have within them: two pairs across them have one difference
    pub across : (v : ℕ) → v ≢ 0 → 0 < pair_count k ps ps v → 0 < pair_count k rs rs v → (d : ℕ) × (d < k) × (2 ≤ pair_count k ps rs d)
    unfolding pair_count
    across v n hp hr =
        let s = pair_of k ps ps v hp in
        let t = pair_of k rs rs v hr in
        let a : ℕ = s.0 in
        let c : ℕ = s.1 in
        let x : ℕ = t.0 in
        let y : ℕ = t.1 in
        let ha : a < k = all_at (λ p. p < k) ps low-p a s.2 in
        let hc : c < k = all_at (λ p. p < k) ps low-p c s.3 in
        let hx : x < k = all_at (λ p. p < k) rs low-r x t.2 in
        let hy : y < k = all_at (λ p. p < k) rs low-r y t.3 in
        let e : sub k a x ≡ sub k c y = crossed a c x y hc hx hy (sym s.4 ∙ t.4) in (
          sub k a x,
          sub_lt k pos a x,
          omega (
            arith,
            sum_over_two ps (λ z. sum_over rs (λ w. same (sub k a x) (sub k z w))) a c
                (λ p. n (s.4 ∙ subst (λ (z : ℕ). sub k a z ≡ 0) p (sub_self k pos a ha))) s.2 s.3,
            row_in k rs (sub k a x) a x t.2 refl,
            row_in k rs (sub k a x) c y t.3 e,
          ),
        )

    -- and the other way round
    pub inner : Distinct ps → Distinct rs → (d : ℕ) → 2 ≤ pair_count k ps rs d → (v : ℕ) × (v ≢ 0) × (0 < pair_count k ps ps v) × (0 < pair_count k rs rs v)
    unfolding pair_count
    inner apart-p apart-r d h =
        let s = two_terms ps (λ z. sum_over rs (λ w. same d (sub k z w))) apart-p (row_one rs low-r apart-r d) h in
        let a : ℕ = s.0 in
        let c : ℕ = s.1 in
        let t = some_term rs (λ w. same d (sub k a w)) s.5 in
        let o = some_term rs (λ w. same d (sub k c w)) s.6 in
        let x : ℕ = t.0 in
        let y : ℕ = o.0 in
        let ha : a < k = all_at (λ p. p < k) ps low-p a s.3 in
        let hc : c < k = all_at (λ p. p < k) ps low-p c s.4 in
        let hx : x < k = all_at (λ p. p < k) rs low-r x t.1 in
        let hy : y < k = all_at (λ p. p < k) rs low-r y o.1 in
        let e : sub k a c ≡ sub k x y = crossed a x c y hx hc hy (sym (same_eq d (sub k a x) t.2) ∙ same_eq d (sub k c y) o.2) in (
          sub k a c,
          (λ z. s.2 (sub_zero_eq k pos a c ha hc z)),
          pair_in k ps ps (sub k a c) a c s.3 s.4 refl,
          pair_in k rs rs (sub k a c) x y t.1 o.1 e,
        )

-- ---- the checks of a branch

-- data symbol j of branch r
pub checks_at : (c : Code) (r j : ℕ) → j < c.k → checks_of c (r * c.k + j) ≡ checks_by c.k (branch_at c r) j
unfolding checks_of
checks_at c r j h = rw (digits_div r {m = c.k} h, digits_mod r {m = c.k} h) refl

-- position i of branch r
pub branch_position : (c : Code) (r i : ℕ) → i < checks_each c → get_or (branch_at c r) i 0 ≡ get_or c.positions (r * checks_each c + i) 0
unfolding branch_at
branch_position c r i h = get_or-take (checks_each c) (drop (r * checks_each c) c.positions) i 0 h ∙ get_or-drop (r * checks_each c) c.positions i 0

-- the part of the table that is run r, as it is lent: the J positions from r · J on
pub run_part : (c : Code) (r at : ℕ) → at ≡ r * checks_each c → take (at + checks_each c - at) (drop at c.positions) ≡ branch_at c r
unfolding branch_at
run_part c r at e = rw (add-sub_cancel_left at (checks_each c), e) refl

pub run_inside : (c : Code) → SizeLimits c → (r : ℕ) → r < c.b → r * checks_each c + checks_each c ≤ length c.positions
run_inside c l r h = omega (arith, l.runs, mul-le-mul_right (checks_each c) h)

-- branch r of the data symbols: k of them from r · k on
pub branch_inside : (c : Code) (r : ℕ) → r < c.b → r * c.k + c.k ≤ data_count c
branch_inside c r h = omega (arith, mul-le-mul_right c.k h)

pub data_part : (c : Code) (u : List ℕ) (r at : ℕ) → at ≡ r * c.k → take (at + c.k - at) (drop at u) ≡ branch_data c u r
data_part c u r at e = rw (add-sub_cancel_left at c.k, e) refl

-- ---- the branches one after the other

-- r branches are passed: the run of the next one starts at `from` in the table, and its symbols at `at`
pub record Passed (c : Code) (from at r : ℕ) : Type 0 where
  pub within : r ≤ c.b
  pub run_at : from ≡ r * checks_each c
  pub data_at : at ≡ r * c.k

pub passed_none : (c : Code) → Passed c 0 0 0
passed_none c = record { within = omega arith; run_at = sym (zero-mul (checks_each c)); data_at = sym (zero-mul c.k) }

-- the next branch: its run of `each` positions and its symbols, and where the one after it starts
pub record Branch (c : Code) (each from at r : ℕ) : Type 0 where
  pub run_in : from + each ≤ length c.positions
  pub run_few : from + each ≤ 256
  pub run : take (from + each - from) (drop from c.positions) ≡ branch_at c r
  pub data_in : at + c.k ≤ data_count c
  pub data-few : at + c.k ≤ 4096
  pub next : Passed c (from + each) (at + c.k) (r + 1)

module _ {c : Code} {from at r : ℕ} (l : SizeLimits c) (w : Passed c from at r) where
  pub next-branch : (each : ℕ) → each ≡ checks_each c → r < c.b → Branch c each from at r
  next-branch each i h =
      let a = run_inside c l r h in
      let b = branch_inside c r h in
      let e : (r + 1) * checks_each c ≡ r * checks_each c + checks_each c = omega arith in
      let f : (r + 1) * c.k ≡ r * c.k + c.k = omega arith in
      record {
        run_in = omega (arith, i, w.run_at, a);
        run_few = omega (arith, i, w.run_at, a, l.runs, mul-le-mul_right (checks_each c) l.b_high, l.J-high);
        run = ap (λ (n : ℕ). take (from + n - from) (drop from c.positions)) i ∙ run_part c r from w.run_at;
        data_in = omega (arith, w.data_at, b);
        data-few = omega (arith, w.data_at, b, l.data-high);
        next = record { within = omega arith; run_at = omega (arith, i, w.run_at, e); data_at = omega (arith, w.data_at, f) };
      }

  pub passed_all : c.b ≤ r → at ≡ data_count c
  passed_all h = w.data_at ∙ ap (λ (x : ℕ). x * c.k) (let e : r ≡ c.b = omega (arith, w.within) in e)

-- no two pairs of positions, the first of run r and the second of run s, have one difference d, but for the pairs of a position with itself
abbrev pub PairsDiffer : Code → Type 0
PairsDiffer c = (r s d : ℕ) → r < c.b → s < c.b → d < c.k → (d ≡ 0 → r ≢ s) → pair_count c.k (branch_at c r) (branch_at c s) d ≤ 1

module _ (c : Code) (l : TableLimits c) where
  pub branch_length : (r : ℕ) → r < c.b → length (branch_at c r) ≡ checks_each c
  unfolding branch_at
  branch_length r h =
      length-take (checks_each c) (drop (r * checks_each c) c.positions)
      ∙ omega (arith, length-drop (r * checks_each c) c.positions, l.sizes.runs, mul-le-mul_right (checks_each c) h)

  pub branch_low : (r : ℕ) → r < c.b → All (λ p. p < c.k) (branch_at c r)
  branch_low r h = (ascending_facts c.k (branch_at c r) (l.ascending r h)).0

  pub branch_apart : (r : ℕ) → r < c.b → Distinct (branch_at c r)
  branch_apart r h = (ascending_facts c.k (branch_at c r) (l.ascending r h)).1

  pub position_below : (r : ℕ) → r < c.b → (i : ℕ) → i < checks_each c → get_or (branch_at c r) i 0 < c.k
  position_below r h i g = (l.ascending r h).below i (rw (branch_length r h) g)

  -- the branch of a data symbol
  pub branch-of : (j : ℕ) → j < data_count c → j / c.k < c.b
  branch-of j h = (div-lt_iff_lt-mul l.sizes.k_low).1 h

  -- each data symbol has J checks
  pub checks_length : (j : ℕ) → j < data_count c → length (checks_of c j) ≡ checks_each c
  unfolding checks_of
  checks_length j h = length_checks_by c.k (branch_at c (j / c.k)) (j % c.k) ∙ branch_length (j / c.k) (branch-of j h)

  -- check i of the document is the sum over the data symbols that are in it
  pub branch_sum : (u : List ℕ) (i : ℕ) → i < c.k
      → sum_of_first c.b (λ r. check_sum_by c.k (branch_at c r) (branch_data c u r) i) ≡ check_sum (data_count c) (checks_of c) u i
  unfolding check_sum check_sum_by
  branch_sum u i h =
      sum_ext c.b (λ r. sum_over (branch_at c r) (λ p. get_or (branch_data c u r) (sub c.k i p) 0))
      (λ r. sum_of_first c.k (λ j. count i (checks_of c (r * c.k + j)) * get_or u (r * c.k + j) 0)) row
      ∙ sym (sum_rows c.b c.k (λ j. count i (checks_of c j) * get_or u j 0))
    where
      row : (r : ℕ) → r < c.b → sum_over (branch_at c r) (λ p. get_or (branch_data c u r) (sub c.k i p) 0)
          ≡ sum_of_first c.k (λ j. count i (checks_of c (r * c.k + j)) * get_or u (r * c.k + j) 0)
      row r hr =
          sum_over_ext (branch_at c r) (λ p. get_or (branch_data c u r) (sub c.k i p) 0) (λ p. get_or u (r * c.k + sub c.k i p) 0)
          (λ p. get_or-take c.k (drop (r * c.k) u) (sub c.k i p) 0 (sub_lt c.k l.sizes.k_low i p) ∙ get_or-drop (r * c.k) u (sub c.k i p) 0)
          ∙ sym (row_sum c.k l.sizes.k_low (branch_at c r) (branch_low r hr) (λ j. get_or u (r * c.k + j) 0) i h)
          ∙ sum_ext c.k (λ j. count i (checks_by c.k (branch_at c r) j) * get_or u (r * c.k + j) 0)
          (λ j. count i (checks_of c (r * c.k + j)) * get_or u (r * c.k + j) 0) (λ j hj. rw (checks_at c r j hj) refl)

  -- ---- self-orthogonality

  -- the checks that two data symbols share: the pairs of positions with their difference
  pub shared_pairs : (j i : ℕ) → j < data_count c → i < data_count c
      → shared c j i ≡ pair_count c.k (branch_at c (j / c.k)) (branch_at c (i / c.k)) (sub c.k (i % c.k) (j % c.k))
  unfolding shared checks_of
  shared_pairs j i hj hi =
      common_pairs c.k l.sizes.k_low (branch_at c (j / c.k)) (branch_at c (i / c.k))
      (branch_low (j / c.k) (branch-of j hj)) (branch_low (i / c.k) (branch-of i hi)) (j % c.k) (i % c.k) (mod-lt j l.sizes.k_low) (mod-lt i l.sizes.k_low)

  orthogonal_pairs : SelfOrthogonal c ↔ PairsDiffer c
  orthogonal_pairs = (to, from)
    where
      to : SelfOrthogonal c → PairsDiffer c
      to o r s d hr hs hd n =
          let hj : r * c.k + 0 < data_count c = digits_lt hr l.sizes.k_low in
          let hi : s * c.k + d < data_count c = digits_lt hs hd in
          let e : shared c (r * c.k + 0) (s * c.k + d) ≡ pair_count c.k (branch_at c r) (branch_at c s) d =
          shared_pairs (r * c.k + 0) (s * c.k + d) hj hi
          ∙ rw (
            digits_div r {m = c.k} l.sizes.k_low,
            digits_div s {m = c.k} hd,
            digits_mod r {m = c.k} l.sizes.k_low,
            digits_mod s {m = c.k} hd,
            sub_no_borrow c.k l.sizes.k_low d 0 hd (omega arith),
          )
          (ap (λ (x : ℕ). pair_count c.k (branch_at c r) (branch_at c s) x) (omega arith)) in
          subst (λ (x : ℕ). x ≤ 1) e
          (o (r * c.k + 0) (s * c.k + d) hj hi
          (λ z. n (sym (digits_mod s {m = c.k} hd) ∙ by_eq c.k z ∙ digits_mod r {m = c.k} l.sizes.k_low)
          (sym (digits_div r {m = c.k} l.sizes.k_low) ∙ ap (λ (x : ℕ). x / c.k) (sym z) ∙ digits_div s {m = c.k} hd)))

      from : PairsDiffer c → SelfOrthogonal c
      from f j i hj hi n = rw (shared_pairs j i hj hi)
          (f (j / c.k) (i / c.k) (sub c.k (i % c.k) (j % c.k)) (branch-of j hj) (branch-of i hi) (sub_lt c.k l.sizes.k_low (i % c.k) (j % c.k))
          (λ z e. n (sym (div-add-mod' i c.k) ∙ ap (λ (w : ℕ). w * c.k + i % c.k) (sym e)
          ∙ ap (λ (w : ℕ). j / c.k * c.k + w) (sub_zero_eq c.k l.sizes.k_low (i % c.k) (j % c.k) (mod-lt i l.sizes.k_low) (mod-lt j l.sizes.k_low) z)
          ∙ div-add-mod' j c.k)))

  -- how often each difference is listed
  listed : (v : ℕ) → v ≢ 0 → count v (differences c) ≡ sum_of_first c.b (λ r. pair_count c.k (branch_at c r) (branch_at c r) v)
  listed v n =
      count_join v c.b (λ r. differences_by c.k (branch_at c r) (branch_at c r))
      ∙ sum_ext c.b (λ r. count v (differences_by c.k (branch_at c r) (branch_at c r))) (λ r. pair_count c.k (branch_at c r) (branch_at c r) v)
      (λ r h. differences_count c.k l.sizes.k_low (branch_at c r) (branch_at c r) (branch_low r h) v n)

  zero_listed : count 0 (differences c) ≡ 0
  zero_listed =
      count_join 0 c.b (λ r. differences_by c.k (branch_at c r) (branch_at c r))
      ∙ sum_ext c.b (λ r. count 0 (differences_by c.k (branch_at c r) (branch_at c r))) (λ r. 0)
      (λ r h. differences_zero c.k l.sizes.k_low (branch_at c r) (branch_at c r) (branch_low r h) (branch_low r h))
      ∙ sum_zero c.b

  -- how many pairs of positions of one run, over all runs, have the difference v
  abbrev pub run_pairs : ℕ → ℕ
  run_pairs v = sum_of_first c.b (λ r. pair_count c.k (branch_at c r) (branch_at c r) v)

  far : (v : ℕ) → c.k ≤ v → run_pairs v ≡ 0
  far v h =
      sum_ext c.b (λ r. pair_count c.k (branch_at c r) (branch_at c r) v) (λ r. 0) (λ r hr. pairs_far c.k l.sizes.k_low (branch_at c r) (branch_at c r) v h)
      ∙ sum_zero c.b

  -- the differences are all different just where no difference but 0 belongs to two pairs
  pub different_once : (all_different (differences c) ≡ true) ↔ ((v : ℕ) → 0 < v → v < c.k → run_pairs v ≤ 1)
  different_once = (
    λ e v p h. subst (λ (x : ℕ). x ≤ 1) (listed v (omega arith)) (distinct_count (differences c) ((distinct_test (differences c)).0 (subst T (sym e) tt)) v),
    λ f. is_true (all_different (differences c)) ((distinct_test (differences c)).1 (count_distinct (differences c) (each f))),
  )
    where
      each : ((v : ℕ) → 0 < v → v < c.k → run_pairs v ≤ 1) → (v : ℕ) → count v (differences c) ≤ 1
      each f v = elim (ℕ_discrete v 0) as (λ o. count v (differences c) ≤ 1) [
        | yes e ↦ rw e (omega (arith, zero_listed))
        | no n ↦ elim (dec_lt v c.k) as (λ o. count v (differences c) ≤ 1)
            [ yes h ↦ rw (listed v n) (f v (omega arith) h) | no h ↦ omega (arith, listed v n, far v (omega arith)) ]
      ]

  pairs_once : PairsDiffer c ↔ ((v : ℕ) → 0 < v → v < c.k → run_pairs v ≤ 1)
  pairs_once = (to, from)
    where
      pairs : ℕ → ℕ → ℕ
      pairs v r = pair_count c.k (branch_at c r) (branch_at c r) v

      to : PairsDiffer c → (v : ℕ) → 0 < v → v < c.k → run_pairs v ≤ 1
      to f v p h = sum_one c.b (pairs v) (λ r hr. f r r v hr hr h (λ z. absurd (omega arith)))
          (λ r s hr hs d. elim (dec_le (pairs v r + pairs v s) 1) as (λ o. pairs v r + pairs v s ≤ 1) [
            | yes g ↦ g
            | no g ↦
                let a = f r r v hr hr h (λ z. absurd (omega arith)) in
                let b = f s s v hs hs h (λ z. absurd (omega arith)) in
                let x = across c.k l.sizes.k_low (branch_at c r) (branch_at c s) (branch_low r hr) (branch_low s hs) v (omega arith)
                (omega (arith, a, b)) (omega (arith, a, b)) in
                absurd (omega (arith, x.2, f r s x.0 hr hs x.1 (λ z. d)))
          ])

      from : ((v : ℕ) → 0 < v → v < c.k → run_pairs v ≤ 1) → PairsDiffer c
      from f r s d hr hs hd n =
          let one : (v : ℕ) → v ≢ 0 → sum_of_first c.b (pairs v) ≤ 1 =
          (λ v m. elim (dec_lt v c.k) as (λ o. run_pairs v ≤ 1) [ yes h ↦ f v (omega arith) h | no h ↦ omega (arith, far v (omega arith)) ]) in
          elim (ℕ_discrete r s) as (λ o. pair_count c.k (branch_at c r) (branch_at c s) d ≤ 1) [
            | yes p ↦ rw (sym p) (omega (arith, sum_term c.b (pairs d) r hr, one d (λ z. n z p)))
            | no m ↦ elim (dec_le (pair_count c.k (branch_at c r) (branch_at c s) d) 1) as (λ o. pair_count c.k (branch_at c r) (branch_at c s) d ≤ 1) [
              | yes g ↦ g
              | no g ↦
                  let x = inner c.k l.sizes.k_low (branch_at c r) (branch_at c s) (branch_low r hr) (branch_low s hs)
                  (branch_apart r hr) (branch_apart s hs) d (omega arith) in
                  absurd (omega (arith, x.2, x.3, sum_two c.b (pairs x.0) r s hr hs m, one x.0 x.1))
            ]
          ]

  -- the differences of positions say what SelfOrthogonal says
  pub orthogonal_differences : SelfOrthogonal c ↔ (all_different (differences c) ≡ true)
  orthogonal_differences = (λ o. different_once.1 (pairs_once.0 (orthogonal_pairs.0 o)), λ e. orthogonal_pairs.1 (pairs_once.1 (different_once.0 e)))
