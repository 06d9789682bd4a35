-- The runs of a table, taken one after the other: what is left of them beside the first position, and the sums of its rows.
use Rattle.std.specs.Prelude.{◌≡◌, ◌≢◌, ℕ, suc, ◌+◌, ◌-◌, ◌*◌, ◌<◌, ◌≤◌, length, take, drop}
use Rattle.std.proofs.Math.Path.{refl, ap}
use Rattle.std.proofs.Common.{sym, subst, ◌∙◌, add-suc, add-one, length-drop, take-add, drop_at, drop-cons, get_or-drop, length-take-le}
use mathlib.Core.List.{List}
use Rattle.std.proofs.Math.Nat.{zero-mul}
use native.Mathlib.Omega.{arith}
use Rattle.std.proofs.Math.ListN.{get_or}
use Rattle.model.specs.Symbols.{sub, same, Below, sum_over, sum_of_first}
use Rattle.model.specs.Code.{Code, data_count, checks_each, branch_at, branch_data, check_sum_by}
use Rattle.model.specs.Limits.{Ascending, TableLimits}
use Rattle.theory.specs.Branches.{branch_length, branch_position, position_below, run_part, run_inside, branch_inside, data_part}
use Rattle.theory.specs.Codes.{ByteCode}
use Rattle.theory.specs.Counting.{same_no, sum_off}
use Rattle.theory.specs.Parts.{below_part}
use Rattle.theory.specs.Steps.{SymbolsBelow}
use Rattle.codeword.specs.Sums.{added, added_none, added_more}

-- the positions of run r but for the first of run 0, whose row the sums start with
unfoldable pub rest_of : Code → ℕ → List ℕ
rest_of c r = drop (same r 0) (branch_at c r)

-- the sum of their rows over the first n branches
unfoldable pub rest_sum : Code → List ℕ → ℕ → ℕ → ℕ
rest_sum c u n i = sum_of_first n (λ r. check_sum_by c.k (rest_of c r) (branch_data c u r) i)

-- no branch, and one more
pub rest_none : (c : Code) (u : List ℕ) (n : ℕ) (s : List ℕ) → SymbolsBelow c.q n s → s ≡ added c.q (rest_sum c u 0) s
unfolding rest_sum sum_of_first
rest_none c u n s b = added_none c.q n s b

rest_turn : (c : Code) (u : List ℕ) (r : ℕ) (s : List ℕ)
    → added c.q (check_sum_by c.k (rest_of c r) (branch_data c u r)) (added c.q (rest_sum c u r) s) ≡ added c.q (rest_sum c u (r + 1)) s
unfolding rest_sum sum_of_first
rest_turn c u r s = rw (add-one r) (added_more c.q (rest_sum c u r) (check_sum_by c.k (rest_of c r) (branch_data c u r)) s)

-- a part of a run ascends as the run does
ascending_drop : (k : ℕ) (ps : List ℕ) (n : ℕ) → Ascending k ps → Ascending k (drop n ps)
ascending_drop k ps n a = record {
  below = (λ i h. rw (get_or-drop n ps i 0) (a.below (n + i) (omega (arith, length-drop n ps))));
  above = (λ i h. rw (get_or-drop n ps i 0, get_or-drop n ps (suc i) 0, add-suc n i) (a.above (n + i) (omega (arith, length-drop n ps))));
}

drop_take : (n m : ℕ) (l : List ℕ) → n ≤ m → n ≤ length l → drop n (take m l) ≡ take (m - n) (drop n l)
drop_take n m l h w =
    ap (λ (x : ℕ). drop n (take x l)) (let z : m ≡ n + (m - n) = omega arith in z)
    ∙ ap (drop n) (take-add n (m - n) l) ∙ drop_at (take n l) (take (m - n) (drop n l)) n (length-take-le n l w)

-- where the loop over the branches after the first stands: branch r of the data starts at `at`, and its run at `from`
pub record Stands (c : Code) (r at from : ℕ) : Type 0 where
  pub later : 0 < r
  pub within : r ≤ c.b
  pub data_at : at ≡ r * c.k
  pub run_at : from ≡ r * checks_each c

-- both parts are within the table and the data
pub record Inside (c : Code) (at from each : ℕ) : Type 0 where
  pub run_in : from + each ≤ length c.positions
  pub data_in : at + c.k ≤ data_count c

-- what is lent for branch r: the rest of its run, and its data
pub record Lent (c : Code) (u : List ℕ) (r : ℕ) (run part : List ℕ) : Type 0 where
  pub here : r < c.b
  pub run_is : run ≡ rest_of c r
  pub data_is : part ≡ branch_data c u r

module _ (c : Code) (l : TableLimits c) where
  -- the first position, which is that of run 0; and branch 0 of the data
  pub some_position : 0 < length c.positions
  some_position = omega (arith, l.sizes.J-low, run_inside c l.sizes 0 l.sizes.b_low)

  first_position : get_or (branch_at c 0) 0 0 ≡ get_or c.positions 0 0
  first_position = branch_position c 0 0 l.sizes.J-low ∙ ap (λ (x : ℕ). get_or c.positions x 0) (let z : 0 * checks_each c + 0 ≡ 0 = omega arith in z)

  pub first_inside : get_or c.positions 0 0 < c.k
  first_inside = omega (arith, position_below c l 0 l.sizes.b_low 0 l.sizes.J-low, first_position)

  pub one-branch : c.k ≤ data_count c
  one-branch = omega (arith, branch_inside c 0 l.sizes.b_low)

  module _ (each : ℕ) (e : each ≡ checks_each c) where
    -- branch 0
    pub run_length : (1 ≤ each) × (each ≤ length c.positions)
    run_length = (omega (arith, e, l.sizes.J-low), omega (arith, e, run_inside c l.sizes 0 l.sizes.b_low))

    pub first_lent : (u : List ℕ) → Lent c u 0 (take (each - 1) (drop 1 c.positions)) (take c.k u)
    unfolding rest_of same branch_at
    first_lent u = record {
      here = l.sizes.b_low;
      run_is = rw (e, zero-mul (checks_each c)) (sym (drop_take 1 (checks_each c) c.positions l.sizes.J-low some_position));
      data_is = rw (zero-mul c.k) refl;
    }

    -- the branches after it, one after the other
    pub stands_first : Stands c 1 c.k each
    stands_first = record { later = omega arith; within = l.sizes.b_low; data_at = omega arith; run_at = omega (arith, e) }

    module _ (r at from : ℕ) (h : r < c.b) (s : Stands c r at from) where
      pub stands-next : Stands c (r + 1) (at + c.k) (from + each)
      stands-next = record { later = omega arith; within = omega arith; data_at = omega (arith, s.data_at); run_at = omega (arith, s.run_at, e) }

      pub stands-inside : Inside c at from each
      stands-inside = record {
        run_in = omega (arith, e, s.run_at, run_inside c l.sizes r h);
        data_in = omega (arith, s.data_at, branch_inside c r h);
      }

      pub next-lent : (u : List ℕ) → Lent c u r (take (from + each - from) (drop from c.positions)) (take (at + c.k - at) (drop at u))
      unfolding rest_of
      next-lent u = record {
        here = h;
        run_is = rw (e, same_no r 0 (λ z. absurd (omega (arith, s.later)))) (run_part c r from s.run_at);
        data_is = data_part c u r at s.data_at;
      }

  -- all of a run's rows, by what is left of them
  rest_other : (u : List ℕ) (i r : ℕ) → r ≢ 0 → check_sum_by c.k (rest_of c r) (branch_data c u r) i ≡ check_sum_by c.k (branch_at c r) (branch_data c u r) i
  unfolding rest_of
  rest_other u i r n = rw (same_no r 0 n) refl

  rest_first : (u : List ℕ) (i : ℕ) → check_sum_by c.k (branch_at c 0) (branch_data c u 0) i
      ≡ get_or (take c.k u) (sub c.k i (get_or c.positions 0 0)) 0 + check_sum_by c.k (rest_of c 0) (branch_data c u 0) i
  unfolding rest_of same check_sum_by sum_over
  rest_first u i =
      ap (λ (ps : List ℕ). check_sum_by c.k ps (branch_data c u 0) i) (drop-cons (branch_at c 0) 0 0 (rw (branch_length c l 0 l.sizes.b_low) l.sizes.J-low))
      ∙ ap (λ (p : ℕ). get_or (branch_data c u 0) (sub c.k i p) 0 + check_sum_by c.k (drop 1 (branch_at c 0)) (branch_data c u 0) i) first_position
      ∙ ap (λ (x : ℕ). get_or (take c.k (drop x u)) (sub c.k i (get_or c.positions 0 0)) 0 + check_sum_by c.k (drop 1 (branch_at c 0)) (branch_data c u 0) i)
      (zero-mul c.k)

  -- the row of the first position and what is left of all runs: all rows
  pub all_rows : (u : List ℕ) (i : ℕ) → get_or (take c.k u) (sub c.k i (get_or c.positions 0 0)) 0 + rest_sum c u c.b i
      ≡ sum_of_first c.b (λ r. check_sum_by c.k (branch_at c r) (branch_data c u r) i)
  unfolding rest_sum
  all_rows u i = omega (
    arith,
    sum_off c.b (λ r. check_sum_by c.k (rest_of c r) (branch_data c u r) i) (λ r. check_sum_by c.k (branch_at c r) (branch_data c u r) i) 0 l.sizes.b_low
        (λ r h n. rest_other u i r n),
    rest_first u i,
  )

-- what the rows of branch r are added to, and what that makes
module _ (c : Code) (l : TableLimits c) (u : List ℕ) (whole : length u ≡ data_count c) (r : ℕ) (run part : List ℕ) (t : Lent c u r run part) where
  lent_length : length part ≡ c.k
  lent_length =
      ap length t.data_is
      ∙ length-take-le c.k (drop (r * c.k) u) (omega (arith, length-drop (r * c.k) u, branch_inside c r t.here, whole))

  pub lent_rows : (s : List ℕ) → SymbolsBelow c.q c.k s → Ascending (length part) run × SymbolsBelow c.q (length part) s
  unfolding rest_of
  lent_rows s h = (rw (lent_length, t.run_is) (ascending_drop c.k (branch_at c r) (same r 0) (l.ascending r t.here)), rw lent_length h)

  pub rest_added : (s₀ s : List ℕ) → s ≡ added c.q (rest_sum c u r) s₀ → added c.q (check_sum_by (length part) run part) s ≡ added c.q (rest_sum c u (r + 1)) s₀
  rest_added s₀ s e = rw (lent_length, t.run_is, t.data_is, e) (rest_turn c u r s₀)

-- what adding them asks, where symbols are bytes
pub lent_asks : (c : Code) (b : ByteCode c) (u : List ℕ) (w : SymbolsBelow c.q (data_count c) u) (r : ℕ) (run part : List ℕ) (t : Lent c u r run part) (s : List ℕ) → SymbolsBelow c.q c.k s
    → (2 ≤ c.q) × (c.q ≤ 256) × Ascending (length part) run × Below c.q part × SymbolsBelow c.q (length part) s
lent_asks c b u w r run part t s h =
    let n = lent_rows c b.table u w.len r run part t s h in
    (b.q_low, b.q_high, n.0, subst (Below c.q) (sym t.data_is) (below_part c.q (omega (arith, b.q_low)) (r * c.k) c.k u w.low), n.1)
