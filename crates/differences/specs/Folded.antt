-- The folded differences of positions: of two opposite differences d and k − d the smaller, once for each pair of positions of a run.
-- The differences of all runs are all different just where, over all runs together, no folded one stands twice and none is half of k.
use Rattle.std.specs.Prelude.{◌≡◌, ◌↔◌, Bool, true, false, ℕ, zero, suc, ◌+◌, ◌-◌, ◌/◌, ◌≤◌, ◌<◌, min, length, get_or, set, take, drop}
use Rattle.std.proofs.Math.Path.{refl, ap}
use Rattle.std.proofs.Common.{◌∙◌, add-one, length-drop, drop_of_length-le, take_all, get_or-set_same, get_or-set_other}
use mathlib.Core.List.{List, [], ◌∷◌, ◌++◌}
use Rattle.std.proofs.Math.Decide.{ℕ_discrete, dec_le}
use native.Mathlib.Omega.{arith}
use Rattle.std.proofs.Math.Seq.{drop-cons}
use Rattle.model.specs.Calls.{positions_fit}
use Rattle.model.specs.Code.{Code, branch_at, differences, all_different}
use Rattle.model.specs.Limits.{TableLimits}
use Rattle.model.specs.Symbols.{choose, sub, same, count, sum_over, join_below}
use Rattle.theory.specs.Branches.{run_pairs, different_once}
use Rattle.theory.specs.Circulant.{pair_count, same_iff}
use Rattle.theory.specs.Counting.{same_yes, same_no, same_le, sum_over_add, sum_ext, sum_add, All, all_at}
use Rattle.theory.specs.Modulo.{sub_self, sub_no_borrow, sub_borrow}
use Rattle.theory.specs.Tables.{count_append, count_join, fit_cons, fit_test}
use Rattle.differences.specs.Marks.{marks_of, mark, mark_append, mark_none, fresh_once, same_truth}
use Rattle.differences.specs.Positions.{fit_above}

-- of a difference d and its opposite the smaller
abbrev pub fold : ℕ → ℕ → ℕ
fold k d = min d (k - d)

-- the folded differences of later positions from b
unfoldable pub folded_from : ℕ → ℕ → List ℕ → List ℕ
folded_from k b [] = []
folded_from k b (a ∷ later) = fold k (a - b) ∷ folded_from k b later

-- and of all pairs of positions, each from the earlier of the two
unfoldable pub folded_by : ℕ → List ℕ → List ℕ
folded_by k [] = []
folded_by k (b ∷ later) = folded_from k b later ++ folded_by k later

-- ---- how often a difference stands

-- v is d or its opposite as often as v or its opposite is the folded value
fold_same : (k v d : ℕ) → v ≤ k → d ≤ k → same v d + same v (k - d) ≡ same v (fold k d) + same (k - v) (fold k d)
fold_same k v d hv hd = elim (dec_le d (k - d)) as (λ o. same v d + same v (k - d) ≡ same v (fold k d) + same (k - v) (fold k d)) [
  | yes l ↦ omega (arith, ap (λ (x : ℕ). same v x + same (k - v) x) (low l), same_iff v (k - d) (k - v) d (λ e. omega arith) (λ e. omega arith))
  | no n ↦ omega (arith, ap (λ (x : ℕ). same v x + same (k - v) x) (high n), same_iff v d (k - v) (k - d) (λ e. omega arith) (λ e. omega arith))
]
  where
    low : d ≤ k - d → fold k d ≡ d
    low l = omega arith

    high : (d ≤ k - d → ⊥) → fold k d ≡ k - d
    high n = omega arith

module _ (k v : ℕ) (pos : 0 < v) (h : v < k) where
  row_count : (b : ℕ) (later : List ℕ) → All (λ a. (suc b ≤ a) × (a < k)) later
      → sum_over later (λ a. same v (sub k b a)) + sum_over later (λ a. same v (sub k a b)) ≡ count v (folded_from k b later) + count (k - v) (folded_from k b later)
  unfolding folded_from sum_over count
  row_count b [] u = refl
  row_count b (a ∷ later) u =
      let back : sub k b a ≡ k - (a - b) = omega (arith, u.0, sub_borrow k (omega arith) b a u.0.1 u.0.0) in
      let on : sub k a b ≡ a - b = sub_no_borrow k (omega arith) a b u.0.1 (omega (arith, u.0)) in
      omega (
        arith,
        row_count b later u.1,
        fold_same k v (a - b) (omega arith) (omega (arith, u.0)),
        ap (λ (x : ℕ). same v x) back,
        ap (λ (x : ℕ). same v x) on,
      )

  -- over all ordered pairs: as often as it and its opposite stand among the folded ones
  pub pair-count : (least : ℕ) (ps : List ℕ) → positions_fit k least ps ≡ true → pair_count k ps ps v ≡ count v (folded_by k ps) + count (k - v) (folded_by k ps)
  unfolding pair_count folded_by sum_over count
  pair-count least [] t = refl
  pair-count least (b ∷ later) t =
      let f = fit_cons k least b later t in
      omega (
        arith,
        pair-count (suc b) later f.2,
        row_count b later (fit_above k (suc b) (suc b) (omega arith) later f.2),
        count_append v (folded_from k b later) (folded_by k later),
        count_append (k - v) (folded_from k b later) (folded_by k later),
        same_no v (sub k b b) (λ e. omega (arith, sub_self k (omega arith) b f.1)),
        sum_over_add later (λ a. same v (sub k a b)) (λ a. sum_over later (λ c. same v (sub k a c))),
      )

-- ---- the folded values are above 0 and at most half of k

abbrev Folded : ℕ → ℕ → Type 0
Folded k w = (0 < w) × (w + w ≤ k)

from_folded : (k b : ℕ) (later : List ℕ) → All (λ a. (suc b ≤ a) × (a < k)) later → All (Folded k) (folded_from k b later)
unfolding folded_from
from_folded k b [] u = tt
from_folded k b (a ∷ later) u = ((omega (arith, u.0), omega (arith, u.0)), from_folded k b later u.1)

all_append : (P : ℕ → Type 0) (xs ys : List ℕ) → All P xs → All P ys → All P (xs ++ ys)
all_append P [] ys a b = b
all_append P (x ∷ xs) ys a b = (a.0, all_append P xs ys a.1 b)

by_folded : (k least : ℕ) (ps : List ℕ) → positions_fit k least ps ≡ true → All (Folded k) (folded_by k ps)
unfolding folded_by
by_folded k least [] t = tt
by_folded k least (b ∷ later) t =
    let f = fit_cons k least b later t in
    all_append (Folded k) (folded_from k b later) (folded_by k later) (from_folded k b later (fit_above k (suc b) (suc b) (omega arith) later f.2))
    (by_folded k (suc b) later f.2)

all_join : (P : ℕ → Type 0) (n : ℕ) (f : ℕ → List ℕ) → ((r : ℕ) → r < n → All P (f r)) → All P (join_below n f)
unfolding join_below
all_join P zero f a = tt
all_join P (suc n) f a = all_append P (join_below n f) (f n) (all_join P n f (λ r h. a r (omega arith))) (a n (omega arith))

all_weaken : (P Q : ℕ → Type 0) → ((x : ℕ) → P x → Q x) → (xs : List ℕ) → All P xs → All Q xs
all_weaken P Q f [] a = tt
all_weaken P Q f (x ∷ xs) a = (f x a.0, all_weaken P Q f xs a.1)

-- ---- when the differences are all different

-- the folded differences of run r
abbrev pub run_folded : Code → ℕ → List ℕ
run_folded c r = folded_by c.k (branch_at c r)

-- and of all runs together
abbrev pub all_folded : Code → List ℕ
all_folded c = join_below c.b (run_folded c)

-- no folded value stands twice, and half of k not at all
abbrev FoldedOnce : Code → Type 0
FoldedOnce c = (w : ℕ) → same (w + w) c.k + count w (all_folded c) ≤ 1

module _ (c : Code) (l : TableLimits c) where
  pub run_fits : (r : ℕ) → r < c.b → positions_fit c.k 0 (branch_at c r) ≡ true
  run_fits r h = (fit_test c.k (branch_at c r)).1 (l.ascending r h)

  each_folded : All (Folded c.k) (all_folded c)
  each_folded = all_join (Folded c.k) c.b (run_folded c) (λ r h. by_folded c.k 0 (branch_at c r) (run_fits r h))

  not_folded : (w : ℕ) → (Folded c.k w → ⊥) → count w (all_folded c) ≡ 0
  not_folded w n = elim (dec_le (count w (all_folded c)) 0) as (λ o. count w (all_folded c) ≡ 0)
      [ yes z ↦ omega arith | no m ↦ absurd (n (all_at (Folded c.k) (all_folded c) each_folded w (omega arith))) ]

  half_count : (w : ℕ) → w + w ≡ c.k → count (c.k - w) (all_folded c) ≡ count w (all_folded c)
  half_count w e = ap (λ (x : ℕ). count x (all_folded c)) (omega arith)

  -- the pairs of one run, over all runs
  runs_count : (v : ℕ) → 0 < v → v < c.k → run_pairs c l v ≡ count v (all_folded c) + count (c.k - v) (all_folded c)
  runs_count v p h =
      sum_ext c.b (λ r. pair_count c.k (branch_at c r) (branch_at c r) v) (λ r. count v (run_folded c r) + count (c.k - v) (run_folded c r))
      (λ r hr. pair-count c.k v p h 0 (branch_at c r) (run_fits r hr))
      ∙ omega (
        arith,
        sum_add c.b (λ r. count v (run_folded c r)) (λ r. count (c.k - v) (run_folded c r)),
        count_join v c.b (run_folded c),
        count_join (c.k - v) c.b (run_folded c),
      )

  once_folded : ((v : ℕ) → 0 < v → v < c.k → run_pairs c l v ≤ 1) → FoldedOnce c
  once_folded f w = elim (dec_le (count w (all_folded c)) 0) as (λ o. same (w + w) c.k + count w (all_folded c) ≤ 1) [
    | yes z ↦ omega (arith, same_le (w + w) c.k)
    | no n ↦
        let r = all_at (Folded c.k) (all_folded c) each_folded w (omega arith) in
        let h : w < c.k = omega (arith, r) in
        let e = runs_count w r.0 h in
        let o = f w r.0 h in
        elim (ℕ_discrete (w + w) c.k) as (λ o. same (w + w) c.k + count w (all_folded c) ≤ 1)
        [ yes m ↦ omega (arith, same_le (w + w) c.k, half_count w m) | no m ↦ omega (arith, same_no (w + w) c.k m) ]
  ]

  folded_once : FoldedOnce c → (v : ℕ) → 0 < v → v < c.k → run_pairs c l v ≤ 1
  folded_once f v p h =
      let e = runs_count v p h in
      elim (ℕ_discrete (v + v) c.k) as (λ o. run_pairs c l v ≤ 1) [
        | yes m ↦ omega (arith, f v, same_yes (v + v) c.k m, half_count v m)
        | no n ↦ elim (dec_le (v + v) c.k) as (λ o. run_pairs c l v ≤ 1) [
          | yes g ↦ omega (arith, f v, not_folded (c.k - v) (λ r. omega (arith, r)))
          | no g ↦ omega (arith, f (c.k - v), not_folded v (λ r. omega (arith, r)))
        ]
      ]

  different_folded : (all_different (differences c) ≡ true) ↔ FoldedOnce c
  different_folded = (λ e. once_folded ((different_once c l).0 e), λ f. (different_once c l).1 (folded_once f))

  -- what marking the folded differences tells, where the flag of half of k alone stands at first
  pub marks_tell : (seen : List ℕ) → c.k < length seen + length seen → ((w : ℕ) → get_or seen w 0 ≡ same (w + w) c.k)
      → (mark (all_folded c) seen).fresh ≡ all_different (differences c)
  marks_tell seen fits z =
      let inside = all_weaken (Folded c.k) (λ w. w < length seen) (λ w g. omega (arith, g)) (all_folded c) each_folded in
      let f = fresh_once (all_folded c) seen inside (λ w. omega (arith, z w, same_le (w + w) c.k)) in
      same_truth (mark (all_folded c) seen).fresh (all_different (differences c))
      (λ a. different_folded.1 (λ w. omega (arith, z w, f.0 a w)))
      (λ a. f.1 (λ w. omega (arith, z w, different_folded.0 a w)))

-- ---- the marking, the loops' way

-- the flag of half of k, set beforehand where k is even
pub half_flag : (k : ℕ) (seen : List ℕ) (n : ℕ) → n ≡ same (k / 2 + k / 2) k → k < length seen + length seen → ((w : ℕ) → get_or seen w 0 ≡ 0) → (w : ℕ)
    → get_or (set seen (k / 2) n) w 0 ≡ same (w + w) k
half_flag k seen n s fits z w = elim (ℕ_discrete w (k / 2)) as (λ o. get_or (set seen (k / 2) n) w 0 ≡ same (w + w) k) [
  | yes e ↦ rw e (get_or-set_same seen (k / 2) n 0 (omega arith) ∙ s)
  | no d ↦ omega (arith, get_or-set_other seen (k / 2) w n 0 d, z w, same_no (w + w) k (λ e. omega arith))
]

pub from_turn : (k b : ℕ) (later : List ℕ) (l : ℕ) → l < length later → folded_from k b (drop l later) ≡ fold k (get_or later l 0 - b) ∷ folded_from k b (drop (l + 1) later)
unfolding folded_from
from_turn k b later l h = rw (add-one, drop-cons later l 0)

pub from_end : (k b : ℕ) (later : List ℕ) (l : ℕ) (seen : List ℕ) → length later ≤ l → mark (folded_from k b (drop l later)) seen ≡ marks_of true seen
unfolding folded_from
from_end k b later l seen h = rw (drop_of_length-le later h) (mark_none seen)

-- the part of a list from j on
pub part_rest : (s : List ℕ) (j : ℕ) → take (length s - j) (drop j s) ≡ drop j s
part_rest s j = take_all (length s - j) (drop j s) (rw length-drop (omega arith))

-- the marking of all pairs, by those from one position
module _ (k : ℕ) (ps : List ℕ) (i : ℕ) (seen : List ℕ) where
  by_turn : i < length ps → folded_by k (drop i ps) ≡ folded_from k (get_or ps i 0) (drop (i + 1) ps) ++ folded_by k (drop (i + 1) ps)
  unfolding folded_by
  by_turn h = rw (add-one, drop-cons ps i 0)

  by_parts : i < length ps → (r : Bool) (flags : List ℕ) → marks_of r flags ≡ mark (folded_from k (get_or ps i 0) (drop (i + 1) ps)) seen
      → mark (folded_by k (drop i ps)) seen ≡ choose r (mark (folded_by k (drop (i + 1) ps)) flags) (marks_of r flags)
  by_parts h r flags e = rw (by_turn h, mark_append (folded_from k (get_or ps i 0) (drop (i + 1) ps)) (folded_by k (drop (i + 1) ps)) seen, ← e)

  -- all of these were new, and one was not
  pub marks_go : i < length ps → (r : Bool) (flags : List ℕ) → marks_of r flags ≡ mark (folded_from k (get_or ps i 0) (drop (i + 1) ps)) seen → r ≡ true
      → mark (folded_by k (drop i ps)) seen ≡ mark (folded_by k (drop (i + 1) ps)) flags
  marks_go h r flags e t = by_parts h r flags e ∙ rw t

  pub marks_stop : i < length ps → (r : Bool) (flags : List ℕ) → marks_of r flags ≡ mark (folded_from k (get_or ps i 0) (drop (i + 1) ps)) seen → r ≡ false
      → mark (folded_by k (drop i ps)) seen ≡ marks_of false flags
  marks_stop h r flags e t = by_parts h r flags e ∙ rw t

  pub by_end : length ps ≤ i → mark (folded_by k (drop i ps)) seen ≡ marks_of true seen
  unfolding folded_by
  by_end h = rw (drop_of_length-le ps h) (mark_none seen)
