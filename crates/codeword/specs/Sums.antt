-- Sums of the checks to which numbers are added, and to which the rows of a run are.
use Rattle.std.specs.Prelude.{◌≡◌, refl, List, length, drop}
use Rattle.std.proofs.Math.Path.{ap, sym}
use Rattle.std.proofs.Common.{subst, ◌∙◌, mod-lt, mod-eq_of_lt, add-one, arith, drop_of_length-le}
use Prim.Native.Nat.{ℕ, zero, suc, ◌+◌, ◌%◌, ◌<◌, ◌≤◌}
use Rattle.std.proofs.Math.Nat.{mod-add-mod}
use Rattle.std.proofs.Math.ListN.{get_or}
use Rattle.std.proofs.Math.Seq.{drop-cons}
use Rattle.model.specs.Symbols.{add, sub, sum_over, tabulate, add_each, sub_each}
use Rattle.model.specs.Code.{check_sum_by}
use Rattle.theory.specs.Distance.{length_tabulate, get_d_tabulate, tabulate_ext, below_tabulate}
use Rattle.theory.specs.Modulo.{by_eq, sub_lt}
use Rattle.theory.specs.Steps.{SymbolsBelow}
use Rattle.theory.specs.Written.{tabulate_get_d}
use Rattle.rows.specs.Rows.{row, row_length, row_at, each_length, less_length}

-- to sum i of s, f i is added
unfoldable pub added : ℕ → (ℕ → ℕ) → List ℕ → List ℕ
added q f s = tabulate (length s) (λ i. add q (get_or s i 0) (f i))

added_ext : (q : ℕ) (f g : ℕ → ℕ) (s : List ℕ) → ((i : ℕ) → i < length s → f i ≡ g i) → added q f s ≡ added q g s
unfolding added
added_ext q f g s h = tabulate_ext (length s) _ _ (λ i l. ap (add q (get_or s i 0)) (h i l))

-- twice, and 0
pub added_more : (q : ℕ) (f g : ℕ → ℕ) (s : List ℕ) → added q g (added q f s) ≡ added q (λ i. f i + g i) s
unfolding added add
added_more q f g s =
    let once : ℕ → ℕ = (λ i. (get_or s i 0 + f i) % q) in
    ap (λ (n : ℕ). tabulate n (λ i. (get_or (tabulate (length s) once) i 0 + g i) % q)) (length_tabulate (length s) once)
    ∙ tabulate_ext (length s) _ _ (λ i l.
    ap (λ (x : ℕ). (x + g i) % q) (get_d_tabulate (length s) once i l)
    ∙ mod-add-mod (get_or s i 0 + f i) q (g i)
    ∙ by_eq q {x = get_or s i 0 + f i + g i} {y = get_or s i 0 + (f i + g i)} (omega arith))

pub added_none : (q n : ℕ) (s : List ℕ) → SymbolsBelow q n s → s ≡ added q (λ i. 0) s
unfolding added add
added_none q n s b =
    sym (tabulate_get_d s)
    ∙ tabulate_ext (length s) _ _ (λ i l. sym (mod-eq_of_lt (b.low i)) ∙ by_eq q {x = get_or s i 0} {y = get_or s i 0 + 0} (omega arith))

pub added_below : (q : ℕ) → zero < q → (n : ℕ) (f : ℕ → ℕ) (s₀ s : List ℕ) → length s₀ ≡ n → s ≡ added q f s₀ → SymbolsBelow q n s
unfolding added add
added_below q pos n f s₀ s l e = subst (SymbolsBelow q n) (sym e)
    (record { len = length_tabulate (length s₀) _ ∙ l; low = below_tabulate q pos (length s₀) _ (λ i. mod-lt (get_or s₀ i 0 + f i) pos) })

-- ---- the rows of a run

each_added : (q : ℕ) (s ys : List ℕ) → add_each q s ys ≡ added q (λ i. get_or ys i 0) s
unfolding add_each added
each_added q s ys = refl

-- a row, a row less another list, and sums with a row added are symbols
module _ (q : ℕ) (pos : zero < q) (n : ℕ) where
  pub row_below : (p : ℕ) (u : List ℕ) → SymbolsBelow q n u → SymbolsBelow q n (row p u)
  unfolding row
  row_below p u b = record { len = row_length p u ∙ b.len; low = below_tabulate q pos (length u) _ (λ i. b.low (sub (length u) i p)) }

  pub less_below : (s ys : List ℕ) → length s ≡ n → SymbolsBelow q n (sub_each q s ys)
  unfolding sub_each
  less_below s ys l = record { len = less_length q s ys ∙ l; low = below_tabulate q pos (length s) _ (λ i. sub_lt q pos (get_or s i 0) (get_or ys i 0)) }

  pub each_below : (s ys : List ℕ) → length s ≡ n → SymbolsBelow q n (add_each q s ys)
  each_below s ys l = added_below q pos n (λ i. get_or ys i 0) s (add_each q s ys) l (each_added q s ys)

module _ (q : ℕ) (ps u : List ℕ) where
  -- one position after n, two, and none
  pub rows_turn : (s : List ℕ) (n : ℕ) → length s ≡ length u → n < length ps
      → added q (check_sum_by (length u) (drop n ps) u) s ≡ added q (check_sum_by (length u) (drop (n + 1) ps) u) (add_each q s (row (get_or ps n 0) u))
  unfolding check_sum_by sum_over
  rows_turn s n e h =
      let p : ℕ = get_or ps n 0 in
      let left : ℕ → ℕ = (λ i. check_sum_by (length u) (drop (suc n) ps) u i) in
      rw (add-one n, drop-cons ps n 0 h, each_added q s (row p u))
      (added_ext q _ (λ i. get_or (row p u) i 0 + left i) s (λ i l. ap (λ (x : ℕ). x + left i) (sym (row_at p u i (omega arith))))
      ∙ sym (added_more q (λ i. get_or (row p u) i 0) left s))

  pub rows_two : (s : List ℕ) (n : ℕ) → length s ≡ length u → n + 1 < length ps
      → added q (check_sum_by (length u) (drop n ps) u) s
      ≡ added q (check_sum_by (length u) (drop (n + 2) ps) u) (add_each q (add_each q s (row (get_or ps n 0) u)) (row (get_or ps (n + 1) 0) u))
  rows_two s n e h =
      let t : List ℕ = add_each q s (row (get_or ps n 0) u) in
      rows_turn s n e (omega arith) ∙ rows_turn t (n + 1) (each_length q s (row (get_or ps n 0) u) ∙ e) h
      ∙ ap (λ (m : ℕ). added q (check_sum_by (length u) (drop m ps) u) (add_each q t (row (get_or ps (n + 1) 0) u))) (let z : n + 1 + 1 ≡ n + 2 = omega arith in z)

  pub rows_end : (s : List ℕ) (n : ℕ) → SymbolsBelow q (length u) s → length ps ≤ n → s ≡ added q (check_sum_by (length u) (drop n ps) u) s
  unfolding check_sum_by sum_over
  rows_end s n b h = rw (drop_of_length-le ps h) (added_none q (length u) s b)
