-- Sums modulo q: one sum by its two cases, it stays below q or q is taken off once; two lists added in one run.
use Rattle.std.specs.Prelude.{◌≡◌, ℕ, ◌+◌, ◌-◌, ◌%◌, ◌<◌, ◌≤◌, List, length, slice_index}
use Rattle.std.proofs.Common.{◌∙◌, sym, ap, mod-lt, mod-eq_of_lt, arith}
use Rattle.std.proofs.Math.Nat.{add-mod_right, add-mod-mod}
use Rattle.std.proofs.Math.Decide.{dec_le}
use Rattle.model.specs.Symbols.{add, tabulate, add_each}
use Rattle.theory.specs.Distance.{length_tabulate, get_d_tabulate, tabulate_ext}
use Rattle.theory.specs.Modulo.{by_eq, cong_cancel}

pub add_lt : (q a b : ℕ) → 0 < q → add q a b < q
unfolding add
add_lt q a b pos = mod-lt (a + b) pos

add_below : (q a b : ℕ) → a + b < q → add q a b ≡ a + b
unfolding add
add_below q a b h = mod-eq_of_lt h

add-above : (q a b : ℕ) → a < q → b < q → q ≤ a + b → add q a b ≡ a + b - q
unfolding add
add-above q a b ha hb h = by_eq q {x = a + b} {y = a + b - q + q} (omega arith) ∙ add-mod_right (a + b - q) q ∙ mod-eq_of_lt (omega arith)

-- the sum as numbers of w values wrap: s is the wrapped sum, c what it has too much, and r with c added wraps to s
pub wrapped_sum : (w top a b r c s : ℕ) → top < w → a ≤ top → b ≤ top → r < w → s ≡ (a + b) % w → (r + c) % w ≡ s
    → (a ≤ top - b → c ≡ 0) → (top - b < a → c ≡ (top + 1) % w) → r ≡ add (top + 1) a b
wrapped_sum w top a b r c s ht ha hb hr e f yes-c no-c = elim (dec_le a (top - b)) as (λ o. r ≡ add (top + 1) a b) [
  | yes h ↦
      let z : c ≡ 0 = yes-c h in
      sym (mod-eq_of_lt hr) ∙ by_eq w {x = r} {y = r + c} (omega arith) ∙ f ∙ e ∙ mod-eq_of_lt (omega arith) ∙ sym (add_below (top + 1) a b (omega arith))
  | no n ↦
      let m : ℕ = a + b - (top + 1) in
      let z : c ≡ (top + 1) % w = no-c (omega arith) in
      let l : c < w = rw z (mod-lt (top + 1) (omega arith)) in
      sym (mod-eq_of_lt hr)
      ∙ cong_cancel w r m c (omega arith)
      (f ∙ e ∙ by_eq w {x = a + b} {y = m + (top + 1)} (omega arith) ∙ sym (add-mod-mod m (top + 1) w) ∙ ap (λ (x : ℕ). (m + x) % w) (sym z))
      ∙ mod-eq_of_lt (omega arith) ∙ sym (add-above (top + 1) a b (omega arith) (omega arith) (omega arith))
]

-- two lists added in one run are the one added and then the other
pub add_twice : (q : ℕ) (acc xs ys : List ℕ)
    → tabulate (length acc) (λ i. add q (add q (slice_index acc i) (slice_index xs i)) (slice_index ys i)) ≡ add_each q (add_each q acc xs) ys
unfolding add_each
add_twice q acc xs ys =
    let f : ℕ → ℕ = λ i. add q (slice_index acc i) (slice_index xs i) in
    sym (ap (λ (n : ℕ). tabulate n (λ i. add q (slice_index (tabulate (length acc) f) i) (slice_index ys i))) (length_tabulate (length acc) f)
    ∙ tabulate_ext (length acc) _ _ (λ i l. ap (λ (x : ℕ). add q x (slice_index ys i)) (get_d_tabulate (length acc) f i l)))
