-- The zeros of a list turned by p places, added to another in two straight runs: the data symbols from k − p on, then those before.
use Rattle.std.specs.Prelude.{◌≡◌, List, ◌++◌, ℕ, ◌+◌, ◌-◌, ◌%◌, ◌<◌, length, get_or, take, drop}
use Rattle.std.proofs.Common.{ap, ◌∙◌, mod-eq_of_lt, arith, length-take, length-drop, get_or-take, get_or-drop, length-take-le}
use Rattle.std.proofs.Math.Nat.{add-mod_right}
use borrow.Rule.Slice.PartMut.{put_mid}
use Rattle.model.specs.Symbols.{same, tabulate}
use Rattle.theory.specs.Distance.{tabulate_ext}
use Rattle.theory.specs.Parts.{lead, both}
use Rattle.theory.specs.Modulo.{by_eq}

-- one more wherever ys is 0
unfoldable pub add_zeros : List ℕ → List ℕ → List ℕ
add_zeros xs ys = tabulate (length xs) (λ i. get_or xs i 0 + same 0 (get_or ys i 0))

added : (n : ℕ) (f : ℕ → ℕ) (xs ys : List ℕ) → length xs ≡ n → ((i : ℕ) → i < n → get_or xs i 0 + same 0 (get_or ys i 0) ≡ f i) → add_zeros xs ys ≡ tabulate n f
unfolding add_zeros
added n f xs ys e h = ap (λ (l : ℕ). tabulate l (λ i. get_or xs i 0 + same 0 (get_or ys i 0))) e ∙ tabulate_ext n _ f h

-- what the count of data symbol j of k becomes
abbrev pub counted_at : ℕ → ℕ → List ℕ → List ℕ → ℕ → ℕ
counted_at k p acc src j = get_or acc j 0 + same 0 (get_or src ((j + p) % k) 0)

module _ (k p : ℕ) (acc src : List ℕ) (all : length acc ≡ k) (sized : length src ≡ k) (h : p < k) where
  -- the data symbols from k − p on, whose checks are those before p
  run-from : add_zeros (take (length acc - (k - p)) (drop (k - p) acc)) (take p src) ≡ tabulate p (λ i. counted_at k p acc src (k - p + i))
  run-from = added p _ _ _ (simp (length-take, length-drop) (omega arith)) (λ i l.
      let e : (k - p + i + p) % k ≡ i = by_eq k {x = k - p + i + p} {y = i + k} (omega arith) ∙ add-mod_right i k ∙ mod-eq_of_lt (omega arith) in
      rw (e, get_or-take (length acc - (k - p)) (drop (k - p) acc) i 0 (omega arith), get_or-drop (k - p) acc i 0, get_or-take p src i 0 l))

  -- those before k − p, whose checks start at p
  run_to : add_zeros (take (k - p) acc) (take (length src - p) (drop p src)) ≡ tabulate (k - p) (counted_at k p acc src)
  run_to = added (k - p) _ _ _ (length-take-le (k - p) acc (omega arith)) (λ i l.
      let e : (i + p) % k ≡ p + i = mod-eq_of_lt {m = k} (omega arith) ∙ omega arith in
      rw (e, get_or-take (k - p) acc i 0 l, get_or-take (length src - p) (drop p src) i 0 (omega arith), get_or-drop p src i 0))

  pub runs : (r t : List ℕ) → r ≡ add_zeros (take (length acc - (k - p)) (drop (k - p) acc)) (take p src)
      → t ≡ add_zeros (take (k - p) (put_mid (k - p) (length acc - (k - p)) acc r)) (take (length src - p) (drop p src))
      → t ++ drop (k - p) (put_mid (k - p) (length acc - (k - p)) acc r) ≡ tabulate k (counted_at k p acc src)
  runs r t d e =
      both (k - p) acc (omega arith) p (counted_at k p acc src) r t (d ∙ run-from)
      (e ∙ ap (λ (l : List ℕ). add_zeros l (take (length src - p) (drop p src))) (lead (k - p) acc (omega arith) r) ∙ run_to)
      ∙ ap (λ (n : ℕ). tabulate n (counted_at k p acc src)) (let z : k - p + p ≡ k = omega arith in z)
