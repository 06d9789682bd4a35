-- The numbers of a slice of symbols of which parts are read or written.
use Rattle.std.specs.Prelude.{◌≡◌, List, ◌++◌, ℕ, ◌-◌, length, take, drop}
use Rattle.std.proofs.Common.{sym, ap, ◌∙◌}
use borrow.Rule.Slice.PartMut.{put_mid}
use Rattle.wide_symbols.specs.Numbers.{IsNumbers, numbers_length, numbers_take, numbers_drop, numbers_append}

module _ {S : Type 0} {number : S → ℕ} {numbers : List S → List ℕ} (n : IsNumbers number numbers) where
  -- those of the part of m symbols from a on
  pub numbers_part : (m a : ℕ) (xs : List S) → numbers (take m (drop a xs)) ≡ take m (drop a (numbers xs))
  numbers_part m a xs = numbers_take n m (drop a xs) ∙ ap (take m) (numbers_drop n a xs)

  -- those of a list with ys in the place of such a part
  pub numbers_put : (a m : ℕ) (xs ys : List S) → numbers (put_mid a m xs ys) ≡ put_mid a m (numbers xs) (numbers ys)
  numbers_put a m xs ys =
      numbers_append n (take a xs) (ys ++ drop m (drop a xs))
      ∙ ap (λ (l : List ℕ). l ++ numbers (ys ++ drop m (drop a xs))) (numbers_take n a xs)
      ∙ ap (λ (l : List ℕ). take a (numbers xs) ++ l)
      (numbers_append n ys (drop m (drop a xs)) ∙ ap (λ (l : List ℕ). numbers ys ++ l) (numbers_drop n m (drop a xs) ∙ ap (drop m) (numbers_drop n a xs)))

  -- of a list that is written from a on, by r, what stands before a
  pub numbers_lead : (a m : ℕ) (s r : List S) → numbers (take a (put_mid a m s r)) ≡ take a (put_mid a m (numbers s) (numbers r))
  numbers_lead a m s r = numbers_take n a (put_mid a m s r) ∙ ap (take a) (numbers_put a m s r)

  -- and the whole list, written by t before a
  pub numbers_both : (t : List S) (a : ℕ) (s r : List S)
      → numbers (t ++ drop a (put_mid a (length s - a) s r)) ≡ numbers t ++ drop a (put_mid a (length (numbers s) - a) (numbers s) (numbers r))
  numbers_both t a s r =
      numbers_append n t (drop a (put_mid a (length s - a) s r))
      ∙ ap (λ (l : List ℕ). numbers t ++ l)
      (numbers_drop n a (put_mid a (length s - a) s r)
      ∙ ap (drop a) (numbers_put a (length s - a) s r ∙ ap (λ (m : ℕ). put_mid a (m - a) (numbers s) (numbers r)) (sym (numbers_length n s))))
