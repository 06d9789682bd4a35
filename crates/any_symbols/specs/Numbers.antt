-- A list of symbols as the list of their numbers.
use Rattle.std.specs.Prelude.{◌≡◌, refl, List, [], ◌∷◌, ◌++◌, ℕ, zero, suc, ◌<◌, length, get_or, set, take, drop, map}
use Rattle.std.proofs.Common.{sym, ap, ◌∙◌, not-suc-le-zero, le_of_suc-le-suc}

-- the numbers of a list of symbols are those of its symbols, one by one
pub record IsNumbers {S : Type 0} (number : S → ℕ) (numbers : List S → List ℕ) : Type 0 where
  pub mapped : (xs : List S) → numbers xs ≡ map number xs

map_same : (xs : List ℕ) → xs ≡ map (λ x. x) xs
map_same [] = refl
map_same (x ∷ xs) = ap (λ (l : List ℕ). x ∷ l) (map_same xs)

-- symbols that are numbers themselves
pub numbers_themselves : IsNumbers (λ (x : ℕ). x) (λ xs. xs)
numbers_themselves = record { mapped = map_same }

module _ {S : Type 0} (f : S → ℕ) where
  map_length : (xs : List S) → length (map f xs) ≡ length xs
  map_length [] = refl
  map_length (x ∷ xs) = ap suc (map_length xs)

  map_at : (xs : List S) (i : ℕ) (d : S) → i < length xs → get_or (map f xs) i 0 ≡ f (get_or xs i d)
  map_at [] i d h = absurd (not-suc-le-zero h)
  map_at (x ∷ xs) zero d h = refl
  map_at (x ∷ xs) (suc i) d h = map_at xs i d (le_of_suc-le-suc h)

  map_set : (xs : List S) (i : ℕ) (x : S) → map f (set xs i x) ≡ set (map f xs) i (f x)
  map_set [] i x = refl
  map_set (y ∷ xs) zero x = refl
  map_set (y ∷ xs) (suc i) x = ap (λ (l : List ℕ). f y ∷ l) (map_set xs i x)

  map_take : (n : ℕ) (xs : List S) → map f (take n xs) ≡ take n (map f xs)
  map_take zero xs = refl
  map_take (suc n) [] = refl
  map_take (suc n) (x ∷ xs) = ap (λ (l : List ℕ). f x ∷ l) (map_take n xs)

  map_drop : (n : ℕ) (xs : List S) → map f (drop n xs) ≡ drop n (map f xs)
  map_drop zero xs = refl
  map_drop (suc n) [] = refl
  map_drop (suc n) (x ∷ xs) = map_drop n xs

  map_append : (xs ys : List S) → map f (xs ++ ys) ≡ map f xs ++ map f ys
  map_append [] ys = refl
  map_append (x ∷ xs) ys = ap (λ (l : List ℕ). f x ∷ l) (map_append xs ys)

module _ {S : Type 0} {number : S → ℕ} {numbers : List S → List ℕ} (n : IsNumbers number numbers) where
  pub numbers_length : (xs : List S) → length (numbers xs) ≡ length xs
  numbers_length xs = ap length (n.mapped xs) ∙ map_length number xs

  -- symbol i, whatever is read where there is none
  pub numbers_at : (xs : List S) (i : ℕ) (d : S) → i < length xs → get_or (numbers xs) i 0 ≡ number (get_or xs i d)
  numbers_at xs i d h = ap (λ (l : List ℕ). get_or l i 0) (n.mapped xs) ∙ map_at number xs i d h

  -- and as it was read
  pub number_read : {x : S} (xs : List S) (i : ℕ) → i < length xs → x ≡ get_or xs i x → number x ≡ get_or (numbers xs) i 0
  number_read {x} xs i h e = ap number e ∙ sym (numbers_at xs i x h)

  pub numbers_set : (xs : List S) (i : ℕ) (x : S) → numbers (set xs i x) ≡ set (numbers xs) i (number x)
  numbers_set xs i x = n.mapped (set xs i x) ∙ map_set number xs i x ∙ ap (λ (l : List ℕ). set l i (number x)) (sym (n.mapped xs))

  pub numbers_take : (m : ℕ) (xs : List S) → numbers (take m xs) ≡ take m (numbers xs)
  numbers_take m xs = n.mapped (take m xs) ∙ map_take number m xs ∙ ap (take m) (sym (n.mapped xs))

  pub numbers_drop : (m : ℕ) (xs : List S) → numbers (drop m xs) ≡ drop m (numbers xs)
  numbers_drop m xs = n.mapped (drop m xs) ∙ map_drop number m xs ∙ ap (drop m) (sym (n.mapped xs))

  pub numbers_append : (xs ys : List S) → numbers (xs ++ ys) ≡ numbers xs ++ numbers ys
  numbers_append xs ys =
      n.mapped (xs ++ ys) ∙ map_append number xs ys ∙ ap (λ (l : List ℕ). l ++ map number ys) (sym (n.mapped xs)) ∙ ap (λ (l : List ℕ). numbers xs ++ l) (sym (n.mapped ys))
