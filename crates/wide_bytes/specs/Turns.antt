-- Symbols written from the front: one more. Bytes that are no number of symbols: none.
use Rattle.std.specs.Prelude.{◌≡◌, refl, ◌≢◌, List, [], ◌∷◌, ◌++◌, ℕ, ◌+◌, ◌*◌, ◌%◌, ◌^◌, ◌≤◌, ◌<◌, length, get_or, set, take, drop}
use Rattle.std.proofs.Common.{ap, sym, ◌∙◌, subst, add-one, arith, take-suc, take-suc-set, take_all}
use Rattle.std.proofs.lemmas.List.Edits.{sets}
use Rattle.model.specs.Bytes.{number_of, bytes_in, symbols_of, symbol_bytes}
use Rattle.model.specs.Symbols.{Below}
use Rattle.theory.specs.Counting.{eqb_no}
use Rattle.theory.specs.WideBytes.{symbols_length, symbol-at, bytes_of_symbols}
use Rattle.theory.proofs.WideBytes.{symbol_set}

pub one_more : (xs ys : List ℕ) (i x : ℕ) → i < length xs → i < length ys → take i xs ≡ take i ys → x ≡ get_or ys i 0 → take (i + 1) (set xs i x) ≡ take (i + 1) ys
one_more xs ys i x h l e f =
    ap (λ (n : ℕ). take n (set xs i x)) (add-one i)
    ∙ take-suc-set xs i x h
    ∙ ap (λ (zs : List ℕ). zs ++ (x ∷ [])) e
    ∙ ap (λ (y : ℕ). take i ys ++ (y ∷ [])) f
    ∙ sym (ap (λ (n : ℕ). take n ys) (add-one i) ∙ take-suc ys i 0 l)

-- after two of them
pub two_more : (i : ℕ) (xs ys : List ℕ) → take (i + 1 + 1) xs ≡ take (i + 1 + 1) ys → take (i + 2) xs ≡ take (i + 2) ys
two_more i xs ys e = subst (λ (m : ℕ). take m xs ≡ take m ys) (let f : i + 1 + 1 ≡ i + 2 = omega arith in f) e

-- one more by the bytes at its place
pub symbol_more : (w : ℕ) → 0 < w → (n : ℕ) (bytes : List ℕ) → length bytes ≡ n * w → (xs : List ℕ) (i x : ℕ) → length xs ≡ n → i < n → take i xs ≡ take i (symbols_of w bytes)
    → x ≡ number_of (take w (drop (i * w) bytes)) → take (i + 1) (set xs i x) ≡ take (i + 1) (symbols_of w bytes)
symbol_more w pos n bytes size xs i x len h e f =
    one_more xs (symbols_of w bytes) i x (omega arith) (omega (arith, symbols_length w pos n bytes size)) e (f ∙ sym (symbol-at w pos n bytes size i h))

-- symbols written as bytes: one more, and all
module _ (w : ℕ) (pos : 0 < w) (symbols bytes : List ℕ) (size : length bytes ≡ length symbols * w) (i : ℕ) (e : take i (symbols_of w bytes) ≡ take i symbols) where
  pub bytes_more : i < length symbols → get_or symbols i 0 < 256 ^ w → (x : List ℕ) (at : ℕ) → at ≡ i * w → x ≡ sets bytes at (bytes_in w (get_or symbols i 0))
      → take (i + 1) (symbols_of w x) ≡ take (i + 1) symbols
  bytes_more h low x at f g =
      ap (λ (l : List ℕ). take (i + 1) (symbols_of w l)) (g ∙ ap (λ (m : ℕ). sets bytes m (bytes_in w (get_or symbols i 0))) f)
      ∙ ap (take (i + 1)) (symbol_set w pos (length symbols) bytes size i (get_or symbols i 0) h low)
      ∙ one_more (symbols_of w bytes) symbols i _ (omega (arith, h, symbols_length w pos (length symbols) bytes size)) h e refl

  pub bytes_all : length symbols ≤ i → Below 256 bytes → bytes ≡ symbol_bytes w symbols
  bytes_all h low =
      sym (bytes_of_symbols w pos (length symbols) bytes low size)
      ∙ ap (symbol_bytes w) (sym (take_all i (symbols_of w bytes) (omega (arith, symbols_length w pos (length symbols) bytes size))) ∙ e ∙ take_all i symbols h)

pub odd_none : (w : ℕ) (s : List ℕ) → length s % w ≢ 0 → 0 ≡ length (symbols_of w s)
unfolding symbols_of
odd_none w s n = rw (eqb_no (length s % w) 0 n) refl
