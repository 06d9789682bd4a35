-- Wide symbols as bytes: what is written reads back, and a store of its bytes is a store of the symbol.
use Rattle.std.specs.Prelude.{◌≡◌, ℕ, zero, suc, ◌+◌, ◌*◌, ◌^◌, ◌≤◌, ◌<◌, set, take, drop}
use Rattle.std.proofs.Math.Path.{refl, ap, sym}
use Rattle.std.proofs.Common.{◌∙◌, zero-mul, zero-add, mul-le-mul_right, arith, length-drop, take-add, drop-drop, length-take-le}
use mathlib.Core.List.{List, [], ◌∷◌, ◌++◌, append_assoc}
use Rattle.std.proofs.Math.Nat.{suc-mul}
use Rattle.std.proofs.Math.ListN.{length}
use Rattle.std.proofs.lemmas.List.Edits.{sets, sets-eq}
use Rattle.std.proofs.Math.Seq.{length-sets, take_at, drop_at}
use Rattle.model.specs.Bytes.{number_of, bytes_in, symbols_of, symbol_bytes}
use Rattle.model.specs.Symbols.{Below}
use Rattle.theory.specs.WideBytes.{bytes_length, number_back, first_of, first_cons, first_none, symbols_whole, written_length}

module _ (w : ℕ) (pos : 0 < w) where
  first_back : (xs : List ℕ) → Below (256 ^ w) xs → first_of (length xs) w (symbol_bytes w xs) ≡ xs
  unfolding symbol_bytes
  first_back [] low = first_none w []
  first_back (x ∷ xs) low =
      first_cons (length xs) w (bytes_in w x ++ symbol_bytes w xs)
      ∙ rw (
        take_at (bytes_in w x) (symbol_bytes w xs) w (bytes_length w x),
        drop_at (bytes_in w x) (symbol_bytes w xs) w (bytes_length w x),
        number_back w x (low 0),
        first_back xs (λ i. low (suc i)),
      ) refl

  pub symbols_back : (xs : List ℕ) → Below (256 ^ w) xs → symbols_of w (symbol_bytes w xs) ≡ xs
  symbols_back xs low = symbols_whole w pos (length xs) (symbol_bytes w xs) (written_length w pos xs) ∙ first_back xs low

  written_first : (n i : ℕ) (s bs : List ℕ) → i < n → length s ≡ n * w → length bs ≡ w
      → first_of n w (take (i * w) s ++ bs ++ drop (i * w + w) s) ≡ set (first_of n w s) i (number_of bs)
  written_first zero i s bs h e l = absurd (omega arith)
  written_first (suc n) zero s bs h e l =
      ap (first_of (suc n) w) (let z : take (0 * w) s ++ bs ++ drop (0 * w + w) s ≡ bs ++ drop w s = rw (zero-mul w, zero-add w) refl in z)
      ∙ first_cons n w (bs ++ drop w s)
      ∙ rw (take_at bs (drop w s) w l, drop_at bs (drop w s) w l) (sym (ap (λ (v : List ℕ). set v 0 (number_of bs)) (first_cons n w s)))
  written_first (suc n) (suc i) s bs h e l =
      let room : w ≤ length s = omega (arith, suc-mul n w) in
      let rest : List ℕ = take (i * w) (drop w s) ++ bs ++ drop (i * w + w) (drop w s) in
      let a : take (suc i * w) s ≡ take w s ++ take (i * w) (drop w s) = ap (λ (m : ℕ). take m s) (let z : suc i * w ≡ w + i * w = omega arith in z) ∙ take-add w (i * w) s in
      let b : drop (suc i * w + w) s ≡ drop (i * w + w) (drop w s) =
      ap (λ (m : ℕ). drop m s) (let z : suc i * w + w ≡ w + (i * w + w) = omega arith in z) ∙ sym (drop-drop (i * w + w) w s) in
      let whole : take (suc i * w) s ++ bs ++ drop (suc i * w + w) s ≡ take w s ++ rest =
      rw (a, b) (ap (λ (v : List ℕ). v ++ drop (i * w + w) (drop w s)) (append_assoc (take w s) (take (i * w) (drop w s)) bs)
      ∙ append_assoc (take w s) (take (i * w) (drop w s) ++ bs) (drop (i * w + w) (drop w s))) in
      ap (first_of (suc n) w) whole
      ∙ first_cons n w (take w s ++ rest)
      ∙ rw (
        take_at (take w s) rest w (length-take-le w s room),
        drop_at (take w s) rest w (length-take-le w s room),
        written_first n i (drop w s) bs (omega arith) (length-drop w s ∙ omega (arith, suc-mul n w)) l,
      )
      (sym (ap (λ (v : List ℕ). set v (suc i) (number_of bs)) (first_cons n w s)))

  -- a store of its bytes is a store of the symbol
  pub symbol_set : (n : ℕ) (s : List ℕ) → length s ≡ n * w → (i x : ℕ) → i < n → x < 256 ^ w → symbols_of w (sets s (i * w) (bytes_in w x)) ≡ set (symbols_of w s) i x
  symbol_set n s e i x h low =
      let bs : List ℕ = bytes_in w x in
      let sized = bytes_length w x in
      let room : i * w + w ≤ length s = omega (arith, mul-le-mul_right w (let z : suc i ≤ n = omega arith in z), suc-mul i w) in
      symbols_whole w pos n (sets s (i * w) bs) (length-sets s (i * w) bs ∙ e)
      ∙ ap (first_of n w) (sets-eq bs s (i * w) (omega (arith, sized)) ∙ ap (λ (m : ℕ). take (i * w) s ++ bs ++ drop (i * w + m) s) sized)
      ∙ written_first n i s bs h e sized
      ∙ rw (symbols_whole w pos n s e, number_back w x low) refl
