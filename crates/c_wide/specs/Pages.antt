-- Bytes of wide symbols, part by part: one string after another, zeros, and the data and the checks of a page.
use Rattle.std.specs.Prelude.{◌≡◌, refl, ℕ, zero, suc, ◌+◌, ◌*◌, ◌%◌, ◌^◌, ◌<◌, length, get_or, take, drop}
use Rattle.std.proofs.Math.Path.{ap, sym}
use Rattle.std.proofs.Common.{◌∙◌, subst, zero-mul, suc-mul, add-zero, arith, length-drop, take-append-drop, take_at, drop_at, get_or-drop, length-take-le}
use mathlib.Core.List.{List, [], ◌∷◌, ◌++◌, append_assoc}
use Rattle.std.proofs.Math.Nat.{mod-lt}
use Rattle.model.specs.Bytes.{bytes_in, symbols_of, symbol_bytes}
use Rattle.model.specs.Code.{Code, data_count, check_count, check_symbol, check_symbols, code_word, syndrome}
use Rattle.model.specs.Symbols.{tabulate, Below}
use Rattle.theory.specs.Distance.{get_d_tabulate, tabulate_ext, below_tabulate}
use Rattle.theory.specs.Modulo.{sub_unique}
use Rattle.theory.specs.Parts.{below_part}
use Rattle.theory.specs.WideBytes.{symbols_length, symbols_below, bytes_of_symbols}
use Rattle.theory.proofs.WideBytes.{symbols_back}

-- ---- strings of symbols

pub bytes_append : (w : ℕ) (xs ys : List ℕ) → symbol_bytes w (xs ++ ys) ≡ symbol_bytes w xs ++ symbol_bytes w ys
unfolding symbol_bytes
bytes_append w [] ys = refl
bytes_append w (x ∷ xs) ys = ap (λ (l : List ℕ). bytes_in w x ++ l) (bytes_append w xs ys) ∙ sym (append_assoc (bytes_in w x) (symbol_bytes w xs) (symbol_bytes w ys))

-- zeros are written as zeros
zeros_append : (m n : ℕ) → tabulate m (λ i. 0) ++ tabulate n (λ i. 0) ≡ tabulate (m + n) (λ i. 0)
unfolding tabulate
zeros_append zero n = ap (λ (l : ℕ). tabulate l (λ i. 0)) (let e : n ≡ zero + n = omega arith in e)
zeros_append (suc m) n = ap (λ (l : List ℕ). 0 ∷ l) (zeros_append m n) ∙ ap (λ (l : ℕ). tabulate l (λ i. 0)) (let e : suc (m + n) ≡ suc m + n = omega arith in e)

bytes_zero : (w : ℕ) → bytes_in w 0 ≡ tabulate w (λ i. 0)
unfolding bytes_in tabulate
bytes_zero zero = refl
bytes_zero (suc w) = ap (λ (l : List ℕ). 0 ∷ l) (bytes_zero w)

pub zeros_written : (w n : ℕ) → symbol_bytes w (tabulate n (λ i. 0)) ≡ tabulate (n * w) (λ i. 0)
unfolding symbol_bytes tabulate
zeros_written w zero = ap (λ (l : ℕ). tabulate l (λ i. 0)) (sym (zero-mul w))
zeros_written w (suc n) =
    rw (bytes_zero w, zeros_written w n) (zeros_append w (n * w)) ∙ ap (λ (l : ℕ). tabulate l (λ i. 0)) (let e : w + n * w ≡ suc n * w = omega (arith, suc-mul n w) in e)

below_append : (q : ℕ) (s t : List ℕ) → Below q s → Below q t → (i : ℕ) → get_or (s ++ t) i 0 < q
below_append q [] t hs ht i = ht i
below_append q (x ∷ s) t hs ht zero = hs 0
below_append q (x ∷ s) t hs ht (suc i) = below_append q s t (λ l. hs (suc l)) ht i

module _ (w : ℕ) (pos : 0 < w) where
  some_values : 0 < 256 ^ w
  some_values = omega (arith, symbols_below w [] (λ i. omega arith) 0)

  -- zeros are read as zeros
  pub zeros_read : (n : ℕ) → symbols_of w (tabulate (n * w) (λ i. 0)) ≡ tabulate n (λ i. 0)
  zeros_read n = ap (symbols_of w) (sym (zeros_written w n)) ∙ symbols_back w pos (tabulate n (λ i. 0)) (below_tabulate (256 ^ w) some_values n (λ i. 0) (λ i. some_values))

  -- one string after another
  module _ (m n : ℕ) (s t : List ℕ) (hs : Below 256 s) (ht : Below 256 t) (ls : length s ≡ m * w) (lt : length t ≡ n * w) where
    pub symbols_append : symbols_of w (s ++ t) ≡ symbols_of w s ++ symbols_of w t
    symbols_append =
        ap (symbols_of w) (sym (bytes_append w (symbols_of w s) (symbols_of w t) ∙ rw (bytes_of_symbols w pos m s hs ls, bytes_of_symbols w pos n t ht lt) refl))
        ∙ symbols_back w pos (symbols_of w s ++ symbols_of w t) (below_append (256 ^ w) (symbols_of w s) (symbols_of w t) (symbols_below w s hs) (symbols_below w t ht))

  -- the data and the checks of a page of m and n symbols
  module _ (m n : ℕ) (page : List ℕ) (low : Below 256 page) (whole : length page ≡ (m + n) * w) where
    split : length page ≡ m * w + n * w
    split = omega (arith, whole)

    data-length : length (take (m * w) page) ≡ m * w
    data-length = length-take-le (m * w) page (omega (arith, split))

    data_low : Below 256 (take (m * w) page)
    data_low = below_part 256 (omega arith) 0 (m * w) page low

    pub page_parts : symbols_of w (take (m * w) page) ++ symbols_of w (drop (m * w) page) ≡ symbols_of w page
    page_parts = sym (ap (symbols_of w) (sym (take-append-drop (m * w) page))
        ∙ symbols_append m n (take (m * w) page) (drop (m * w) page) data_low
        (λ i. subst (λ (x : ℕ). x < 256) (sym (get_or-drop (m * w) page i 0)) (low (m * w + i))) data-length (length-drop (m * w) page ∙ omega (arith, split)))

    pub data_read : take m (symbols_of w page) ≡ symbols_of w (take (m * w) page)
    data_read =
        ap (take m) (sym page_parts) ∙ take_at (symbols_of w (take (m * w) page)) (symbols_of w (drop (m * w) page)) m (symbols_length w pos m (take (m * w) page) data-length)

    pub data_written : symbol_bytes w (take m (symbols_of w page)) ≡ take (m * w) page
    data_written = ap (symbol_bytes w) data_read ∙ bytes_of_symbols w pos m (take (m * w) page) data_low data-length

-- ---- code words

-- the syndrome of data behind which zeros stand is their check symbols
no_checks : (c : Code) → 0 < c.q → (u : List ℕ) → length u ≡ data_count c → syndrome c (u ++ tabulate (check_count c) (λ i. 0)) ≡ check_symbols c u
unfolding syndrome check_symbols check_symbol
no_checks c pos u e =
    let z : List ℕ = tabulate (check_count c) (λ i. 0) in
    rw (take_at u z (data_count c) e, drop_at u z (data_count c) e) (tabulate_ext (check_count c) _ _ (λ i h.
    rw (get_d_tabulate (check_count c) (λ i. 0) i h) (sym (sub_unique c.q pos _ 0 _ (omega arith) (mod-lt _ pos) (ap (λ (x : ℕ). x % c.q) (add-zero _))))))

module _ (c : Code) (pos : 0 < c.q) (w : ℕ) (some : 0 < w) (u : List ℕ) (low : Below 256 u) (len : length u ≡ data_count c * w) where
  -- the data's bytes and, behind them, those of the syndrome that is worked out where zeros stand
  pub word_bytes : (v : List ℕ) → v ≡ symbol_bytes w (syndrome c (symbols_of w u ++ symbols_of w (tabulate (check_count c * w) (λ i. 0))))
      → u ++ v ≡ symbol_bytes w (code_word c (symbols_of w u))
  unfolding code_word
  word_bytes v e = sym (bytes_append w (symbols_of w u) (check_symbols c (symbols_of w u))
      ∙ rw (bytes_of_symbols w some (data_count c) u low len) (ap (λ (l : List ℕ). u ++ l) (sym (e
      ∙ ap (λ (l : List ℕ). symbol_bytes w (syndrome c (symbols_of w u ++ l))) (zeros_read w some (check_count c))
      ∙ ap (symbol_bytes w) (no_checks c pos (symbols_of w u) (symbols_length w some (data_count c) u len))))))

  word_below : Below c.q (symbols_of w u) → Below c.q (code_word c (symbols_of w u))
  unfolding code_word check_symbols check_symbol
  word_below h = below_append c.q (symbols_of w u) _ h (below_tabulate c.q pos (check_count c) _ (λ i. mod-lt _ pos))

  -- and read again
  pub word_read : c.q ≡ 256 ^ w → symbols_of w (symbol_bytes w (code_word c (symbols_of w u))) ≡ code_word c (symbols_of w u)
  word_read e = symbols_back w some (code_word c (symbols_of w u))
      (subst (λ (q : ℕ). Below q (code_word c (symbols_of w u))) e (word_below (subst (λ (q : ℕ). Below q (symbols_of w u)) (sym e) (symbols_below w u low))))
