-- Wide symbols as bytes: what is written reads back, and what is read is as long as the bytes and below 256 to the number of a symbol's bytes.
use Rattle.std.specs.Prelude.{◌≡◌, Bool, true, false, ℕ, zero, suc, ◌+◌, ◌*◌, ◌/◌, ◌%◌, ◌^◌, ◌≤◌, ◌<◌, eqb, take, drop}
use Rattle.std.proofs.Math.Path.{refl, ap, sym, subst}
use Rattle.std.proofs.Common.{◌∙◌, pow-suc, zero-mul, zero-lt-suc, le_trans, arith, take-append-drop, length-take, length-drop, drop-drop, length-take-le, get_or-drop}
use mathlib.Core.List.{List, [], ◌∷◌, ◌++◌}
use Rattle.std.proofs.Math.Nat.{pow-zero, suc-mul, mul-mod_left, mul-div_cancel, div-add-mod', div-div-eq-div-mul, pow-le-pow_right}
use Rattle.std.proofs.Math.Decide.{ℕ_discrete}
use Rattle.std.proofs.Math.ListN.{length, get_or, length-append}
use Rattle.model.specs.Bytes.{word_of, position_at, positions_of, number_of, bytes_in, symbols_of, symbol_bytes}
use Rattle.model.specs.Symbols.{choose, tabulate, Below}
use Rattle.theory.specs.Counting.{eqb_yes, eqb_no}
use Rattle.theory.specs.Distance.{length_tabulate, get_d_tabulate, tabulate_ext, below_tabulate}
use Rattle.theory.specs.Parts.{below_part}

-- ---- one number

pub bytes_length : (w n : ℕ) → length (bytes_in w n) ≡ w
unfolding bytes_in
bytes_length zero n = refl
bytes_length (suc w) n = ap suc (bytes_length w (n / 256))

pub number_back : (w n : ℕ) → n < 256 ^ w → number_of (bytes_in w n) ≡ n
unfolding bytes_in number_of
number_back zero n h = omega (arith, pow-zero 256)
number_back (suc w) n h = omega (arith, number_back w (n / 256) (omega (arith, pow-suc 256 w)))

pub bytes_back : (s : List ℕ) → Below 256 s → bytes_in (length s) (number_of s) ≡ s
unfolding bytes_in number_of
bytes_back [] low = refl
bytes_back (x ∷ xs) low =
    let m : (x + 256 * number_of xs) % 256 ≡ x = omega (arith, low 0) in
    let d : (x + 256 * number_of xs) / 256 ≡ number_of xs = omega (arith, low 0) in
    rw (m, d, bytes_back xs (λ i. low (suc i))) refl

pub number_below : (s : List ℕ) → Below 256 s → number_of s < 256 ^ length s
unfolding number_of
number_below [] low = omega (arith, pow-zero 256)
number_below (x ∷ xs) low = omega (arith, low 0, number_below xs (λ i. low (suc i)), pow-suc 256 (length xs))

-- ---- a list of symbols

-- the first n symbols of w bytes each
unfoldable pub first_of : ℕ → ℕ → List ℕ → List ℕ
first_of n w s = tabulate n (λ i. number_of (take w (drop (i * w) s)))

pub first_cons : (n w : ℕ) (s : List ℕ) → first_of (suc n) w s ≡ number_of (take w s) ∷ first_of n w (drop w s)
unfolding first_of tabulate
first_cons n w s =
    rw (zero-mul w) (ap (λ (l : List ℕ). number_of (take w s) ∷ l)
    (tabulate_ext n (λ i. number_of (take w (drop (suc i * w) s))) (λ i. number_of (take w (drop (i * w) (drop w s))))
    (λ i h. ap (λ (l : List ℕ). number_of (take w l)) (ap (λ (m : ℕ). drop m s) (let e : suc i * w ≡ w + i * w = omega arith in e) ∙ sym (drop-drop (i * w) w s)))))

pub first_none : (w : ℕ) (s : List ℕ) → first_of 0 w s ≡ []
unfolding first_of tabulate
first_none w s = refl

-- a string of n symbols, and one of any other length
module _ (w : ℕ) (pos : 0 < w) where
  pub symbols_whole : (n : ℕ) (s : List ℕ) → length s ≡ n * w → symbols_of w s ≡ first_of n w s
  unfolding symbols_of first_of
  symbols_whole n s e = rw (e, mul-mod_left n w, mul-div_cancel n pos) refl

  pub symbols_length : (n : ℕ) (s : List ℕ) → length s ≡ n * w → length (symbols_of w s) ≡ n
  unfolding first_of
  symbols_length n s e = ap length (symbols_whole n s e) ∙ length_tabulate n (λ i. number_of (take w (drop (i * w) s)))

  length_back : (n : ℕ) → 0 < n → (s : List ℕ) → length (symbols_of w s) ≡ n → length s ≡ n * w
  unfolding symbols_of
  length_back n some s e = elim (ℕ_discrete (length s % w) 0) as (λ o. length s ≡ n * w) [
    | yes z ↦
        let d : length (tabulate (length s / w) (λ i. number_of (take w (drop (i * w) s)))) ≡ n =
        subst (λ (b : Bool). length (choose b (tabulate (length s / w) (λ i. number_of (take w (drop (i * w) s)))) []) ≡ n) (eqb_yes (length s % w) 0 z) e in
        omega (arith, div-add-mod' (length s) w, ap (λ (x : ℕ). x * w) (sym (length_tabulate (length s / w) (λ i. number_of (take w (drop (i * w) s)))) ∙ d))
    | no m ↦
        let d : 0 ≡ n = subst (λ (b : Bool). length (choose b (tabulate (length s / w) (λ i. number_of (take w (drop (i * w) s)))) []) ≡ n) (eqb_no (length s % w) 0 m) e in
        absurd (omega (arith, d))
  ]

  -- so the test of a length may count bytes
  pub fits_bytes : (n : ℕ) → 0 < n → (s : List ℕ) → eqb (length (symbols_of w s)) n ≡ eqb (length s) (n * w)
  fits_bytes n some s = elim (ℕ_discrete (length s) (n * w)) as (λ o. eqb (length (symbols_of w s)) n ≡ eqb (length s) (n * w)) [
    | yes e ↦ eqb_yes (length (symbols_of w s)) n (symbols_length n s e) ∙ sym (eqb_yes (length s) (n * w) e)
    | no m ↦ eqb_no (length (symbols_of w s)) n (λ e. m (length_back n some s e)) ∙ sym (eqb_no (length s) (n * w) m)
  ]

  -- ---- there and back

  pub written_length : (xs : List ℕ) → length (symbol_bytes w xs) ≡ length xs * w
  unfolding symbol_bytes
  written_length [] = sym (zero-mul w)
  written_length (x ∷ xs) = length-append (bytes_in w x) (symbol_bytes w xs) ∙ omega (arith, bytes_length w x, written_length xs, suc-mul (length xs) w)

  bytes_none : (s : List ℕ) → length s ≡ 0 → symbol_bytes w [] ≡ s
  unfolding symbol_bytes
  bytes_none [] z = refl
  bytes_none (x ∷ xs) z = absurd (omega arith)

  bytes_cons : (x : ℕ) (xs : List ℕ) → symbol_bytes w (x ∷ xs) ≡ bytes_in w x ++ symbol_bytes w xs
  unfolding symbol_bytes
  bytes_cons x xs = refl

  bytes_first : (n : ℕ) (s : List ℕ) → Below 256 s → length s ≡ n * w → symbol_bytes w (first_of n w s) ≡ s
  bytes_first zero s low e = ap (symbol_bytes w) (first_none w s) ∙ bytes_none s (e ∙ zero-mul w)
  bytes_first (suc n) s low e =
      let room : w ≤ length s = omega (arith, suc-mul n w) in
      let sized : length (take w s) ≡ w = length-take-le w s room in
      ap (symbol_bytes w) (first_cons n w s)
      ∙ bytes_cons (number_of (take w s)) (first_of n w (drop w s))
      ∙ rw (bytes_first n (drop w s) (λ i. subst (λ (x : ℕ). x < 256) (sym (get_or-drop w s i 0)) (low (w + i))) (length-drop w s ∙ omega (arith, suc-mul n w)))
      (ap (λ (l : List ℕ). l ++ drop w s) (ap (λ (m : ℕ). bytes_in m (number_of (take w s))) (sym sized) ∙ bytes_back (take w s) (below_part 256 (omega arith) 0 w s low))
      ∙ take-append-drop w s)

  pub bytes_of_symbols : (n : ℕ) (s : List ℕ) → Below 256 s → length s ≡ n * w → symbol_bytes w (symbols_of w s) ≡ s
  bytes_of_symbols n s low e = ap (symbol_bytes w) (symbols_whole n s e) ∙ bytes_first n s low e

  -- ---- one symbol of many

  pub symbol-at : (n : ℕ) (s : List ℕ) → length s ≡ n * w → (i : ℕ) → i < n → get_or (symbols_of w s) i 0 ≡ number_of (take w (drop (i * w) s))
  unfolding first_of
  symbol-at n s e i h = ap (λ (l : List ℕ). get_or l i 0) (symbols_whole n s e) ∙ get_d_tabulate n (λ l. number_of (take w (drop (l * w) s))) i h

-- ---- the range

part_below : (w : ℕ) (s : List ℕ) → Below 256 s → number_of (take w s) < 256 ^ w
part_below w s low =
    le_trans (number_below (take w s) (below_part 256 (omega arith) 0 w s low))
    (pow-le-pow_right (zero-lt-suc 255) (let e : length (take w s) ≤ w = omega (arith, length-take w s) in e))

pub symbols_below : (w : ℕ) (s : List ℕ) → Below 256 s → Below (256 ^ w) (symbols_of w s)
unfolding symbols_of
symbols_below w s low = go (eqb (length s % w) 0)
  where
    pos : 0 < 256 ^ w
    pos = omega (arith, part_below w s low)

    go : (b : Bool) → Below (256 ^ w) (choose b (tabulate (length s / w) (λ i. number_of (take w (drop (i * w) s)))) [])
    go true = below_tabulate (256 ^ w) pos (length s / w) (λ i. number_of (take w (drop (i * w) s)))
        (λ i. part_below w (drop (i * w) s) (λ l. subst (λ (x : ℕ). x < 256) (sym (get_or-drop (i * w) s l 0)) (low (i * w + l))))
    go false = λ i. pos

-- ---- what stood is of this form: a position is a symbol of two bytes, a 32-bit number one of four, a byte one of one

pub word_bytes : (n : ℕ) → word_of n ≡ bytes_in 4 n
unfolding bytes_in
word_bytes n = rw (div-div-eq-div-mul n 256 256, div-div-eq-div-mul n 65536 256) refl

pub positions_symbols : (s : List ℕ) → positions_of s ≡ symbols_of 2 s
unfolding positions_of symbols_of number_of
positions_symbols s = ap (λ (l : List ℕ). choose (eqb (length s % 2) 0) l [])
    (tabulate_ext (length s / 2) (position_at s) (λ i. number_of (take 2 (drop (i * 2) s))) (λ i h. sym (pair (drop (i * 2) s) ∙ rw (get_or-drop (i * 2) s 0 0, get_or-drop (i * 2) s 1 0)
    (let e : i * 2 + 0 ≡ i + i = omega arith in let f : i * 2 + 1 ≡ i + i + 1 = omega arith in rw (e, f) refl))))
  where
    pair : (t : List ℕ) → number_of (take 2 t) ≡ get_or t 0 0 + 256 * get_or t 1 0
    pair [] = refl
    pair (x ∷ []) = omega arith
    pair (x ∷ y ∷ t) = omega arith
