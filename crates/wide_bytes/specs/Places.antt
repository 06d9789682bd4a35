-- Where a wide symbol stands among bytes, and one more symbol read or written.
use Rattle.std.specs.Prelude.{◌≡◌, refl, List, [], ◌∷◌, ◌++◌, ℕ, suc, ◌+◌, ◌*◌, ◌≤◌, ◌<◌, length, get_or, set, take, drop}
use Rattle.std.proofs.Common.{ap, sym, ◌∙◌, add-one, append_assoc, arith, mul-le-mul_right, take-suc, take_all, length-append, length-take-le}
use Rattle.std.proofs.Math.Nat.{suc-mul}
use Rattle.std.proofs.Math.Seq.{take_at}
use Rattle.std.proofs.lemmas.List.{append-nil}
use Rattle.std.proofs.lemmas.List.Edits.{sets, sets-eq}
use Rattle.model.specs.Bytes.{symbol_size, number_of, bytes_in, symbols_of, symbol_bytes}
use Rattle.model.specs.Code.{Profile, highest}
use Rattle.model.specs.Symbols.{Below}
use Rattle.theory.specs.WideBytes.{bytes_length, symbols_length, symbols_below}
use Rattle.wide_bytes.specs.Turns.{symbol_more}
use Rattle.wide_symbols.specs.Numbers.{IsNumbers, numbers_length, numbers_set}
use Rattle.wide_symbols.specs.Widths.{IsWide, two_bytes, four_bytes, wide_size}

-- symbol i of n, whose size z a program reads: its bytes are all there, and where they begin is a small number
pub record IsPlace (f : Profile) (w i n z : ℕ) : Type 0 where
  pub inside : i * z + w ≤ n * symbol_size f
  pub low : i * z ≤ 4 * i

pub wide_place : {f : Profile} {w : ℕ} → IsWide f w → (i n z : ℕ) → z ≡ w → i < n → IsPlace f w i n z
wide_place two_bytes i n z e h = rw e (record { inside = omega arith; low = omega arith })
wide_place four_bytes i n z e h = rw e (record { inside = omega arith; low = omega arith })

pub wide_some : {f : Profile} {w : ℕ} → IsWide f w → 0 < symbol_size f
wide_some two_bytes = omega arith
wide_some four_bytes = omega arith

-- the symbols of bytes are below q
pub wide_below : {f : Profile} {w : ℕ} → IsWide f w → (s : List ℕ) → Below 256 s → Below (highest f) (symbols_of (symbol_size f) s)
wide_below two_bytes s low = symbols_below 2 s low
wide_below four_bytes s low = symbols_below 4 s low

-- the number of the bytes of symbol i, as they are read
pub read_size : {f : Profile} {w : ℕ} → IsWide f w → (z : ℕ) → z ≡ w → (bytes : List ℕ) (i : ℕ)
    → number_of (take w (drop (i * z) bytes)) ≡ number_of (take (symbol_size f) (drop (i * symbol_size f) bytes))
read_size two_bytes z e bytes i = rw e refl
read_size four_bytes z e bytes i = rw e refl

-- symbols read from the front: one more, and all
module _ {S : Type 0} {number : S → ℕ} {numbers : List S → List ℕ} (n : IsNumbers number numbers) {f : Profile} {w : ℕ} (wide : IsWide f w) (bytes : List ℕ) (s : List S) (size : length bytes ≡ length s * symbol_size f) (i : ℕ) (e : take i (numbers s) ≡ take i (symbols_of (symbol_size f) bytes)) where
  pub read_more : (v : S) (z : ℕ) → z ≡ w → i < length s → number v ≡ number_of (take w (drop (i * z) bytes)) → take (i + 1) (numbers (set s i v)) ≡ take (i + 1) (symbols_of (symbol_size f) bytes)
  read_more v z y h g =
      ap (take (i + 1)) (numbers_set n s i v)
      ∙ symbol_more (symbol_size f) (wide_some wide) (length s) bytes size (numbers s) i (number v) (numbers_length n s) h e (g ∙ read_size wide z y bytes i)

  pub read_all : length s ≤ i → numbers s ≡ symbols_of (symbol_size f) bytes
  read_all h =
      sym (take_all i (numbers s) (omega (arith, numbers_length n s))) ∙ e
      ∙ take_all i (symbols_of (symbol_size f) bytes) (omega (arith, symbols_length (symbol_size f) (wide_some wide) (length s) bytes size))

-- symbols written from the front: one more, and all
bytes_append : (w : ℕ) (xs ys : List ℕ) → symbol_bytes w (xs ++ ys) ≡ symbol_bytes w xs ++ symbol_bytes w ys
unfolding symbol_bytes
bytes_append w [] ys = refl
bytes_append w (x ∷ xs) ys = ap (λ (l : List ℕ). bytes_in w x ++ l) (bytes_append w xs ys) ∙ sym (append_assoc (bytes_in w x) (symbol_bytes w xs) (symbol_bytes w ys))

bytes_one : (w x : ℕ) → symbol_bytes w (x ∷ []) ≡ bytes_in w x
unfolding symbol_bytes
bytes_one w x = append-nil (bytes_in w x)

bytes_front : (w : ℕ) (xs : List ℕ) (i : ℕ) → i < length xs → symbol_bytes w (take (i + 1) xs) ≡ symbol_bytes w (take i xs) ++ bytes_in w (get_or xs i 0)
bytes_front w xs i h =
    ap (λ (m : ℕ). symbol_bytes w (take m xs)) (add-one i)
    ∙ ap (symbol_bytes w) (take-suc xs i 0 h)
    ∙ bytes_append w (take i xs) (get_or xs i 0 ∷ [])
    ∙ ap (λ (l : List ℕ). symbol_bytes w (take i xs) ++ l) (bytes_one w (get_or xs i 0))

set_front : (w : ℕ) (bytes bs : List ℕ) (i n : ℕ) → length bs ≡ w → length bytes ≡ n * w → i < n → take ((i + 1) * w) (sets bytes (i * w) bs) ≡ take (i * w) bytes ++ bs
set_front w bytes bs i n l size h =
    let room : i * w + w ≤ length bytes = omega (arith, mul-le-mul_right w (let z : suc i ≤ n = omega arith in z), suc-mul i w) in
    let len : length (take (i * w) bytes ++ bs) ≡ (i + 1) * w = length-append (take (i * w) bytes) bs ∙ omega (arith, l, length-take-le (i * w) bytes (omega arith)) in
    ap (take ((i + 1) * w)) (sets-eq bs bytes (i * w) (omega arith)) ∙ take_at (take (i * w) bytes ++ bs) (drop (i * w + length bs) bytes) ((i + 1) * w) len

module _ {f : Profile} {w : ℕ} (wide : IsWide f w) (symbols bytes : List ℕ) (size : length bytes ≡ length symbols * symbol_size f) (i : ℕ)
    (e : take (i * symbol_size f) bytes ≡ symbol_bytes (symbol_size f) (take i symbols)) where
  pub write_more : (v z : ℕ) (x : List ℕ) → z ≡ w → i < length symbols → v ≡ get_or symbols i 0 → x ≡ sets bytes (i * z) (bytes_in w v)
      → take ((i + 1) * symbol_size f) x ≡ symbol_bytes (symbol_size f) (take (i + 1) symbols)
  write_more v z x y h g k =
      let m = symbol_size f in
      let p : z ≡ m = y ∙ wide_size wide in
      let q : x ≡ sets bytes (i * m) (bytes_in m (get_or symbols i 0)) =
      k ∙ ap (λ (a : ℕ). sets bytes (i * a) (bytes_in w v)) p ∙ ap (λ (a : ℕ). sets bytes (i * m) (bytes_in a v)) (wide_size wide)
      ∙ ap (λ (a : ℕ). sets bytes (i * m) (bytes_in m a)) g in
      ap (take ((i + 1) * m)) q
      ∙ set_front m bytes (bytes_in m (get_or symbols i 0)) i (length symbols) (bytes_length m (get_or symbols i 0)) size h
      ∙ ap (λ (l : List ℕ). l ++ bytes_in m (get_or symbols i 0)) e ∙ sym (bytes_front m symbols i h)

  pub write_all : length symbols ≤ i → bytes ≡ symbol_bytes (symbol_size f) symbols
  write_all h =
      let m = symbol_size f in
      sym (take_all (i * m) bytes (omega (arith, mul-le-mul_right m h))) ∙ e ∙ ap (symbol_bytes m) (take_all i symbols h)
