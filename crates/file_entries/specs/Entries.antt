-- The struct of an entry, and its bytes one by one.
use Rattle.std.specs.Prelude.{◌≡◌, refl, Bool, true, false, List, [], ◌∷◌, ◌++◌, ℕ, suc, ◌+◌, ◌*◌, ◌%◌, ◌<◌, ◌≤◌, leb, length, get_or, set, take, drop}
use Rattle.std.proofs.Common.{ap, sym, ◌∙◌, arith, length-drop, length-take-le, drop-cons, drop-drop, take-add, le-leb, eq-eqb}
use Rattle.std.proofs.lemmas.List.Edits.{sets}
use Rattle.model.specs.Bytes.{word_of, number_of, bytes_in}
use Rattle.theory.specs.Answers.{within_make}
use Rattle.theory.specs.WideBytes.{word_bytes}
use Rattle.model.specs.Files.{number_at, entry_of, entry_bytes, contents_end, entry_at, entry_fits}
use Rattle.model.specs.Files as format
use Rattle.theory.specs.FileBytes.{Fits, entry-fits}
use Rattle.file_entries.specs.declared.Entry.{Entry}

-- the struct of an entry, and the entry of a struct
abbrev pub entry_from : format.Entry → Entry
entry_from e = record { number = e.number; top = e.top; offset = e.offset; size = e.size }

abbrev pub entry_in : Entry → format.Entry
entry_in e = record { number = e.number; top = e.top; offset = e.offset; size = e.size }

-- the number in two bytes and in four
pub two_bytes : (s : List ℕ) (i : ℕ) → i + 2 ≤ length s → number_at s i 2 ≡ get_or s i 0 + 256 * get_or s (i + 1) 0
unfolding number_of
two_bytes s i h =
    let a : drop i s ≡ get_or s i 0 ∷ drop (suc i) s = drop-cons s i 0 (omega arith) in
    let b : drop (suc i) s ≡ get_or s (suc i) 0 ∷ drop (suc (suc i)) s = drop-cons s (suc i) 0 (omega arith) in
    ap (λ (l : List ℕ). number_of (take 2 l)) (a ∙ ap (λ (l : List ℕ). get_or s i 0 ∷ l) b)
    ∙ (let z : get_or s i 0 + 256 * (get_or s (suc i) 0 + 256 * 0) ≡ get_or s i 0 + 256 * get_or s (suc i) 0 = omega arith in z)
    ∙ ap (λ (k : ℕ). get_or s i 0 + 256 * get_or s k 0) (let z : suc i ≡ i + 1 = omega arith in z)

value_two : (xs ys : List ℕ) → length xs ≡ 2 → number_of (xs ++ ys) ≡ number_of xs + 65536 * number_of ys
unfolding number_of
value_two [] ys h = absurd (omega arith)
value_two (a ∷ []) ys h = absurd (omega arith)
value_two (a ∷ b ∷ []) ys h = omega arith
value_two (a ∷ b ∷ c ∷ xs) ys h = absurd (omega arith)

pub four_bytes : (s : List ℕ) (i : ℕ) → i + 4 ≤ length s → number_at s i 4 ≡ number_at s i 2 + 65536 * number_at s (i + 2) 2
four_bytes s i h =
    ap number_of (take-add 2 2 (drop i s)) ∙ value_two (take 2 (drop i s)) (take 2 (drop 2 (drop i s))) (length-take-le 2 (drop i s) (simp length-drop (omega arith)))
    ∙ ap (λ (l : List ℕ). number_at s i 2 + 65536 * number_of (take 2 l)) (drop-drop 2 i s)

one_byte : (s : List ℕ) (i : ℕ) → i < length s → number_at s i 1 ≡ get_or s i 0
unfolding number_of
one_byte s i h = ap (λ (l : List ℕ). number_of (take 1 l)) (drop-cons s i 0 h) ∙ (let z : get_or s i 0 + 256 * 0 ≡ get_or s i 0 = omega arith in z)

part_number : (s : List ℕ) (start i width : ℕ) → number_at (drop start s) i width ≡ number_at s (start + i) width
part_number s start i width = ap (λ (l : List ℕ). number_of (take width l)) (drop-drop i start s)

entry_struct : (file : List ℕ) (place : ℕ) → contents_end place + 11 ≤ length file → {n t o s : ℕ}
    → n ≡ number_at file (contents_end place) 2 → t ≡ get_or file (contents_end place + 2) 0 → o ≡ number_at file (contents_end place + 3) 4 → s ≡ number_at file (contents_end place + 7) 4
    → ◌≡◌ {A = Entry} (record { number = n; top = t; offset = o; size = s }) (entry_from (entry_at file place))
unfolding entry_at entry_of
entry_struct file place h a b c d =
    let b' = b ∙ sym (part_number file (contents_end place) 2 1 ∙ one_byte file (contents_end place + 2) (omega arith)) in
    let c' = c ∙ sym (part_number file (contents_end place) 3 4) in
    let d' = d ∙ sym (part_number file (contents_end place) 7 4) in
    λ i. record { number = a i; top = b' i; offset = c' i; size = d' i }

-- with the start as it was worked out
pub entry-from : (file : List ℕ) (place start : ℕ) → start ≡ contents_end place → contents_end place + 11 ≤ length file → {n t o s : ℕ}
    → n ≡ number_at file start 2 → t ≡ get_or file (start + 2) 0 → o ≡ number_at file (start + 3) 4 → s ≡ number_at file (start + 7) 4
    → ◌≡◌ {A = Entry} (record { number = n; top = t; offset = o; size = s }) (entry_from (entry_at file place))
entry-from file place start e h a b c d =
    entry_struct file place h (a ∙ ap (λ (k : ℕ). number_at file k 2) e) (b ∙ ap (λ (k : ℕ). get_or file (k + 2) 0) e)
    (c ∙ ap (λ (k : ℕ). number_at file (k + 3) 4) e) (d ∙ ap (λ (k : ℕ). number_at file (k + 7) 4) e)

-- ---- an entry's rules

pub not_fits : (least start end : ℕ) (e : format.Entry) → (Fits least start end e → ⊥) → entry_fits least start end e ≡ false
not_fits least start end e n = go (entry_fits least start end e) refl
  where
    go : (b : Bool) → entry_fits least start end e ≡ b → b ≡ false
    go true h = absurd (n (entry-fits least start end e h))
    go false h = refl

pub fits_last : (least start end : ℕ) (e : format.Entry) → least ≤ e.number → 2 ≤ e.top → e.top ≤ 255 → 2 ≤ e.size → e.size ≤ 8192 → e.offset ≡ start
    → leb (e.offset + e.size) end ≡ entry_fits least start end e
unfolding entry_fits
fits_last least start end e a b c d f g =
    rw (le-leb least e.number a, within_make 2 255 e.top b c, within_make 2 8192 e.size d f, eq-eqb e.offset start g) refl

-- ---- an entry written

pub entry_put : (d : List ℕ) (i n t o s : ℕ)
    → sets (sets (set (sets d i (bytes_in 2 n)) (i + 2) (t % 256)) (i + 3) (word_of o)) (i + 7) (word_of s)
    ≡ sets d i (entry_bytes (record { number = n; top = t; offset = o; size = s }))
unfolding bytes_in entry_bytes
entry_put d i n t o s =
    let x : i + 2 ≡ suc (suc i) = omega arith in
    let y : i + 3 ≡ suc (suc (suc i)) = omega arith in
    let z : i + 7 ≡ suc (suc (suc (suc (suc (suc (suc i)))))) = omega arith in
    ap (λ (w : List ℕ). sets (sets (set (sets d i (bytes_in 2 n)) (i + 2) (t % 256)) (i + 3) w) (i + 7) (word_of s)) (word_bytes o)
    ∙ ap (λ (w : List ℕ). sets (sets (set (sets d i (bytes_in 2 n)) (i + 2) (t % 256)) (i + 3) (bytes_in 4 o)) (i + 7) w) (word_bytes s)
    ∙ rw (x, y, z) refl
