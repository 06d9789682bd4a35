-- Files of pages, law by law: bytes and entries there and back, the entries that lists give, and the rules of an entry.
use Rattle.std.specs.Prelude.{◌≡◌, refl, Bool, true, ◌&&◌, List, [], ◌∷◌, ◌++◌, ℕ, zero, suc, ◌+◌, ◌*◌, ◌<◌, ◌≤◌, eqb, leb, length, take, drop}
use Rattle.std.proofs.Common.{ap, sym, ◌∙◌, subst, arith, lit<, length-append, length-drop, length-take-le, take-add, drop-drop, get_or-drop, leb-true, eqb-true, le-leb, eq-eqb}
use Rattle.model.specs.Bytes.{bytes_in}
use Rattle.model.specs.Calls.{within}
use Rattle.model.specs.Symbols.{Below}
use Rattle.theory.specs.Answers.{and_true, within_facts, within_make}
use Rattle.theory.specs.Parts.{below_part}
use Rattle.theory.specs.WideBytes.{bytes_back}
use Rattle.model.specs.Files.{number_at, Entry, entry_of, entry_bytes, contents_end, entry_at, entries_from, numbers_of, tops_of, sizes_of, entry_fits, entries_fit, listed_from, contents_of}

-- ---- bytes

pub below_drop : (q n : ℕ) (bs : List ℕ) → Below q bs → Below q (drop n bs)
below_drop q n bs h i = subst (λ v. v < q) (sym (get_or-drop n bs i 0)) (h (n + i))

-- the bytes at a place, read and written again
pub bytes_at : (bytes : List ℕ) (start width : ℕ) → Below 256 bytes → start + width ≤ length bytes → bytes_in width (number_at bytes start width) ≡ take width (drop start bytes)
bytes_at bytes start width h fits =
    let l : length (take width (drop start bytes)) ≡ width = length-take-le width (drop start bytes) (simp length-drop (omega arith)) in
    subst (λ w. bytes_in w (number_at bytes start width) ≡ take width (drop start bytes)) l
    (bytes_back (take width (drop start bytes)) (below_part 256 (lit< tt) start width bytes h))

-- ---- one entry

pub record Small (e : Entry) : Type 0 where
  pub number_small : e.number < 65536
  pub top_small : e.top < 256
  pub offset_small : e.offset < 4294967296
  pub size_small : e.size < 4294967296

pub length_entry : (e : Entry) → length (entry_bytes e) ≡ 11
unfolding entry_bytes bytes_in
length_entry e = refl

pub entry_same : (e : Entry) {n t o s : ℕ} → n ≡ e.number → t ≡ e.top → o ≡ e.offset → s ≡ e.size → ◌≡◌ {A = Entry} (record { number = n; top = t; offset = o; size = s }) e
entry_same e a b c d = λ i. record { number = a i; top = b i; offset = c i; size = d i }

pub entry_written : (bytes : List ℕ) → Below 256 bytes → 11 ≤ length bytes → entry_bytes (entry_of bytes) ≡ take 11 bytes
unfolding entry_bytes entry_of
entry_written bytes h fits = rw (bytes_at bytes 0 2 h (omega arith), bytes_at bytes 2 1 h (omega arith), bytes_at bytes 3 4 h (omega arith), bytes_at bytes 7 4 h (omega arith)) (sym parts)
  where
    parts : take 11 bytes ≡ take 2 bytes ++ (take 1 (drop 2 bytes) ++ (take 4 (drop 3 bytes) ++ take 4 (drop 7 bytes)))
    parts = take-add 2 9 bytes ∙ ap (λ (l : List ℕ). take 2 bytes ++ l) (take-add 1 8 (drop 2 bytes)
        ∙ ap (λ (l : List ℕ). take 1 (drop 2 bytes) ++ l) (ap (λ (l : List ℕ). take 8 l) (drop-drop 1 2 bytes) ∙ take-add 4 4 (drop 3 bytes)
        ∙ ap (λ (l : List ℕ). take 4 (drop 3 bytes) ++ take 4 l) (drop-drop 4 3 bytes)))

-- ---- the contents

abbrev pub AllSmall : List Entry → Type 0
AllSmall [] = Unit {0}
AllSmall (e ∷ es) = Small e × AllSmall es

pub length_contents : (es : List Entry) → length (contents_of es) ≡ 11 * length es
unfolding contents_of
length_contents [] = refl
length_contents (e ∷ es) = length-append (entry_bytes e) (contents_of es) ∙ omega (arith, length_entry e, length_contents es)

pub contents_written : (file : List ℕ) (n place : ℕ) → Below 256 file → contents_end (place + n) ≤ length file
    → contents_of (entries_from file place n) ≡ take (11 * n) (drop (contents_end place) file)
unfolding entries_from contents_of entry_at
contents_written file zero place h fits = refl
contents_written file (suc n) place h fits =
    let here : entry_bytes (entry_of (drop (contents_end place) file)) ≡ take 11 (drop (contents_end place) file) =
    entry_written (drop (contents_end place) file) (below_drop 256 (contents_end place) file h) (simp length-drop (omega arith)) in
    let next : drop 11 (drop (contents_end place) file) ≡ drop (contents_end (suc place)) file =
    drop-drop 11 (contents_end place) file ∙ ap (λ (k : ℕ). drop k file) (let z : contents_end place + 11 ≡ contents_end (suc place) = omega arith in z) in
    let size : 11 * suc n ≡ 11 + 11 * n = omega arith in
    ap (λ (l : List ℕ). l ++ contents_of (entries_from file (suc place) n)) here
    ∙ ap (λ (l : List ℕ). take 11 (drop (contents_end place) file) ++ l) (contents_written file n (suc place) h (omega arith) ∙ ap (λ (l : List ℕ). take (11 * n) l) (sym next))
    ∙ sym (take-add 11 (11 * n) (drop (contents_end place) file)) ∙ ap (λ (k : ℕ). take k (drop (contents_end place) file)) (sym size)

-- ---- the entries that lists give

pub length_listed : (start : ℕ) (ns ts ss : List ℕ) → length ts ≡ length ns → length ss ≡ length ns → length (listed_from start ns ts ss) ≡ length ns
unfolding listed_from
length_listed start [] ts ss a b = refl
length_listed start (n ∷ ns) [] ss a b = absurd (omega arith)
length_listed start (n ∷ ns) (t ∷ ts) [] a b = absurd (omega arith)
length_listed start (n ∷ ns) (t ∷ ts) (s ∷ ss) a b = ap suc (length_listed (start + s) ns ts ss (omega arith) (omega arith))

pub numbers_listed : (start : ℕ) (ns ts ss : List ℕ) → length ts ≡ length ns → length ss ≡ length ns → numbers_of (listed_from start ns ts ss) ≡ ns
unfolding listed_from
numbers_listed start [] ts ss a b = refl
numbers_listed start (n ∷ ns) [] ss a b = absurd (omega arith)
numbers_listed start (n ∷ ns) (t ∷ ts) [] a b = absurd (omega arith)
numbers_listed start (n ∷ ns) (t ∷ ts) (s ∷ ss) a b = ap (λ (l : List ℕ). n ∷ l) (numbers_listed (start + s) ns ts ss (omega arith) (omega arith))

pub tops_listed : (start : ℕ) (ns ts ss : List ℕ) → length ts ≡ length ns → length ss ≡ length ns → tops_of (listed_from start ns ts ss) ≡ ts
unfolding listed_from
tops_listed start [] [] ss a b = refl
tops_listed start [] (t ∷ ts) ss a b = absurd (omega arith)
tops_listed start (n ∷ ns) [] ss a b = absurd (omega arith)
tops_listed start (n ∷ ns) (t ∷ ts) [] a b = absurd (omega arith)
tops_listed start (n ∷ ns) (t ∷ ts) (s ∷ ss) a b = ap (λ (l : List ℕ). t ∷ l) (tops_listed (start + s) ns ts ss (omega arith) (omega arith))

pub sizes_listed : (start : ℕ) (ns ts ss : List ℕ) → length ts ≡ length ns → length ss ≡ length ns → sizes_of (listed_from start ns ts ss) ≡ ss
unfolding listed_from
sizes_listed start [] ts [] a b = refl
sizes_listed start [] ts (s ∷ ss) a b = absurd (omega arith)
sizes_listed start (n ∷ ns) [] ss a b = absurd (omega arith)
sizes_listed start (n ∷ ns) (t ∷ ts) [] a b = absurd (omega arith)
sizes_listed start (n ∷ ns) (t ∷ ts) (s ∷ ss) a b = ap (λ (l : List ℕ). s ∷ l) (sizes_listed (start + s) ns ts ss (omega arith) (omega arith))

-- ---- the rules

pub and_make : (a b : Bool) → a ≡ true → b ≡ true → (a && b) ≡ true
and_make a b p q = rw (p, q) refl

-- one entry's rules
pub record Fits (least start end : ℕ) (e : Entry) : Type 0 where
  pub rising : least ≤ e.number
  pub top_low : 2 ≤ e.top
  pub top_high : e.top ≤ 255
  pub size_low : 2 ≤ e.size
  pub size_high : e.size ≤ 8192
  pub next : e.offset ≡ start
  pub inside : e.offset + e.size ≤ end

pub entry-fits : (least start end : ℕ) (e : Entry) → entry_fits least start end e ≡ true → Fits least start end e
unfolding entry_fits
entry-fits least start end e h =
    let a = and_true (leb least e.number) _ h in
    let b = and_true (within 2 255 e.top) _ a.1 in
    let c = and_true (within 2 8192 e.size) _ b.1 in
    let d = and_true (eqb e.offset start) _ c.1 in
    record {
      rising = leb-true least e.number a.0;
      top_low = (within_facts 2 255 e.top b.0).0;
      top_high = (within_facts 2 255 e.top b.0).1;
      size_low = (within_facts 2 8192 e.size c.0).0;
      size_high = (within_facts 2 8192 e.size c.0).1;
      next = eqb-true e.offset start d.0;
      inside = leb-true (e.offset + e.size) end d.1;
    }

pub fits_entry : (least start end : ℕ) (e : Entry) → Fits least start end e → entry_fits least start end e ≡ true
unfolding entry_fits
fits_entry least start end e f =
    and_make _ _ (le-leb least e.number f.rising) (and_make _ _ (within_make 2 255 e.top f.top_low f.top_high)
    (and_make _ _ (within_make 2 8192 e.size f.size_low f.size_high) (and_make _ _ (eq-eqb e.offset start f.next) (le-leb (e.offset + e.size) end f.inside))))

pub fit_cons : (least start end : ℕ) (e : Entry) (es : List Entry) → entries_fit least start end (e ∷ es) ≡ true
    → Fits least start end e × (entries_fit (suc e.number) (e.offset + e.size) end es ≡ true)
unfolding entries_fit
fit_cons least start end e es h = let a = and_true (entry_fits least start end e) _ h in (entry-fits least start end e a.0, a.1)

-- entries that fit are those that their own lists give
pub listed_again : (least start end : ℕ) (es : List Entry) → entries_fit least start end es ≡ true → listed_from start (numbers_of es) (tops_of es) (sizes_of es) ≡ es
unfolding listed_from
listed_again least start end [] h = refl
listed_again least start end (e ∷ es) h =
    let f = fit_cons least start end e es h in
    let ih : listed_from (start + e.size) (numbers_of es) (tops_of es) (sizes_of es) ≡ es =
    ap (λ (s : ℕ). listed_from (s + e.size) (numbers_of es) (tops_of es) (sizes_of es)) (sym f.0.next) ∙ listed_again (suc e.number) (e.offset + e.size) end es f.1 in
    let here : ◌≡◌ {A = Entry} (record { number = e.number; top = e.top; offset = start; size = e.size }) e = entry_same e refl refl (sym f.0.next) refl in
    ap (λ (x : Entry). x ∷ listed_from (start + e.size) (numbers_of es) (tops_of es) (sizes_of es)) here ∙ ap (λ (l : List Entry). e ∷ l) ih

pub fit_small : (least start end : ℕ) (es : List Entry) → end ≤ 65536 → Below 65536 (numbers_of es) → entries_fit least start end es ≡ true → AllSmall es
fit_small least start end [] short h fit = tt
fit_small least start end (e ∷ es) short h fit =
    let f = fit_cons least start end e es fit in
    let n : e.number < 65536 = h 0 in (
      record { number_small = n; top_small = omega arith; offset_small = omega arith; size_small = omega arith },
      fit_small (suc e.number) (e.offset + e.size) end es short (λ i. h (suc i)) f.1,
    )
