-- The writer's lists, one turn of each of its loops, and its answers.
use Rattle.std.specs.Prelude.{◌≡◌, Bool, true, false, ◌&&◌, List, [], ◌∷◌, ◌++◌, eqb, leb, length, take, drop, set}
use Rattle.std.proofs.Math.Path.{refl, ap}
use Rattle.std.proofs.Common.{sym, ◌∙◌, append_assoc, length-append, drop_of_length-le, drop-cons, drop-drop, ne_eqb, leb-true, leb-false, eqb-true, le-leb, eq-eqb}
use Prim.Native.Nat.{ℕ, suc, ◌+◌, ◌-◌, ◌*◌, ◌<◌, ◌≤◌}
use native.Mathlib.Omega.{arith}
use Rattle.std.proofs.Math.ListN.{get_or}
use Rattle.std.proofs.lemmas.List.Edits.{sets, sets-eq}
use borrow.Rule.Slice.PartMut.{put_mid, Post-is}
use Rattle.std.proofs.lemmas.Bool.{eqb-false, lt-leb}
use Rattle.model.specs.Bytes.{bytes_in}
use Rattle.model.specs.Calls.{first_that_applies, within, all_below, Outcome}
use Rattle.theory.specs.Answers.{and_true, passed_by, refused_by, nothing_applies, within_facts, within_make}
use Rattle.theory.specs.Outcomes.{left_as_lent, left_as_done}
use Rattle.model.specs.Files.{entry_bytes, contents_end, contents_of, total, entry_fits, entries_fit, symbols_fit, Listing, listed_from, page_count, listed, file_of, file_length, lists_agree, write_tests, write_answer, Written, filled, write_outcome}
use Rattle.model.specs.Files as format
use Rattle.theory.specs.FileBytes.{and_make, length_contents, length_listed, length_entry}
use Rattle.theory.proofs.Files.{write_taken}

-- no symbol of the bodies joined is above its q − 1, by the lists
unfoldable pub symbols_listed : List ℕ → List ℕ → List ℕ → Bool
symbols_listed [] ss bodies = true
symbols_listed (t ∷ ts) [] bodies = true
symbols_listed (t ∷ ts) (s ∷ ss) bodies = all_below (suc t) (take s bodies) && symbols_listed ts ss (drop s bodies)

pub symbols-listed : (start : ℕ) (ns ts ss bodies : List ℕ) → length ts ≡ length ns → length ss ≡ length ns → symbols_fit (listed_from start ns ts ss) bodies ≡ symbols_listed ts ss bodies
unfolding symbols_fit listed_from symbols_listed
symbols-listed start [] [] ss bodies a b = refl
symbols-listed start [] (t ∷ ts) ss bodies a b = absurd (omega arith)
symbols-listed start (n ∷ ns) [] ss bodies a b = absurd (omega arith)
symbols-listed start (n ∷ ns) (t ∷ ts) [] bodies a b = absurd (omega arith)
symbols-listed start (n ∷ ns) (t ∷ ts) (s ∷ ss) bodies a b =
    ap (λ (r : Bool). all_below (suc t) (take s bodies) && r) (symbols-listed (start + s) ns ts ss (drop s bodies) (omega arith) (omega arith))

-- ---- turns

drop_turn : (l : List ℕ) (i : ℕ) → i < length l → drop i l ≡ get_or l i 0 ∷ drop (i + 1) l
drop_turn l i h = drop-cons l i 0 h ∙ ap (λ (k : ℕ). get_or l i 0 ∷ drop k l) (let z : suc i ≡ i + 1 = omega arith in z)

pub total_turn : (ss : List ℕ) (i : ℕ) → i < length ss → total (drop i ss) ≡ get_or ss i 0 + total (drop (i + 1) ss)
unfolding total
total_turn ss i h = ap total (drop_turn ss i h)

pub total_end : (ss : List ℕ) (i : ℕ) → length ss ≤ i → total (drop i ss) ≡ 0
unfolding total
total_end ss i h = ap total (drop_of_length-le ss h)

listed_turn : (start : ℕ) (ns ts ss : List ℕ) (i : ℕ) → length ts ≡ length ns → length ss ≡ length ns → i < length ns
    → listed_from start (drop i ns) (drop i ts) (drop i ss)
    ≡ record { number = get_or ns i 0; top = get_or ts i 0; offset = start; size = get_or ss i 0 } ∷ listed_from (start + get_or ss i 0) (drop (i + 1) ns) (drop (i + 1) ts) (drop (i + 1) ss)
unfolding listed_from
listed_turn start ns ts ss i a b h =
    ap (λ (l : List ℕ). listed_from start l (drop i ts) (drop i ss)) (drop_turn ns i h)
    ∙ ap (λ (l : List ℕ). listed_from start (get_or ns i 0 ∷ drop (i + 1) ns) l (drop i ss)) (drop_turn ts i (omega arith))
    ∙ ap (λ (l : List ℕ). listed_from start (get_or ns i 0 ∷ drop (i + 1) ns) (get_or ts i 0 ∷ drop (i + 1) ts) l) (drop_turn ss i (omega arith))

listed_end : (start : ℕ) (ns ts ss : List ℕ) (i : ℕ) → length ns ≤ i → listed_from start (drop i ns) (drop i ts) (drop i ss) ≡ []
unfolding listed_from
listed_end start ns ts ss i h = ap (λ (l : List ℕ). listed_from start l (drop i ts) (drop i ss)) (drop_of_length-le ns h)

-- the entry that the lists give at a place
abbrev pub entry_here : ℕ → ℕ → ℕ → ℕ → format.Entry
entry_here n t start s = record { number = n; top = t; offset = start; size = s }

module _ (ns ts ss : List ℕ) (a : length ts ≡ length ns) (b : length ss ≡ length ns) (i : ℕ) (h : i < length ns) where
  pub fit_turn : (least start end : ℕ) → entry_fits least start end (entry_here (get_or ns i 0) (get_or ts i 0) start (get_or ss i 0)) ≡ true
      → entries_fit least start end (listed_from start (drop i ns) (drop i ts) (drop i ss))
      ≡ entries_fit (get_or ns i 0 + 1) (start + get_or ss i 0) end (listed_from (start + get_or ss i 0) (drop (i + 1) ns) (drop (i + 1) ts) (drop (i + 1) ss))
  unfolding entries_fit
  fit_turn least start end f =
      let z : suc (get_or ns i 0) ≡ get_or ns i 0 + 1 = omega arith in
      ap (entries_fit least start end) (listed_turn start ns ts ss i a b h) ∙ rw (f, z) refl

  pub fit_stop : (least start end : ℕ) → entry_fits least start end (entry_here (get_or ns i 0) (get_or ts i 0) start (get_or ss i 0)) ≡ false
      → entries_fit least start end (listed_from start (drop i ns) (drop i ts) (drop i ss)) ≡ false
  unfolding entries_fit
  fit_stop least start end f = ap (entries_fit least start end) (listed_turn start ns ts ss i a b h) ∙ rw f refl

  pub contents_turn : (start : ℕ) → contents_of (listed_from start (drop i ns) (drop i ts) (drop i ss))
      ≡ entry_bytes (entry_here (get_or ns i 0) (get_or ts i 0) start (get_or ss i 0)) ++ contents_of (listed_from (start + get_or ss i 0) (drop (i + 1) ns) (drop (i + 1) ts) (drop (i + 1) ss))
  unfolding contents_of
  contents_turn start = ap contents_of (listed_turn start ns ts ss i a b h)

pub fit_end : (ns ts ss : List ℕ) (i least start end : ℕ) → length ns ≤ i → entries_fit least start end (listed_from start (drop i ns) (drop i ts) (drop i ss)) ≡ true
unfolding entries_fit
fit_end ns ts ss i least start end h = ap (entries_fit least start end) (listed_end start ns ts ss i h)

pub contents-end : (ns ts ss : List ℕ) (i start : ℕ) → length ns ≤ i → contents_of (listed_from start (drop i ns) (drop i ts) (drop i ss)) ≡ []
unfolding contents_of
contents-end ns ts ss i start h = ap contents_of (listed_end start ns ts ss i h)

pub symbols_turn : (ts ss bodies : List ℕ) (start i : ℕ) → length ss ≡ length ts → i < length ts
    → symbols_listed (drop i ts) (drop i ss) (drop start bodies)
    ≡ (all_below (get_or ts i 0 + 1) (take (get_or ss i 0) (drop start bodies)) && symbols_listed (drop (i + 1) ts) (drop (i + 1) ss) (drop (start + get_or ss i 0) bodies))
unfolding symbols_listed
symbols_turn ts ss bodies start i a h =
    let z : suc (get_or ts i 0) ≡ get_or ts i 0 + 1 = omega arith in
    ap (λ (l : List ℕ). symbols_listed l (drop i ss) (drop start bodies)) (drop_turn ts i h)
    ∙ ap (λ (l : List ℕ). symbols_listed (get_or ts i 0 ∷ drop (i + 1) ts) l (drop start bodies)) (drop_turn ss i (omega arith))
    ∙ rw (z, drop-drop (get_or ss i 0) start bodies) refl

pub symbols_end : (ts ss bodies : List ℕ) (start i : ℕ) → length ts ≤ i → symbols_listed (drop i ts) (drop i ss) (drop start bodies) ≡ true
unfolding symbols_listed
symbols_end ts ss bodies start i h = ap (λ (l : List ℕ). symbols_listed l (drop i ss) (drop start bodies)) (drop_of_length-le ts h)

-- ---- stores one after the other

pub sets_append : (xs ys l : List ℕ) (i : ℕ) → sets (sets l i xs) (i + length xs) ys ≡ sets l i (xs ++ ys)
sets_append [] ys l i = ap (λ (k : ℕ). sets l k ys) (let z : i + 0 ≡ i = omega arith in z)
sets_append (x ∷ xs) ys l i = ap (λ (k : ℕ). sets (sets (set l i x) (suc i) xs) k ys) (let z : i + suc (length xs) ≡ suc i + length xs = omega arith in z) ∙ sets_append xs ys (set l i x) (suc i)

pub leb_iff : (a b c d : ℕ) → (a ≤ b → c ≤ d) → (c ≤ d → a ≤ b) → leb a b ≡ leb c d
leb_iff a b c d f g = go (leb c d) refl
  where
    go : (t : Bool) → leb c d ≡ t → leb a b ≡ t
    go true e = le-leb a b (g (leb-true c d e))
    go false e = lt-leb a b (let n : (a ≤ b → ⊥) = (λ h. absurd (omega (arith, leb-false c d e, f h))) in omega (arith, n))

pub eqb_iff : (a b c d : ℕ) → (a ≡ b → c ≡ d) → (c ≡ d → a ≡ b) → eqb a b ≡ eqb c d
eqb_iff a b c d f g = go (eqb c d) refl
  where
    go : (t : Bool) → eqb c d ≡ t → eqb a b ≡ t
    go true e = eq-eqb a b (g (eqb-true c d e))
    go false e = ne_eqb a b (λ q. eqb-false c d e (f q))

module _ (ns ts ss : List ℕ) (a : length ts ≡ length ns) (b : length ss ≡ length ns) (i : ℕ) (h : i < length ns) where
  pub fit_turn' : (least start end n t s : ℕ) → n ≡ get_or ns i 0 → t ≡ get_or ts i 0 → s ≡ get_or ss i 0
      → entry_fits least start end (entry_here n t start s) ≡ true
      → entries_fit least start end (listed_from start (drop i ns) (drop i ts) (drop i ss))
      ≡ entries_fit (n + 1) (start + s) end (listed_from (start + s) (drop (i + 1) ns) (drop (i + 1) ts) (drop (i + 1) ss))
  fit_turn' least start end n t s p q r = rw (p, q, r) (fit_turn ns ts ss a b i h least start end)

  pub fit_stop' : (least start end n t s : ℕ) → n ≡ get_or ns i 0 → t ≡ get_or ts i 0 → s ≡ get_or ss i 0
      → entry_fits least start end (entry_here n t start s) ≡ false
      → entries_fit least start end (listed_from start (drop i ns) (drop i ts) (drop i ss)) ≡ false
  fit_stop' least start end n t s p q r = rw (p, q, r) (fit_stop ns ts ss a b i h least start end)

  pub contents_turn' : (start n t s : ℕ) → n ≡ get_or ns i 0 → t ≡ get_or ts i 0 → s ≡ get_or ss i 0
      → contents_of (listed_from start (drop i ns) (drop i ts) (drop i ss))
      ≡ entry_bytes (entry_here n t start s) ++ contents_of (listed_from (start + s) (drop (i + 1) ns) (drop (i + 1) ts) (drop (i + 1) ss))
  contents_turn' start n t s p q r = rw (p, q, r) (contents_turn ns ts ss a b i h start)

pub put_turn : (d : List ℕ) (i start : ℕ) → start ≡ contents_end i → (e : format.Entry) (rest : List ℕ)
    → sets (sets d start (entry_bytes e)) (contents_end (i + 1)) rest ≡ sets d (contents_end i) (entry_bytes e ++ rest)
put_turn d i start at e rest =
    let z : contents_end (i + 1) ≡ contents_end i + length (entry_bytes e) = omega (arith, length_entry e) in
    ap (λ (k : ℕ). sets (sets d k (entry_bytes e)) (contents_end (i + 1)) rest) at
    ∙ ap (λ (k : ℕ). sets (sets d (contents_end i) (entry_bytes e)) k rest) z ∙ sets_append (entry_bytes e) rest d (contents_end i)

-- ---- the writer's answers

-- 6 does not apply
pub record Agrees (l : Listing) (n : ℕ) : Type 0 where
  pub tops_agree : length l.tops ≡ length l.numbers
  pub sizes_agree : length l.sizes ≡ length l.numbers
  pub bodies_agree : total l.sizes ≡ length l.bodies
  pub room : contents_end (length l.numbers) + total l.sizes ≤ n

-- 13 does not apply
pub record Limits (l : Listing) : Type 0 where
  pub short : contents_end (length l.numbers) + total l.sizes ≤ 65536
  pub some : 1 ≤ length l.numbers
  pub few : length l.numbers ≤ 64

bool_case : {C : Type 0} (b : Bool) → (b ≡ true → C) → (b ≡ false → C) → C
bool_case true t f = t refl
bool_case false t f = f refl

agrees_test : (l : Listing) (n : ℕ) → Agrees l n → (lists_agree l && leb (file_length l) n) ≡ true
unfolding lists_agree file_length
agrees_test l n a =
    and_make _ _ (and_make _ _ (eq-eqb (length l.tops) (length l.numbers) a.tops_agree)
    (and_make _ _ (eq-eqb (length l.sizes) (length l.numbers) a.sizes_agree) (eq-eqb (total l.sizes) (length l.bodies) a.bodies_agree)))
    (le-leb (contents_end (length l.numbers) + total l.sizes) n a.room)

test_agrees : (l : Listing) (n : ℕ) → (lists_agree l && leb (file_length l) n) ≡ true → Agrees l n
unfolding lists_agree file_length
test_agrees l n e =
    let a = and_true (lists_agree l) _ e in
    let b = and_true (eqb (length l.tops) (length l.numbers)) _ a.0 in
    let c = and_true (eqb (length l.sizes) (length l.numbers)) _ b.1 in
    record {
      tops_agree = eqb-true (length l.tops) (length l.numbers) b.0;
      sizes_agree = eqb-true (length l.sizes) (length l.numbers) c.0;
      bodies_agree = eqb-true (total l.sizes) (length l.bodies) c.1;
      room = leb-true (contents_end (length l.numbers) + total l.sizes) n a.1;
    }

limits_test : (l : Listing) → Limits l → (leb (file_length l) 65536 && within 1 64 (page_count l)) ≡ true
unfolding file_length
limits_test l a = and_make _ _ (le-leb (contents_end (length l.numbers) + total l.sizes) 65536 a.short) (within_make 1 64 (length l.numbers) a.some a.few)

test_limits : (l : Listing) → (leb (file_length l) 65536 && within 1 64 (page_count l)) ≡ true → Limits l
unfolding file_length
test_limits l e =
    let a = and_true (leb (contents_end (length l.numbers) + total l.sizes) 65536) _ e in
    let b = within_facts 1 64 (length l.numbers) a.1 in
    record { short = leb-true (contents_end (length l.numbers) + total l.sizes) 65536 a.0; some = b.0; few = b.1 }

pub write_6 : (l : Listing) (n : ℕ) → (Agrees l n → ⊥) → write_answer true l n ≡ 6
unfolding write_answer write_tests
write_6 l n k = refused_by 6 (lists_agree l && leb (file_length l) n) _ (bool_case (lists_agree l && leb (file_length l) n) (λ e. absurd (k (test_agrees l n e))) (λ e. e))

-- the tests that a listing has passed
past_6 : (l : Listing) (n : ℕ) → Agrees l n → write_answer true l n ≡ first_that_applies (drop 1 (write_tests true l n))
unfolding write_answer write_tests
past_6 l n a = passed_by 6 _ _ (agrees_test l n a)

pub write_13 : (l : Listing) (n : ℕ) → Agrees l n → (Limits l → ⊥) → write_answer true l n ≡ 13
unfolding write_tests
write_13 l n a k = past_6 l n a
    ∙ refused_by 13 (leb (file_length l) 65536 && within 1 64 (page_count l)) _ (bool_case (leb (file_length l) 65536 && within 1 64 (page_count l)) (λ e. absurd (k (test_limits l e))) (λ e. e))

-- the test of the entries, for the file's end as it was worked out
abbrev pub fits_to : Listing → ℕ → Bool
fits_to l end = entries_fit 0 (contents_end (length l.numbers)) end (listed_from (contents_end (length l.numbers)) l.numbers l.tops l.sizes)

fit_known : (l : Listing) (end : ℕ) → end ≡ contents_end (length l.numbers) + total l.sizes → entries_fit 0 (contents_end (page_count l)) (file_length l) (listed l) ≡ fits_to l end
unfolding file_length listed
fit_known l end e = ap (fits_to l) (sym e)

symbols_known : (l : Listing) (n : ℕ) → Agrees l n → symbols_fit (listed l) l.bodies ≡ symbols_listed l.tops l.sizes l.bodies
unfolding listed
symbols_known l n a = symbols-listed (contents_end (length l.numbers)) l.numbers l.tops l.sizes l.bodies a.tops_agree a.sizes_agree

module _ (l : Listing) (n end : ℕ) (a : Agrees l n) (b : Limits l) (e : end ≡ contents_end (length l.numbers) + total l.sizes) where
  past_13 : write_answer true l n ≡ first_that_applies (drop 2 (write_tests true l n))
  unfolding write_tests
  past_13 = past_6 l n a ∙ passed_by 13 _ _ (limits_test l b)

  pub write_14 : fits_to l end ≡ false → write_answer true l n ≡ 14
  unfolding write_tests
  write_14 f = past_13 ∙ refused_by 14 _ _ (fit_known l end e ∙ f)

  pub write_15 : fits_to l end ≡ true → symbols_listed l.tops l.sizes l.bodies ≡ false → write_answer true l n ≡ 15
  unfolding write_tests
  write_15 f g = past_13 ∙ passed_by 14 _ _ (fit_known l end e ∙ f) ∙ refused_by 15 _ _ (symbols_known l n a ∙ g)

  pub write_0 : fits_to l end ≡ true → symbols_listed l.tops l.sizes l.bodies ≡ true → write_answer true l n ≡ 0
  unfolding write_tests
  write_0 f g = past_13 ∙ passed_by 14 _ _ (fit_known l end e ∙ f) ∙ passed_by 15 _ _ (symbols_known l n a ∙ g) ∙ nothing_applies

-- ---- what the writer leaves

pub write_agrees : (l : Listing) (n : ℕ) → write_answer true l n ≡ 0 → Agrees l n × Limits l
unfolding file_length
write_agrees l n e =
    let t = write_taken true l n e in (
      record { tops_agree = t.tops_agree; sizes_agree = t.sizes_agree; bodies_agree = t.bodies_agree; room = t.room },
      record { short = t.short; some = t.some; few = t.few },
    )

pub write_refused : (l : Listing) (output : List ℕ) (n : ℕ) → n ≡ write_answer true l (length output) → (n ≡ 0 → ⊥)
    → ◌≡◌ {A = Outcome (Written ℕ)} (record { number = n; left = record { size = 0; output = output } }) (write_outcome l output)
unfolding write_outcome
write_refused l output n e z = left_as_lent (write_answer true l (length output)) _ _ n e z

pub write_done : (l : Listing) (output final : List ℕ) (n size : ℕ) → n ≡ write_answer true l (length output) → n ≡ 0
    → size ≡ contents_end (length l.numbers) + total l.sizes → final ≡ file_of l ++ drop (contents_end (length l.numbers) + total l.sizes) output
    → ◌≡◌ {A = Outcome (Written ℕ)} (record { number = n; left = record { size = size; output = final } }) (write_outcome l output)
unfolding write_outcome file_length filled
write_done l output final n size e z s f = rw z (left_as_done (write_answer true l (length output)) _ _ _ (sym z ∙ e) (λ i. record { size = s i; output = f i }))

-- the count, the contents and the bodies stored one after the other
pub file_put : (l : Listing) (output : List ℕ) → Agrees l (length output)
    → sets (sets (sets output 0 (bytes_in 2 (length l.numbers))) 2 (contents_of (listed_from (contents_end (length l.numbers)) l.numbers l.tops l.sizes)))
    (contents_end (length l.numbers)) l.bodies
    ≡ file_of l ++ drop (contents_end (length l.numbers) + total l.sizes) output
unfolding file_of listed bytes_in
file_put l output a =
    let es = listed_from (contents_end (length l.numbers)) l.numbers l.tops l.sizes in
    let n : length (contents_of es) ≡ 11 * length l.numbers =
    length_contents es ∙ ap (λ (x : ℕ). 11 * x) (length_listed (contents_end (length l.numbers)) l.numbers l.tops l.sizes a.tops_agree a.sizes_agree) in
    let z : contents_end (length l.numbers) ≡ 2 + length (contents_of es) = omega arith in
    let all : length (bytes_in 2 (length l.numbers) ++ (contents_of es ++ l.bodies)) ≡ contents_end (length l.numbers) + total l.sizes =
    ap (λ (x : ℕ). suc (suc x)) (length-append (contents_of es) l.bodies) ∙ omega (arith, n, a.bodies_agree) in
    ap (λ (x : ℕ). sets (sets (sets output 0 (bytes_in 2 (length l.numbers))) 2 (contents_of es)) x l.bodies) z
    ∙ sets_append (contents_of es) l.bodies (sets output 0 (bytes_in 2 (length l.numbers))) 2
    ∙ sets_append (bytes_in 2 (length l.numbers)) (contents_of es ++ l.bodies) output 0
    ∙ sets-eq (bytes_in 2 (length l.numbers) ++ (contents_of es ++ l.bodies)) output 0 (omega (arith, all, a.room))
    ∙ ap (λ (x : ℕ). (bytes_in 2 (length l.numbers) ++ (contents_of es ++ l.bodies)) ++ drop x output)
    (let y : 0 + length (bytes_in 2 (length l.numbers) ++ (contents_of es ++ l.bodies)) ≡ contents_end (length l.numbers) + total l.sizes = omega (arith, all) in y)

-- the bodies copied over a part are the bodies stored from its start on
pub bodies_put : (s : ℕ) (d ys bs : List ℕ) → ys ≡ bs → s + length bs ≤ length d → put_mid s (s + length bs - s) d ys ≡ sets d s bs
bodies_put s d ys bs e h =
    ap (λ (l : List ℕ). put_mid s (s + length bs - s) d l) e
    ∙ ap (λ (l : List ℕ). take s d ++ (bs ++ l)) (Post-is s (s + length bs) d (omega arith))
    ∙ sym (append_assoc (take s d) bs (drop (s + length bs) d)) ∙ sym (sets-eq bs d s h)
