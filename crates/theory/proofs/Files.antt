-- "What the reader accepts is exactly what the writer can write, and each place of a written file reads back as the page number,
-- q − 1 and body listed there."
use Rattle.std.specs.Prelude.{◌≡◌, refl, Bool, false, ◌&&◌, ◌↔◌, ℕ, zero, suc, ◌+◌, ◌*◌, ◌<◌, ◌≤◌, eqb, ltb, leb}
use Rattle.std.proofs.Math.Path.{ap, sym}
use Rattle.std.proofs.Common.{◌∙◌, subst, lit<, drop_of_length-le, take_at, drop-drop, ltb-true, leb-true, eqb-true, lt-ltb, le-leb, eq-eqb}
use Rattle.std.proofs.Math.Bool.{true}
use mathlib.Core.List.{List, [], ◌∷◌, ◌++◌, map, append_assoc, append-nil}
use native.Mathlib.Omega.{arith}
use Rattle.std.proofs.Math.ListN.{length, get_or, take, drop, length-append, length-drop, take-append-drop}
use Rattle.std.proofs.Math.Seq.{drop_at}
use Rattle.model.specs.Bytes.{number_of, bytes_in}
use Rattle.model.specs.Calls.{within, Outcome, outcome}
use Rattle.model.specs.Symbols.{choose, Below}
use Rattle.model.specs.Files.{Entry, entry_of, count_of, contents_end, entry_at, entries_from, entries_of, bodies_in, numbers_of, tops_of, sizes_of, total, entries_fit, symbols_fit, read_tests, read_answer, no_entry, part_of, read_outcome, read_body, Listing, listed_from, page_count, listed, contents_of, file_of, file_length, lists_agree, write_tests, write_answer, Written, filled, write_outcome, Writable, start_listed, body_listed, entry_listed, ReadsBack, KeepsRest}
use Rattle.theory.specs.Answers.{and_true, passed_by, taken_by, nothing_applies, within_facts, within_make}
use Rattle.theory.specs.FileBytes.{below_drop, bytes_at, AllSmall, length_contents, contents_written, length_listed, numbers_listed, tops_listed, sizes_listed, and_make, fit_cons, listed_again, fit_small}
use Rattle.theory.specs.Outcomes.{left_as_done}
use Rattle.theory.specs.WideBytes.{bytes_length, number_back}
use Rattle.theory.proofs.FileBytes.{contents_read}

-- ---- what an answer of 0 says

-- a file that breaks no rule
pub record Accepted (file : List ℕ) : Type 0 where
  pub short : length file ≤ 65536
  pub some : 1 ≤ count_of file
  pub few : count_of file ≤ 64
  pub whole : contents_end (count_of file) ≤ length file
  pub fit : entries_fit 0 (contents_end (count_of file)) (length file) (entries_of file) ≡ true
  pub ends : contents_end (count_of file) + total (sizes_of (entries_of file)) ≡ length file
  pub symbols : symbols_fit (entries_of file) (bodies_in file) ≡ true

pub read_accepted : (fits : Bool) (file : List ℕ) (place : ℕ) → read_answer fits file place ≡ 0 → Accepted file × (place < count_of file)
unfolding read_answer read_tests
read_accepted fits file place e =
    let s = taken_by 5 fits _ e in
    let t = taken_by 12 (leb (length file) 65536 && (within 1 64 (count_of file) && leb (contents_end (count_of file)) (length file))) _ s.1 in
    let u = taken_by 13 (entries_fit 0 (contents_end (count_of file)) (length file) (entries_of file) && ltb place (count_of file)) _ t.1 in
    let v = taken_by 14 (eqb (contents_end (count_of file) + total (sizes_of (entries_of file))) (length file) && symbols_fit (entries_of file) (bodies_in file)) _ u.1 in
    let a = and_true (leb (length file) 65536) _ t.0 in
    let b = and_true (within 1 64 (count_of file)) _ a.1 in
    let c = within_facts 1 64 (count_of file) b.0 in
    let d = and_true (entries_fit 0 (contents_end (count_of file)) (length file) (entries_of file)) _ u.0 in
    let f = and_true (eqb (contents_end (count_of file) + total (sizes_of (entries_of file))) (length file)) _ v.0 in (
      record {
        short = leb-true (length file) 65536 a.0;
        some = c.0;
        few = c.1;
        whole = leb-true (contents_end (count_of file)) (length file) b.1;
        fit = d.0;
        ends = eqb-true (contents_end (count_of file) + total (sizes_of (entries_of file))) (length file) f.0;
        symbols = f.1;
      },
      ltb-true place (count_of file) d.1,
    )

pub read_accepts : (file : List ℕ) (place : ℕ) → Accepted file → place < count_of file → read_answer true file place ≡ 0
unfolding read_answer read_tests
read_accepts file place a p =
    passed_by 6 true _ refl
    ∙ passed_by 13 _ _ (and_make (leb (length file) 65536) _ (le-leb (length file) 65536 a.short)
    (and_make (within 1 64 (count_of file)) _ (within_make 1 64 (count_of file) a.some a.few) (le-leb (contents_end (count_of file)) (length file) a.whole)))
    ∙ passed_by 14 _ _ (and_make (entries_fit 0 (contents_end (count_of file)) (length file) (entries_of file)) _ a.fit (lt-ltb place (count_of file) p))
    ∙ passed_by 15 _ _ (and_make (eqb (contents_end (count_of file) + total (sizes_of (entries_of file))) (length file)) _ (eq-eqb _ _ a.ends) a.symbols)
    ∙ nothing_applies

-- a listing that the writer takes, with some length of output
pub record Taken (l : Listing) (output_length : ℕ) : Type 0 where
  pub tops_agree : length l.tops ≡ page_count l
  pub sizes_agree : length l.sizes ≡ page_count l
  pub bodies_agree : total l.sizes ≡ length l.bodies
  pub room : file_length l ≤ output_length
  pub short : file_length l ≤ 65536
  pub some : 1 ≤ page_count l
  pub few : page_count l ≤ 64
  pub fit : entries_fit 0 (contents_end (page_count l)) (file_length l) (listed l) ≡ true
  pub symbols : symbols_fit (listed l) l.bodies ≡ true

pub write_taken : (fits : Bool) (l : Listing) (n : ℕ) → write_answer fits l n ≡ 0 → Taken l n
unfolding write_answer write_tests lists_agree
write_taken fits l n e =
    let s = taken_by 5 (fits && (lists_agree l && leb (file_length l) n)) _ e in
    let t = taken_by 12 (leb (file_length l) 65536 && within 1 64 (page_count l)) _ s.1 in
    let u = taken_by 13 (entries_fit 0 (contents_end (page_count l)) (file_length l) (listed l)) _ t.1 in
    let v = taken_by 14 (symbols_fit (listed l) l.bodies) _ u.1 in
    let a = and_true (lists_agree l) _ (and_true fits _ s.0).1 in
    let b = and_true (eqb (length l.tops) (page_count l)) _ a.0 in
    let c = and_true (eqb (length l.sizes) (page_count l)) _ b.1 in
    let d = and_true (leb (file_length l) 65536) _ t.0 in
    let f = within_facts 1 64 (page_count l) d.1 in
    record {
      tops_agree = eqb-true (length l.tops) (page_count l) b.0;
      sizes_agree = eqb-true (length l.sizes) (page_count l) c.0;
      bodies_agree = eqb-true (total l.sizes) (length l.bodies) c.1;
      room = leb-true (file_length l) n a.1;
      short = leb-true (file_length l) 65536 d.0;
      some = f.0;
      few = f.1;
      fit = u.0;
      symbols = v.0;
    }

pub write_takes : (l : Listing) (n : ℕ) → Taken l n → write_answer true l n ≡ 0
unfolding write_answer write_tests lists_agree
write_takes l n a =
    passed_by 6 _ _ (and_make (lists_agree l) _
    (and_make (eqb (length l.tops) (page_count l)) _ (eq-eqb _ _ a.tops_agree)
    (and_make (eqb (length l.sizes) (page_count l)) _ (eq-eqb _ _ a.sizes_agree) (eq-eqb _ _ a.bodies_agree)))
    (le-leb (file_length l) n a.room))
    ∙ passed_by 13 _ _ (and_make (leb (file_length l) 65536) _ (le-leb (file_length l) 65536 a.short) (within_make 1 64 (page_count l) a.some a.few))
    ∙ passed_by 14 _ _ a.fit
    ∙ passed_by 15 _ _ a.symbols
    ∙ nothing_applies

-- ---- a written file

count_written : (n : ℕ) (rest : List ℕ) → n < 65536 → count_of (bytes_in 2 n ++ rest) ≡ n
unfolding count_of bytes_in
count_written n rest h = number_back 2 n h

module _ (l : Listing) (n : ℕ) (t : Taken l n) where
  few_pages : page_count l < 65536
  few_pages = omega (arith, t.few)

  written_count : count_of (file_of l) ≡ page_count l
  unfolding file_of
  written_count = count_written (page_count l) (contents_of (listed l) ++ l.bodies) few_pages

  listed_count : length (listed l) ≡ page_count l
  unfolding listed
  listed_count = length_listed (contents_end (page_count l)) l.numbers l.tops l.sizes t.tops_agree t.sizes_agree

  head_length : length (bytes_in 2 (page_count l) ++ contents_of (listed l)) ≡ contents_end (page_count l)
  head_length =
      length-append (bytes_in 2 (page_count l)) (contents_of (listed l)) ∙ omega (arith, bytes_length 2 (page_count l), length_contents (listed l), listed_count)

  file_split : file_of l ≡ (bytes_in 2 (page_count l) ++ contents_of (listed l)) ++ l.bodies
  unfolding file_of
  file_split = sym (append_assoc (bytes_in 2 (page_count l)) (contents_of (listed l)) l.bodies)

  pub written_length : length (file_of l) ≡ file_length l
  unfolding file_length
  written_length =
      ap length file_split ∙ length-append (bytes_in 2 (page_count l) ++ contents_of (listed l)) l.bodies ∙ omega (arith, head_length, t.bodies_agree)

  written_bodies : bodies_in (file_of l) ≡ l.bodies
  unfolding bodies_in
  written_bodies =
      ap (λ (k : ℕ). drop (contents_end k) (file_of l)) written_count ∙ ap (λ (f : List ℕ). drop (contents_end (page_count l)) f) file_split
      ∙ drop_at (bytes_in 2 (page_count l) ++ contents_of (listed l)) l.bodies (contents_end (page_count l)) head_length

  module _ (small : Below 65536 l.numbers) where
    listed_small : AllSmall (listed l)
    unfolding listed
    listed_small = fit_small 0 (contents_end (page_count l)) (file_length l) (listed l) t.short
        (subst (λ (ns : List ℕ). Below 65536 ns) (sym (numbers_listed (contents_end (page_count l)) l.numbers l.tops l.sizes t.tops_agree t.sizes_agree)) small) t.fit

    written_entries : entries_of (file_of l) ≡ listed l
    unfolding entries_of file_of
    written_entries =
        ap (λ (k : ℕ). entries_from (file_of l) 0 k) (written_count ∙ sym listed_count)
        ∙ contents_read (listed l) (bytes_in 2 (page_count l)) l.bodies 0 (bytes_length 2 (page_count l)) listed_small

    written_sizes : sizes_of (entries_of (file_of l)) ≡ l.sizes
    unfolding listed
    written_sizes = ap sizes_of written_entries ∙ sizes_listed (contents_end (page_count l)) l.numbers l.tops l.sizes t.tops_agree t.sizes_agree

    pub written_accepted : Accepted (file_of l)
    unfolding file_length
    written_accepted =
        let total-same : total (sizes_of (entries_of (file_of l))) ≡ total l.sizes = ap total written_sizes in
        record {
          short = omega (arith, written_length, t.short);
          some = omega (arith, written_count, t.some);
          few = omega (arith, written_count, t.few);
          whole = omega (arith, written_length, written_count);
          fit = rw (written_count, written_length, written_entries) t.fit;
          ends = omega (arith, written_length, written_count, total-same);
          symbols = rw (written_entries, written_bodies) t.symbols;
        }

-- ---- the listing of a file

unfoldable pub listing_of : List ℕ → Listing
listing_of file = record { numbers = numbers_of (entries_of file); tops = tops_of (entries_of file); sizes = sizes_of (entries_of file); bodies = bodies_in file }

listing_same : (l : Listing) {ns ts ss bs : List ℕ} → ns ≡ l.numbers → ts ≡ l.tops → ss ≡ l.sizes → bs ≡ l.bodies
    → ◌≡◌ {A = Listing} (record { numbers = ns; tops = ts; sizes = ss; bodies = bs }) l
listing_same l a b c d = λ i. record { numbers = a i; tops = b i; sizes = c i; bodies = d i }

-- a written file has the listing that it was written from
pub written_listing : (l : Listing) (n : ℕ) → Taken l n → Below 65536 l.numbers → listing_of (file_of l) ≡ l
unfolding listing_of listed
written_listing l n t small =
    let es = written_entries l n t small in
    listing_same l
    (ap numbers_of es ∙ numbers_listed (contents_end (page_count l)) l.numbers l.tops l.sizes t.tops_agree t.sizes_agree)
    (ap tops_of es ∙ tops_listed (contents_end (page_count l)) l.numbers l.tops l.sizes t.tops_agree t.sizes_agree)
    (written_sizes l n t small)
    (written_bodies l n t)

length_entries : (file : List ℕ) (n place : ℕ) → length (entries_from file place n) ≡ n
unfolding entries_from
length_entries file zero place = refl
length_entries file (suc n) place = ap suc (length_entries file n (suc place))

length_field : (f : Entry → ℕ) (es : List Entry) → length (map f es) ≡ length es
length_field f [] = refl
length_field f (e ∷ es) = ap suc (length_field f es)

two_small : (bytes : List ℕ) → Below 256 bytes → number_of (take 2 bytes) < 65536
unfolding number_of
two_small [] h = omega arith
two_small (a ∷ []) h = omega (arith, h 0)
two_small (a ∷ b ∷ bytes) h = omega (arith, h 0, h 1)

numbers_small : (file : List ℕ) (n place : ℕ) → Below 256 file → Below 65536 (numbers_of (entries_from file place n))
unfolding entries_from entry_at entry_of
numbers_small file zero place h i = lit< tt
numbers_small file (suc n) place h zero = two_small (drop (contents_end place) file) (below_drop 256 (contents_end place) file h)
numbers_small file (suc n) place h (suc i) = numbers_small file n (suc place) h i

module _ (file : List ℕ) (a : Accepted file) where
  listing_count : page_count (listing_of file) ≡ count_of file
  unfolding listing_of entries_of
  listing_count = length_field (λ e. e.number) (entries_of file) ∙ length_entries file (count_of file) 0

  listing_listed : listed (listing_of file) ≡ entries_of file
  unfolding listed listing_of
  listing_listed =
      ap (λ (k : ℕ). listed_from (contents_end k) (numbers_of (entries_of file)) (tops_of (entries_of file)) (sizes_of (entries_of file))) listing_count
      ∙ listed_again 0 (contents_end (count_of file)) (length file) (entries_of file) a.fit

  listing_length : file_length (listing_of file) ≡ length file
  unfolding file_length listing_of
  listing_length = ap (λ (k : ℕ). contents_end k + total (sizes_of (entries_of file))) listing_count ∙ a.ends

  pub accepted_taken : Taken (listing_of file) (length file)
  unfolding listing_of bodies_in
  accepted_taken =
      record {
        tops_agree = length_field (λ e. e.top) (entries_of file) ∙ sym (length_field (λ e. e.number) (entries_of file));
        sizes_agree = length_field (λ e. e.size) (entries_of file) ∙ sym (length_field (λ e. e.number) (entries_of file));
        bodies_agree = simp length-drop (omega (arith, a.ends));
        room = omega (arith, listing_length);
        short = omega (arith, listing_length, a.short);
        some = omega (arith, listing_count, a.some);
        few = omega (arith, listing_count, a.few);
        fit = rw (listing_count, listing_length, listing_listed) a.fit;
        symbols = rw listing_listed a.symbols;
      }

  -- written again, an accepted file is the same
  pub accepted_file : Below 256 file → file_of (listing_of file) ≡ file
  unfolding file_of listing_of entries_of bodies_in count_of
  accepted_file h =
      let two : bytes_in 2 (page_count (listing_of file)) ≡ take 2 file =
      ap (bytes_in 2) listing_count ∙ bytes_at file 0 2 h (omega (arith, a.whole)) in
      let contents : contents_of (listed (listing_of file)) ≡ take (11 * count_of file) (drop 2 file) =
      ap contents_of listing_listed ∙ contents_written file (count_of file) 0 h (omega (arith, a.whole)) in
      ap (λ (x : List ℕ). x ++ (contents_of (listed (listing_of file)) ++ bodies_in file)) two
      ∙ ap (λ (x : List ℕ). take 2 file ++ (x ++ bodies_in file)) contents
      ∙ ap (λ (x : List ℕ). take 2 file ++ (take (11 * count_of file) (drop 2 file) ++ x)) (sym (drop-drop (11 * count_of file) 2 file))
      ∙ ap (λ (x : List ℕ). take 2 file ++ x) (take-append-drop (11 * count_of file) (drop 2 file))
      ∙ take-append-drop 2 file

-- ---- the promises

-- what a writer that is not refused leaves
pub written : (l : Listing) (output : List ℕ) → write_answer true l (length output) ≡ 0
    → write_outcome l output ≡ record { number = 0; left = record { size = file_length l; output = filled l output } }
unfolding write_outcome
written l output e = sym (left_as_done (write_answer true l (length output)) (record { size = file_length l; output = filled l output }) (record { size = 0; output = output }) _ (sym e) refl)

listing_small : (file : List ℕ) → Below 256 file → Below 65536 (listing_of file).numbers
unfolding listing_of entries_of
listing_small file h = numbers_small file (count_of file) 0 h

writable : (file : List ℕ) → Below 256 file → Accepted file → Writable file
unfolding filled
writable file h a =
    let len = listing_length file a in
    let same = accepted_file file a h in
    let end : drop (file_length (listing_of file)) file ≡ [] = drop_of_length-le file {i = file_length (listing_of file)} (omega (arith, len)) in
    record {
      of = listing_of file;
      output = file;
      sixteen_bit = listing_small file h;
      exact = refl;
      outcome-of = written (listing_of file) file (write_takes (listing_of file) (length file) (accepted_taken file a)) ∙ rw (end, len, same, append-nil) refl;
    }

writable_file : (file : List ℕ) (w : Writable file) → Taken w.of (length file) × (file_of w.of ≡ file)
unfolding write_outcome outcome filled
writable_file file w =
    let answer : write_answer true w.of (length w.output) ≡ 0 = ap (λ (o : Outcome (Written ℕ)). o.number) w.outcome-of in
    let both = sym (written w.of w.output answer) ∙ w.outcome-of in
    let len : file_length w.of ≡ length file = ap (λ (o : Outcome (Written ℕ)). o.left.size) both in
    let end : drop (file_length w.of) w.output ≡ [] = drop_of_length-le w.output {i = file_length w.of} (omega (arith, len, w.exact)) in
    let content : file_of w.of ++ drop (file_length w.of) w.output ≡ file = ap (λ (o : Outcome (Written ℕ)). o.left.output) both in (
      subst (λ (n : ℕ). Taken w.of n) w.exact (write_taken true w.of (length w.output) answer),
      sym (append-nil (file_of w.of)) ∙ ap (λ (x : List ℕ). file_of w.of ++ x) (sym end) ∙ content,
    )

-- "What the reader accepts is exactly what the writer can write"
pub readable_writable : (file : List ℕ) → Below 256 file → (place : ℕ) → (read_answer true file place ≡ 0) ↔ ((place < count_of file) × Writable file)
readable_writable file h place = (
  λ e. let r = read_accepted true file place e in (r.1, writable file h r.0),
  λ w. let f = writable_file file w.1 in
      read_accepts file place (subst Accepted f.1 (written_accepted w.1.of (length file) f.0 w.1.sixteen_bit)) w.0,
)

-- two listings that the writer takes, and that give one file, are equal
pub listing_unique : (l m : Listing) (a b : ℕ) → Below 65536 l.numbers → Below 65536 m.numbers → write_answer true l a ≡ 0 → write_answer true m b ≡ 0
    → file_of l ≡ file_of m → l ≡ m
listing_unique l m a b hl hm el em same =
    sym (written_listing l a (write_taken true l a el) hl) ∙ ap listing_of same ∙ written_listing m b (write_taken true m b em) hm

-- ---- reading back

entries_at : (file : List ℕ) (n first place : ℕ) → place < n → get_or (entries_from file first n) place no_entry ≡ entry_at file (first + place)
unfolding entries_from
entries_at file zero first place h = absurd (omega arith)
entries_at file (suc n) first zero h = ap (entry_at file) (let z : first ≡ first + 0 = omega arith in z)
entries_at file (suc n) first (suc place) h = entries_at file n (suc first) place (omega arith) ∙ ap (entry_at file) (let z : suc first + place ≡ first + suc place = omega arith in z)

listed_at : (start : ℕ) (ns ts ss : List ℕ) → length ts ≡ length ns → length ss ≡ length ns → (place : ℕ) → place < length ns
    → get_or (listed_from start ns ts ss) place no_entry ≡ record { number = get_or ns place 0; top = get_or ts place 0; offset = start + total (take place ss); size = get_or ss place 0 }
unfolding listed_from total
listed_at start [] ts ss a b place h = absurd (omega arith)
listed_at start (n ∷ ns) [] ss a b place h = absurd (omega arith)
listed_at start (n ∷ ns) (t ∷ ts) [] a b place h = absurd (omega arith)
listed_at start (n ∷ ns) (t ∷ ts) (s ∷ ss) a b zero h = let z : start ≡ start + 0 = omega arith in
    ap (λ (o : ℕ). let e : Entry = record { number = n; top = t; offset = o; size = s } in e) z
listed_at start (n ∷ ns) (t ∷ ts) (s ∷ ss) a b (suc place) h =
    let z : start + s + total (take place ss) ≡ start + (s + total (take place ss)) = omega arith in
    listed_at (start + s) ns ts ss (omega arith) (omega arith) place (omega arith)
    ∙ ap (λ (o : ℕ). let e : Entry = record { number = get_or ns place 0; top = get_or ts place 0; offset = o; size = get_or ss place 0 } in e) z

module _ (l : Listing) (n : ℕ) (t : Taken l n) (small : Below 65536 l.numbers) (place : ℕ) (below : place < page_count l) where
  written_entry : entry_at (file_of l) place ≡ entry_listed l place
  unfolding entries_of listed entry_listed start_listed
  written_entry =
      let inside : place < count_of (file_of l) = omega (arith, written_count l n t) in
      let first : get_or (entries_from (file_of l) 0 (count_of (file_of l))) place no_entry ≡ entry_at (file_of l) (0 + place) = entries_at (file_of l) (count_of (file_of l)) 0 place inside in
      ap (entry_at (file_of l)) (let z : place ≡ 0 + place = omega arith in z)
      ∙ sym first ∙ ap (λ (es : List Entry). get_or es place no_entry) (written_entries l n t small)
      ∙ listed_at (contents_end (page_count l)) l.numbers l.tops l.sizes t.tops_agree t.sizes_agree place below

  written_part : part_of (file_of l) (entry_listed l place) ≡ body_listed l place
  unfolding part_of entry_listed body_listed bodies_in
  written_part =
      ap (λ (x : List ℕ). take (get_or l.sizes place 0) x)
      (sym (drop-drop (start_listed l place) (contents_end (page_count l)) (file_of l))
      ∙ ap (λ (k : ℕ). drop (start_listed l place) (drop (contents_end k) (file_of l))) (sym (written_count l n t))
      ∙ ap (λ (x : List ℕ). drop (start_listed l place) x) (written_bodies l n t))

  written_read : (read_outcome (file_of l) place ≡ record { number = 0; left = entry_listed l place }) × (read_body (file_of l) place ≡ body_listed l place)
  unfolding read_outcome read_body
  written_read =
      let answer : 0 ≡ read_answer true (file_of l) place = sym (read_accepts (file_of l) place (written_accepted l n t small) (omega (arith, written_count l n t))) in
      let found : read_outcome (file_of l) place ≡ record { number = 0; left = entry_listed l place } =
      sym (left_as_done (read_answer true (file_of l) place) (entry_at (file_of l) place) no_entry (entry_listed l place) answer (sym written_entry)) in
      (found, ap (λ (o : Outcome Entry). part_of (file_of l) o.left) found ∙ written_part)

-- the file is the front of the output
pub reads_back : (l : Listing) (output : List ℕ) → Below 65536 l.numbers → write_answer true l (length output) ≡ 0 → (place : ℕ) → place < page_count l
    → ReadsBack (take (write_outcome l output).left.size (write_outcome l output).left.output) l place
unfolding filled
reads_back l output small answer place below =
    let t = write_taken true l (length output) answer in
    let front : take (write_outcome l output).left.size (write_outcome l output).left.output ≡ file_of l =
    ap (λ (o : Outcome (Written ℕ)). take o.left.size o.left.output) (written l output answer)
    ∙ take_at (file_of l) (drop (file_length l) output) (file_length l) (written_length l (length output) t) in
    let r = written_read l (length output) t small place below in
    subst (λ (f : List ℕ). ReadsBack f l place) (sym front) (record { found = r.0; body = r.1 })

pub rest_kept : (l : Listing) (output : List ℕ) → KeepsRest l output
unfolding write_outcome outcome filled
rest_kept l output = go (eqb (write_answer true l (length output)) 0) refl
  where
    go : (b : Bool) → eqb (write_answer true l (length output)) 0 ≡ b → KeepsRest l output
    go true e =
        let t = write_taken true l (length output) (eqb-true (write_answer true l (length output)) 0 e) in
        record {
          as_long = rw e (length-append (file_of l) (drop (file_length l) output) ∙ simp length-drop (omega (arith, written_length l (length output) t, t.room)));
          rest = rw e (drop_at (file_of l) (drop (file_length l) output) (file_length l) (written_length l (length output) t));
        }
    go false e = record { as_long = rw e refl; rest = rw e refl }

-- ---- what is found lies inside the file

fit_at : (file : List ℕ) (n least start end first place : ℕ) → entries_fit least start end (entries_from file first n) ≡ true → place < n
    → (entry_at file (first + place)).offset + (entry_at file (first + place)).size ≤ end
unfolding entries_from
fit_at file zero least start end first place f h = absurd (omega arith)
fit_at file (suc n) least start end first zero f h =
    let z : first + 0 ≡ first = omega arith in
    subst (λ (k : ℕ). (entry_at file k).offset + (entry_at file k).size ≤ end) (sym z) (fit_cons least start end (entry_at file first) (entries_from file (suc first) n) f).0.inside
fit_at file (suc n) least start end first (suc place) f h =
    let z : first + suc place ≡ suc first + place = omega arith in
    subst (λ (k : ℕ). (entry_at file k).offset + (entry_at file k).size ≤ end) (sym z)
    (fit_at file n (suc (entry_at file first).number) ((entry_at file first).offset + (entry_at file first).size) end (suc first) place
    (fit_cons least start end (entry_at file first) (entries_from file (suc first) n) f).1 (omega arith))

-- the entry that the reader hands out names a part inside the file, also where it is refused
pub found_inside : (file : List ℕ) (place : ℕ) → (read_outcome file place).left.offset + (read_outcome file place).left.size ≤ length file
unfolding read_outcome outcome entries_of
found_inside file place = go (eqb (read_answer true file place) 0) refl
  where
    go : (b : Bool) → eqb (read_answer true file place) 0 ≡ b → (choose b (entry_at file place) no_entry).offset + (choose b (entry_at file place) no_entry).size ≤ length file
    go true e =
        let r = read_accepted true file place (eqb-true (read_answer true file place) 0 e) in
        let z : 0 + place ≡ place = omega arith in
        subst (λ (k : ℕ). (entry_at file k).offset + (entry_at file k).size ≤ length file) z
        (fit_at file (count_of file) 0 (contents_end (count_of file)) (length file) 0 place r.0.fit r.1)
    go false e = omega arith

-- Nothing may be empty: an accepted file has bytes, and of a listing that the writer takes none of the lists, the bodies and the output is empty.
pub read_some : (file : List ℕ) (place : ℕ) → read_answer true file place ≡ 0 → 0 < length file
read_some file place e = let r = read_accepted true file place e in omega (arith, r.0.whole)

body_some : (least start end : ℕ) (es : List Entry) → entries_fit least start end es ≡ true → 0 < length es → 0 < total (sizes_of es)
unfolding total
body_some least start end [] f h = absurd (omega arith)
body_some least start end (e ∷ es) f h = omega (arith, (fit_cons least start end e es f).0.size_low)

pub write_some : (l : Listing) (n : ℕ) → write_answer true l n ≡ 0 → (0 < length l.numbers) × (0 < length l.tops) × (0 < length l.sizes) × (0 < length l.bodies) × (0 < n)
unfolding listed file_length
write_some l n e =
    let t = write_taken true l n e in
    let start = contents_end (page_count l) in
    let sizes = sizes_listed start l.numbers l.tops l.sizes t.tops_agree t.sizes_agree in
    let some : 0 < total (sizes_of (listed_from start l.numbers l.tops l.sizes)) =
    body_some 0 start (file_length l) (listed l) t.fit (omega (arith, t.some, length_listed start l.numbers l.tops l.sizes t.tops_agree t.sizes_agree)) in (
      t.some,
      omega (arith, t.tops_agree, t.some),
      omega (arith, t.sizes_agree, t.some),
      omega (arith, t.bodies_agree, some, ap total sizes),
      omega (arith, t.room),
    )
