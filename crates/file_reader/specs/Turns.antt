-- What the reader hands back, and one turn of each of its loops.
use Rattle.std.specs.Prelude.{◌≡◌, Bool, false, ◌&&◌, List, [], ◌∷◌, ℕ, suc, ◌+◌, ◌-◌, ◌<◌, ◌≤◌, eqb, ltb, leb, length, take, drop, Result, Ok, Err}
use Rattle.std.proofs.Math.Path.{refl}
use Rattle.std.proofs.Common.{ap, sym, ◌∙◌, arith, length-drop, drop_of_length-le, drop-drop, take_all}
use Rattle.std.proofs.Math.Bool.{true}
use Rattle.std.proofs.Math.Seq.{take-nil}
use borrow.Author.Tests.{ne_eqb, le-ltb, leb-true, lt-ltb, le-leb, eq-eqb}
use Rattle.model.specs.Calls.{first_that_applies, within, all_below, Outcome}
use Rattle.model.specs.Symbols.{choose}
use Rattle.theory.specs.Outcomes.{left_as_lent, left_as_done}
use Rattle.theory.specs.Answers.{and_true, passed_by, refused_by, nothing_applies, within_facts, within_make}
use Rattle.model.specs.Files.{count_of, contents_end, entry_at, entries_from, entries_of, bodies_in, sizes_of, total, entry_fits, entries_fit, symbols_fit, read_tests, read_answer, no_entry, part_of, read_outcome, read_body}
use Rattle.model.specs.Files as format
use Rattle.theory.specs.FileBytes.{and_make, entry_same, entry-fits}
use Rattle.theory.proofs.Files.{read_accepted}
use Rattle.file_entries.specs.declared.Entry.{Entry}
use Rattle.file_entries.specs.Entries.{entry_from, entry_in}
use Rattle.refusals.specs.declared.Refusal.{Refusal}
use Rattle.refusals.specs.Numbers.{answer}
use Rattle.file_reader.specs.declared.Found.{Found}

-- the entry that is found, zeros where the reader refuses, and this as an outcome
abbrev pub entry_found : Result Found Refusal → format.Entry
entry_found (Ok f) = record { number = f.number; top = f.top; offset = f.offset; size = f.size }
entry_found (Err _) = no_entry

abbrev pub outcome_of : Result Found Refusal → Outcome format.Entry
outcome_of r = record { number = answer r; left = entry_found r }

-- where the bodies of entries that fit end, 0 where they don't fit
unfoldable pub end_from : ℕ → ℕ → ℕ → List format.Entry → ℕ
end_from least start end es = choose (entries_fit least start end es) (start + total (sizes_of es)) 0

-- ---- entries from a place on

pub entries_turn : (file : List ℕ) (i count : ℕ) → i < count → entries_from file i (count - i) ≡ entry_at file i ∷ entries_from file (i + 1) (count - (i + 1))
unfolding entries_from
entries_turn file i count h =
    let a : count - i ≡ suc (count - (i + 1)) = omega arith in
    let b : suc i ≡ i + 1 = omega arith in
    ap (λ (n : ℕ). entries_from file i n) a ∙ ap (λ (k : ℕ). entry_at file i ∷ entries_from file k (count - (i + 1))) b

pub entries_end : (file : List ℕ) (i count : ℕ) → count ≤ i → entries_from file i (count - i) ≡ []
unfolding entries_from
entries_end file i count h = let a : count - i ≡ 0 = omega arith in ap (λ (n : ℕ). entries_from file i n) a

pub end_turn : (file : List ℕ) (least start end i count : ℕ) → i < count → entry_fits least start end (entry_at file i) ≡ true
    → end_from least start end (entries_from file i (count - i))
    ≡ end_from ((entry_at file i).number + 1) ((entry_at file i).offset + (entry_at file i).size) end (entries_from file (i + 1) (count - (i + 1)))
unfolding end_from entries_fit total
end_turn file least start end i count h f =
    let next : (entry_at file i).offset ≡ start = (entry-fits least start end (entry_at file i) f).next in
    let a : suc (entry_at file i).number ≡ (entry_at file i).number + 1 = omega arith in
    let b : start + ((entry_at file i).size + total (sizes_of (entries_from file (i + 1) (count - (i + 1)))))
    ≡ (entry_at file i).offset + (entry_at file i).size + total (sizes_of (entries_from file (i + 1) (count - (i + 1)))) = omega arith in
    ap (end_from least start end) (entries_turn file i count h) ∙ rw (f, a, b) refl

pub end_stop : (file : List ℕ) (least start end i count : ℕ) → i < count → entry_fits least start end (entry_at file i) ≡ false
    → end_from least start end (entries_from file i (count - i)) ≡ 0
unfolding end_from entries_fit total
end_stop file least start end i count h f = ap (end_from least start end) (entries_turn file i count h) ∙ rw f refl

pub end_end : (file : List ℕ) (least start end i count : ℕ) → count ≤ i → end_from least start end (entries_from file i (count - i)) ≡ start
unfolding end_from entries_fit total
end_end file least start end i count h = ap (end_from least start end) (entries_end file i count h) ∙ (let z : start + 0 ≡ start = omega arith in z)

pub symbols_turn : (file : List ℕ) (start i count : ℕ) → i < count
    → symbols_fit (entries_from file i (count - i)) (drop start file)
    ≡ (all_below ((entry_at file i).top + 1) (take (entry_at file i).size (drop start file)) && symbols_fit (entries_from file (i + 1) (count - (i + 1))) (drop (start + (entry_at file i).size) file))
unfolding symbols_fit
symbols_turn file start i count h =
    let a : suc (entry_at file i).top ≡ (entry_at file i).top + 1 = omega arith in
    ap (λ (es : List format.Entry). symbols_fit es (drop start file)) (entries_turn file i count h)
    ∙ rw (a, drop-drop (entry_at file i).size start file) refl

pub symbols_end : (file : List ℕ) (start i count : ℕ) → count ≤ i → symbols_fit (entries_from file i (count - i)) (drop start file) ≡ true
unfolding symbols_fit
symbols_end file start i count h = ap (λ (es : List format.Entry). symbols_fit es (drop start file)) (entries_end file i count h)

pub total_turn : (file : List ℕ) (i count : ℕ) → i < count
    → total (sizes_of (entries_from file i (count - i))) ≡ (entry_at file i).size + total (sizes_of (entries_from file (i + 1) (count - (i + 1))))
unfolding total
total_turn file i count h = ap (λ (es : List format.Entry). total (sizes_of es)) (entries_turn file i count h)

pub entries_all : (file : List ℕ) (count : ℕ) → entries_from file 0 (count - 0) ≡ entries_from file 0 count
entries_all file count = let a : count - 0 ≡ count = omega arith in ap (λ (n : ℕ). entries_from file 0 n) a

-- ---- the reader's answers

-- 13 does not apply
pub record Whole (file : List ℕ) : Type 0 where
  pub short : length file ≤ 65536
  pub some : 1 ≤ count_of file
  pub few : count_of file ≤ 64
  pub whole : contents_end (count_of file) ≤ length file

-- where the last body of a file ends, 0 where an entry breaks a rule
abbrev pub file_end : List ℕ → ℕ
file_end file = end_from 0 (contents_end (count_of file)) (length file) (entries_of file)

pub end_known : (file : List ℕ) (count : ℕ) → count ≡ count_of file → end_from 0 (contents_end count) (length file) (entries_from file 0 count) ≡ file_end file
unfolding entries_of
end_known file count e = ap (λ (k : ℕ). end_from 0 (contents_end k) (length file) (entries_from file 0 k)) e

pub symbols_known : (file : List ℕ) (count : ℕ) → count ≡ count_of file → symbols_fit (entries_from file 0 count) (drop (contents_end count) file) ≡ symbols_fit (entries_of file) (bodies_in file)
unfolding entries_of bodies_in
symbols_known file count e = ap (λ (k : ℕ). symbols_fit (entries_from file 0 k) (drop (contents_end k) file)) e

bool_case : {C : Type 0} (b : Bool) → (b ≡ true → C) → (b ≡ false → C) → C
bool_case true t f = t refl
bool_case false t f = f refl

end_zero : (file : List ℕ) → file_end file ≡ 0 → entries_fit 0 (contents_end (count_of file)) (length file) (entries_of file) ≡ false
unfolding end_from
end_zero file e = go (entries_fit 0 (contents_end (count_of file)) (length file) (entries_of file)) e
  where
    go : (b : Bool) → choose b (contents_end (count_of file) + total (sizes_of (entries_of file))) 0 ≡ 0 → b ≡ false
    go true z = absurd (omega arith)
    go false z = refl

pub end_some : (file : List ℕ) → (file_end file ≡ 0 → ⊥)
    → (entries_fit 0 (contents_end (count_of file)) (length file) (entries_of file) ≡ true) × (file_end file ≡ contents_end (count_of file) + total (sizes_of (entries_of file)))
unfolding end_from
end_some file n = go (entries_fit 0 (contents_end (count_of file)) (length file) (entries_of file)) n
  where
    go : (b : Bool) → (choose b (contents_end (count_of file) + total (sizes_of (entries_of file))) 0 ≡ 0 → ⊥)
        → (b ≡ true) × (choose b (contents_end (count_of file) + total (sizes_of (entries_of file))) 0 ≡ contents_end (count_of file) + total (sizes_of (entries_of file)))
    go true z = (refl, refl)
    go false z = absurd (z refl)

whole_test : (file : List ℕ) → Whole file → (leb (length file) 65536 && (within 1 64 (count_of file) && leb (contents_end (count_of file)) (length file))) ≡ true
whole_test file w =
    and_make _ _ (le-leb (length file) 65536 w.short)
    (and_make _ _ (within_make 1 64 (count_of file) w.some w.few) (le-leb (contents_end (count_of file)) (length file) w.whole))

test_whole : (file : List ℕ) → (leb (length file) 65536 && (within 1 64 (count_of file) && leb (contents_end (count_of file)) (length file))) ≡ true → Whole file
test_whole file e =
    let a = and_true (leb (length file) 65536) _ e in
    let b = and_true (within 1 64 (count_of file)) _ a.1 in
    let c = within_facts 1 64 (count_of file) b.0 in
    record { short = leb-true (length file) 65536 a.0; some = c.0; few = c.1; whole = leb-true (contents_end (count_of file)) (length file) b.1 }

pub answer_13 : (file : List ℕ) (place : ℕ) → (Whole file → ⊥) → read_answer true file place ≡ 13
unfolding read_answer read_tests
answer_13 file place n = passed_by 6 true _ refl
    ∙ refused_by 13 _ _ (bool_case (leb (length file) 65536 && (within 1 64 (count_of file) && leb (contents_end (count_of file)) (length file)))
    (λ e. absurd (n (test_whole file e))) (λ e. e))

-- the tests that a file has passed
module _ (file : List ℕ) (place : ℕ) (w : Whole file) where
  abbrev entries : Bool
  entries = entries_fit 0 (contents_end (count_of file)) (length file) (entries_of file) && ltb place (count_of file)

  abbrev bodies : Bool
  bodies = eqb (contents_end (count_of file) + total (sizes_of (entries_of file))) (length file) && symbols_fit (entries_of file) (bodies_in file)

  past_13 : first_that_applies (read_tests true file place) ≡ first_that_applies (drop 2 (read_tests true file place))
  unfolding read_tests
  past_13 = passed_by 6 true _ refl ∙ passed_by 13 _ _ (whole_test file w)

  pub answer_14_entries : file_end file ≡ 0 → read_answer true file place ≡ 14
  unfolding read_answer read_tests
  answer_14_entries z = past_13 ∙ refused_by 14 entries _ (rw (end_zero file z) refl)

  module _ (z : file_end file ≡ 0 → ⊥) where
    pub answer_14_place : count_of file ≤ place → read_answer true file place ≡ 14
    unfolding read_answer read_tests
    answer_14_place h = past_13 ∙ refused_by 14 entries _ (rw ((end_some file z).0, le-ltb place (count_of file) h) refl)

    module _ (h : place < count_of file) where
      past-14 : read_answer true file place ≡ first_that_applies (drop 3 (read_tests true file place))
      unfolding read_answer read_tests
      past-14 = past_13 ∙ passed_by 14 entries _ (rw ((end_some file z).0, lt-ltb place (count_of file) h) refl)

      pub answer-15-end : (file_end file ≡ length file → ⊥) → read_answer true file place ≡ 15
      unfolding read_tests
      answer-15-end n = past-14 ∙ refused_by 15 bodies _ (rw (ne_eqb (contents_end (count_of file) + total (sizes_of (entries_of file))) (length file) (λ e. n ((end_some file z).1 ∙ e))) refl)

      module _ (e : file_end file ≡ length file) where
        ends : eqb (contents_end (count_of file) + total (sizes_of (entries_of file))) (length file) ≡ true
        ends = eq-eqb (contents_end (count_of file) + total (sizes_of (entries_of file))) (length file) (sym (end_some file z).1 ∙ e)

        pub answer-15-symbols : symbols_fit (entries_of file) (bodies_in file) ≡ false → read_answer true file place ≡ 15
        unfolding read_tests
        answer-15-symbols s = past-14 ∙ refused_by 15 bodies _ (rw (ends, s) refl)

        pub answer-0 : symbols_fit (entries_of file) (bodies_in file) ≡ true → read_answer true file place ≡ 0
        unfolding read_tests
        answer-0 s = past-14 ∙ passed_by 15 bodies _ (rw (ends, s) refl) ∙ nothing_applies

-- ---- what the reader finds

pub found_refused : (file : List ℕ) (place n : ℕ) → n ≡ read_answer true file place → (n ≡ 0 → ⊥)
    → ◌≡◌ {A = Outcome format.Entry} (record { number = n; left = no_entry }) (read_outcome file place)
unfolding read_outcome
found_refused file place n e z = left_as_lent (read_answer true file place) (entry_at file place) no_entry n e z

pub found_entry : (file : List ℕ) (place n : ℕ) (x : Entry) → n ≡ read_answer true file place → n ≡ 0 → x ≡ entry_from (entry_at file place)
    → ◌≡◌ {A = Outcome format.Entry} (record { number = n; left = entry_in x }) (read_outcome file place)
unfolding read_outcome
found_entry file place n x e z q =
    rw z (left_as_done (read_answer true file place) (entry_at file place) no_entry (entry_in x) (sym z ∙ e) (ap entry_in q ∙ entry_same (entry_at file place) refl refl refl refl))

pub place_inside : (file : List ℕ) (place : ℕ) → read_answer true file place ≡ 0 → (contents_end place + 11 ≤ length file) × (place ≤ 64)
place_inside file place e = let r = read_accepted true file place e in (omega (arith, r.0.whole, r.1), omega (arith, r.0.few, r.1))

-- a part that starts beyond the file, and one that ends beyond it
pub part_beyond : (file : List ℕ) (offset size : ℕ) → length file < offset → [] ≡ take size (drop offset file)
part_beyond file offset size h = sym (ap (λ (l : List ℕ). take size l) (drop_of_length-le file {i = offset} (omega arith)) ∙ take-nil size)

pub part_rest : (file : List ℕ) (offset size : ℕ) → length file - offset < size → take (length file - offset) (drop offset file) ≡ take size (drop offset file)
part_rest file offset size h =
    take_all (length file - offset) (drop offset file) (omega (arith, length-drop offset file)) ∙ sym (take_all size (drop offset file) (omega (arith, length-drop offset file)))

pub found_part : (file : List ℕ) (place : ℕ) (r : Result Found Refusal) → outcome_of r ≡ read_outcome file place
    → take (entry_found r).size (drop (entry_found r).offset file) ≡ read_body file place
unfolding read_body part_of
found_part file place r e = ap (λ (o : Outcome format.Entry). take o.left.size (drop o.left.offset file)) e
