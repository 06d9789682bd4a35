-- Page numbers and lengths read from bytes, and the outcomes of the C forms.
use Rattle.std.specs.Prelude.{◌≡◌, Bool, false, ◌&&◌, List, [], ◌∷◌, ◌++◌, ℕ, zero, suc, ◌+◌, ◌*◌, ◌<◌, ◌≤◌, eqb, length, get_or, set, take, Result}
use Rattle.std.proofs.Math.Path.{refl, ap, sym}
use Rattle.std.proofs.Common.{◌∙◌, append-nil, add-one, arith, drop_of_length-le, take_all, take-suc, take-suc-set}
use Rattle.std.proofs.Math.Bool.{true}
use Rattle.std.proofs.Math.Dec.{leb}
use Rattle.std.proofs.lemmas.List.Edits.{sets, sets-eq}
use borrow.Author.Tests.{ne_eqb, eq-eqb, eqb-true, le-leb}
use Rattle.model.specs.Bytes.{word_of, positions_of, symbols_of}
use Rattle.model.specs.Calls.{Outcome, outcome}
use Rattle.theory.specs.Answers.{and_true, refused_by}
use Rattle.theory.specs.Outcomes.{left_as_lent, left_as_done, outcome_number, outcome_lent, outcome_done}
use Rattle.theory.specs.WideBytes.{symbols_length, symbol-at, positions_symbols}
use Rattle.position_bytes.specs.Positions.{kept}
use Rattle.model.specs.Files.{number_at, Entry, entry_at, total, read_tests, read_answer, no_entry, read_outcome, Listing, listing, contents_end, file_length, lists_agree, write_tests, write_answer, Written, filled, write_outcome, entry_words, c_read_outcome, c_listing, c_lists_fit, c_write_outcome}
use Rattle.theory.proofs.Files.{write_taken}
use Rattle.refusals.specs.declared.Refusal.{Refusal}
use Rattle.refusals.specs.Numbers.{answer}
use Rattle.file_reader.specs.Turns.{entry_found, outcome_of}
use Rattle.file_reader.specs.declared.Found.{Found}
use Rattle.file_lists.specs.Steps.{Agrees, write_6, write_13}

-- a store beyond the end alters nothing
pub set_beyond : (l : List ℕ) (i x : ℕ) → length l ≤ i → l ≡ set l i x
set_beyond [] i x h = refl
set_beyond (y ∷ l) zero x h = absurd (omega arith)
set_beyond (y ∷ l) (suc i) x h = ap (λ (t : List ℕ). y ∷ t) (set_beyond l i x (omega arith))

pub words_written : (d : List ℕ) (n t o s : ℕ) → length d ≡ 16
    → sets (sets (sets (sets d 0 (word_of n)) 4 (word_of t)) 8 (word_of o)) 12 (word_of s) ≡ entry_words (record { number = n; top = t; offset = o; size = s })
unfolding entry_words
words_written d n t o s h =
    let vs : List ℕ = word_of n ++ word_of t ++ word_of o ++ word_of s in
    sets-eq vs d 0 (omega arith) ∙ ap (λ (l : List ℕ). vs ++ l) (drop_of_length-le d {i = 16} (omega arith)) ∙ append-nil vs

-- ---- the lengths of the lists

module _ (n t s z : ℕ) where
  pub fit_numbers : (n ≡ 2 * t → ⊥) → false ≡ c_lists_fit n t s z
  unfolding c_lists_fit
  fit_numbers h = rw (ne_eqb n (2 * t) h) refl

  pub fit_sizes : n ≡ 2 * t → (s ≡ 4 * t → ⊥) → false ≡ c_lists_fit n t s z
  unfolding c_lists_fit
  fit_sizes e h = rw (eq-eqb n (2 * t) e, ne_eqb s (4 * t) h) refl

  pub fit_last : n ≡ 2 * t → s ≡ 4 * t → eqb z 4 ≡ c_lists_fit n t s z
  unfolding c_lists_fit
  fit_last e f = rw (eq-eqb n (2 * t) e, eq-eqb s (4 * t) f) refl

  pub fit_facts : c_lists_fit n t s z ≡ true → (n ≡ 2 * t) × (s ≡ 4 * t) × (z ≡ 4)
  unfolding c_lists_fit
  fit_facts e =
      let a = and_true (eqb n (2 * t)) _ e in
      let b = and_true (eqb s (4 * t)) _ a.1 in
      (eqb-true n (2 * t) a.0, eqb-true s (4 * t) b.0, eqb-true z 4 b.1)

-- ---- lengths, four bytes each

total_snoc : (xs : List ℕ) (x : ℕ) → total (xs ++ (x ∷ [])) ≡ total xs + x
unfolding total
total_snoc [] x = omega arith
total_snoc (y ∷ xs) x = ap (λ (n : ℕ). y + n) (total_snoc xs x) ∙ omega arith

pub start_sum : (n : ℕ) → n + total [] ≡ n
unfolding total
start_sum n = omega arith

total_take : (n : ℕ) (xs : List ℕ) → total (take n xs) ≤ total xs
unfolding total
total_take zero xs = omega arith
total_take (suc n) [] = omega arith
total_take (suc n) (x ∷ xs) = omega (arith, total_take n xs)

module _ (bytes : List ℕ) (count : ℕ) (whole : length bytes ≡ count * 4) (i : ℕ) (h : i < count) (size : ℕ) (e : size ≡ number_at bytes (4 * i) 4) where
  length_here : get_or (symbols_of 4 bytes) i 0 ≡ size
  length_here = symbol-at 4 (omega arith) count bytes whole i h ∙ ap (λ (k : ℕ). number_at bytes k 4) (let z : i * 4 ≡ 4 * i = omega arith in z) ∙ sym e

  next : take (i + 1) (symbols_of 4 bytes) ≡ take i (symbols_of 4 bytes) ++ (size ∷ [])
  next =
      ap (λ (k : ℕ). take k (symbols_of 4 bytes)) (add-one i)
      ∙ take-suc (symbols_of 4 bytes) i 0 (omega (arith, symbols_length 4 (omega arith) count bytes whole))
      ∙ ap (λ (x : ℕ). take i (symbols_of 4 bytes) ++ (x ∷ [])) length_here

  pub sum_turn : total (take (i + 1) (symbols_of 4 bytes)) ≡ total (take i (symbols_of 4 bytes)) + size
  sum_turn = ap total next ∙ total_snoc (take i (symbols_of 4 bytes)) size

  -- the sum so far and this length are at most all
  pub sum_most : total (take i (symbols_of 4 bytes)) + size ≤ total (symbols_of 4 bytes)
  sum_most = omega (arith, sum_turn, total_take (i + 1) (symbols_of 4 bytes))

  pub kept_turn : (sizes : List ℕ) → count ≤ length sizes → take i sizes ≡ take i (symbols_of 4 bytes) → take (i + 1) (set sizes i size) ≡ take (i + 1) (symbols_of 4 bytes)
  kept_turn sizes room s =
      ap (λ (k : ℕ). take k (set sizes i size)) (add-one i) ∙ take-suc-set sizes i size (omega arith) ∙ ap (λ (l : List ℕ). l ++ (size ∷ [])) s ∙ sym next

pub lengths_all : (bytes : List ℕ) (count : ℕ) → length bytes ≡ count * 4 → take count (symbols_of 4 bytes) ≡ symbols_of 4 bytes
lengths_all bytes count whole = take_all count (symbols_of 4 bytes) (omega (arith, symbols_length 4 (omega arith) count bytes whole))

pub lengths_counted : (sizes read : List ℕ) (k m : ℕ) → k ≡ m → take k sizes ≡ read → take m sizes ≡ read
lengths_counted sizes read k m e h = ap (λ (n : ℕ). take n sizes) (sym e) ∙ h

-- ---- page numbers, two bytes each

pub numbers_read : (bytes : List ℕ) (count : ℕ) → length bytes ≡ 2 * count → count ≤ 64 → kept (positions_of bytes) ≡ symbols_of 2 bytes
unfolding kept
numbers_read bytes count e few =
    let n : length (positions_of bytes) ≡ count = ap length (positions_symbols bytes) ∙ symbols_length 2 (omega arith) count bytes (omega arith) in
    rw (le-leb (length (positions_of bytes)) 256 (omega (arith, n))) (positions_symbols bytes)

-- ---- the reader

module _ (file : List ℕ) (place : ℕ) (entry : List ℕ) where
  pub read_unfit : (length entry ≡ 16 → ⊥) → ◌≡◌ {A = Outcome (List ℕ)} (record { number = 6; left = entry }) (c_read_outcome file place entry)
  unfolding c_read_outcome read_answer read_tests
  read_unfit h =
      left_as_lent _ _ entry 6 (sym (refused_by 6 (eqb (length entry) 16) _ (ne_eqb (length entry) 16 h))) (λ e. absurd (omega (arith, e)))

  module _ (fits : length entry ≡ 16) (f : Result Found Refusal) (e : outcome_of f ≡ read_outcome file place) where
    answer_is : answer f ≡ read_answer (eqb (length entry) 16) file place
    unfolding read_outcome outcome
    answer_is = ap (λ (o : Outcome Entry). o.number) e ∙ ap (λ (b : Bool). read_answer b file place) (sym (eq-eqb (length entry) 16 fits))

    pub read_refused : (answer f ≡ 0 → ⊥) → ◌≡◌ {A = Outcome (List ℕ)} (record { number = answer f; left = entry }) (c_read_outcome file place entry)
    unfolding c_read_outcome
    read_refused z = left_as_lent _ _ entry (answer f) answer_is z

    pub read_done : (x : List ℕ) → answer f ≡ 0 → x ≡ entry_words (entry_found f)
        → ◌≡◌ {A = Outcome (List ℕ)} (record { number = 0; left = x }) (c_read_outcome file place entry)
    unfolding c_read_outcome read_outcome outcome
    read_done x z w =
        let a : read_answer true file place ≡ 0 = ap (λ (b : Bool). read_answer b file place) (sym (eq-eqb (length entry) 16 fits)) ∙ sym answer_is ∙ z in
        let g : outcome_of f ≡ record { number = 0; left = entry_at file place } =
        e ∙ sym (left_as_done (read_answer true file place) (entry_at file place) no_entry (entry_at file place) (sym a) refl) in
        left_as_done _ _ entry x (sym z ∙ answer_is) (w ∙ ap (λ (o : Outcome Entry). entry_words o.left) g)

-- ---- the writer

module _ (ns ts ss bs output size : List ℕ) where
  abbrev fits : Bool
  fits = c_lists_fit (length ns) (length ts) (length ss) (length size)

  abbrev l : Listing
  l = c_listing ns ts ss bs

  abbrev refused : ℕ → Outcome (Written (List ℕ))
  refused n = record { number = n; left = record { size = size; output = output } }

  pub write_unfit : fits ≡ false → refused 6 ≡ c_write_outcome ns ts ss bs output size
  unfolding c_write_outcome write_answer write_tests
  write_unfit h = left_as_lent _ _ _ 6 (sym (refused_by 6 (fits && (lists_agree l && leb (file_length l) (length output))) _ (rw h refl))) (λ e. absurd (omega (arith, e)))

  module _ (f : fits ≡ true) where
    same_answer : write_answer fits l (length output) ≡ write_answer true l (length output)
    same_answer = ap (λ (b : Bool). write_answer b l (length output)) f

    pub write_disagree : (Agrees l (length output) → ⊥) → refused 6 ≡ c_write_outcome ns ts ss bs output size
    unfolding c_write_outcome
    write_disagree k = left_as_lent _ _ _ 6 (sym (same_answer ∙ write_6 l (length output) k)) (λ e. absurd (omega (arith, e)))

    pub sizes_count : length (symbols_of 4 ss) ≡ length ts
    sizes_count = let h = fit_facts _ _ _ _ f in symbols_length 4 (omega arith) (length ts) ss (omega (arith, h.1))

    pub numbers_count : length (symbols_of 2 ns) ≡ length ts
    numbers_count = let h = fit_facts _ _ _ _ f in symbols_length 2 (omega arith) (length ts) ns (omega (arith, h.0))

    pub write_many : total (symbols_of 4 ss) ≡ length bs → contents_end (length ts) + length bs ≤ length output → 64 < length ts → refused 13 ≡ c_write_outcome ns ts ss bs output size
    unfolding c_write_outcome
    write_many sum room many =
        let a : Agrees l (length output) = record {
          tops_agree = sym numbers_count;
          sizes_agree = sizes_count ∙ sym numbers_count;
          bodies_agree = sum;
          room = omega (arith, sum, room, numbers_count);
        } in
        left_as_lent _ _ _ 13 (sym (same_answer ∙ write_13 l (length output) a (λ m. omega (arith, m.few, numbers_count)))) (λ e. absurd (omega (arith, e)))

    -- what the Rattle form leaves, with the lists as they were read
    module _ (read-ns read-ss : List ℕ) (a : read-ns ≡ symbols_of 2 ns) (b : read-ss ≡ symbols_of 4 ss) (n w : ℕ) (out : List ℕ)
        (e : ◌≡◌ {A = Outcome (Written ℕ)} (record { number = n; left = record { size = w; output = out } }) (write_outcome (listing read-ns ts read-ss bs) output)) where
      given : ◌≡◌ {A = Outcome (Written ℕ)} (record { number = n; left = record { size = w; output = out } })
          (outcome (write_answer true l (length output)) (record { size = file_length l; output = filled l output }) (record { size = 0; output = output }))
      unfolding write_outcome
      given = e ∙ (λ i. write_outcome (listing (a i) ts (b i) bs) output)

      number_is : n ≡ write_answer fits l (length output)
      number_is = outcome_number _ _ _ _ _ given ∙ sym same_answer

      pub write_refused : (n ≡ 0 → ⊥) → ◌≡◌ {A = Outcome (Written (List ℕ))} (record { number = n; left = record { size = size; output = out } }) (c_write_outcome ns ts ss bs output size)
      unfolding c_write_outcome
      write_refused z =
          let kept : out ≡ output = ap (λ (x : Written ℕ). x.output) (outcome_lent _ _ _ _ _ given z) in
          (λ i. record { number = n; left = record { size = size; output = kept i } }) ∙ left_as_lent _ _ _ n number_is z

      pub write-size : n ≡ 0 → w ≤ 65536
      write-size z =
          let s : w ≡ file_length l = ap (λ (x : Written ℕ). x.size) (outcome_done _ _ _ _ _ given z) in
          omega (arith, s, (write_taken true l (length output) (sym (outcome_number _ _ _ _ _ given) ∙ z)).short)

      pub write_done : (x : List ℕ) → n ≡ 0 → x ≡ word_of w
          → ◌≡◌ {A = Outcome (Written (List ℕ))} (record { number = 0; left = record { size = x; output = out } }) (c_write_outcome ns ts ss bs output size)
      unfolding c_write_outcome
      write_done x z g =
          let d = outcome_done _ _ _ _ _ given z in
          let s : x ≡ word_of (file_length l) = g ∙ ap word_of (ap (λ (y : Written ℕ). y.size) d) in
          let o : out ≡ filled l output = ap (λ (y : Written ℕ). y.output) d in
          left_as_done _ _ _ _ (sym z ∙ number_is) (λ i. record { size = s i; output = o i })
