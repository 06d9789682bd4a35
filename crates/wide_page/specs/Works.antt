-- What a call that is not refused works on, and the page and the parts of a page by the numbers of their symbols.
use Rattle.std.specs.Prelude.{◌≡◌, refl, Bool, ◌&&◌, List, ◌++◌, ℕ, ◌+◌, ◌-◌, eqb, length, take, drop}
use Rattle.std.proofs.Common.{sym, ap, ◌∙◌, arith, length-drop, take_all, take-append-drop}
use borrow.Rule.Slice.PartMut.{put_mid}
use Rattle.model.specs.Calls.{first_that_applies, page_tests, encode_fits, encode_answer, syndrome_fits, syndrome_answer, open_answer}
use Rattle.model.specs.Code.{Code, data_count, check_count, page_length, code_word, check_symbols}
use Rattle.model.specs.Decoder.{state_by}
use Rattle.model.specs.Limits.{TableLimits}
use Rattle.codeword.specs.Checks.{checks_written, page_written}
use Rattle.codeword.specs.Rest.{one-branch}
use Rattle.theory.specs.Answers.{Opens, page_taken, open_taken, and_true, eqb-true}
use Rattle.theory.specs.Codes.{Usable}
use Rattle.theory.specs.Steps.{SymbolsBelow}
use Rattle.wide_answers.specs.Fits.{encode_number, syndrome_number, open_number}
use Rattle.wide_rows.specs.Halves.{numbers_put}
use Rattle.wide_symbols.specs.Numbers.{IsNumbers, numbers_length, numbers_drop, numbers_append}

-- what encode and syndrome work on: their symbols, and lengths as they need them
pub record EncodeWorks (c : Code) (u : List ℕ) (data_len page_len : ℕ) : Type 0 where
  pub usable : Usable c
  pub symbols : SymbolsBelow c.q (data_count c) u
  pub of_data : data_len ≡ data_count c
  pub of_page : page_len ≡ page_length c

pub record SyndromeWorks (c : Code) (page : List ℕ) (page_len s_len : ℕ) : Type 0 where
  pub usable : Usable c
  pub symbols : SymbolsBelow c.q (page_length c) page
  pub of_page : page_len ≡ page_length c
  pub of_checks : s_len ≡ check_count c

encode_works : (c : Code) (u : List ℕ) (l : ℕ) → encode_answer c u l ≡ 0 → EncodeWorks c u (length u) l
unfolding encode_answer
encode_works c u l e =
    let p = page_taken c (encode_fits c (length u) l) u e in
    let b = and_true (eqb (length u) (data_count c)) (eqb l (page_length c)) p.buffers in
    let d = eqb-true (length u) (data_count c) b.0 in
    record { usable = p.usable; symbols = record { len = d; low = p.symbols }; of_data = d; of_page = eqb-true l (page_length c) b.1 }

syndrome_works : (c : Code) (u : List ℕ) (l : ℕ) → syndrome_answer c u l ≡ 0 → SyndromeWorks c u (length u) l
unfolding syndrome_answer
syndrome_works c u l e =
    let p = page_taken c (syndrome_fits c (length u) l) u e in
    let b = and_true (eqb (length u) (page_length c)) (eqb l (check_count c)) p.buffers in
    let d = eqb-true (length u) (page_length c) b.0 in
    record { usable = p.usable; symbols = record { len = d; low = p.symbols }; of_page = d; of_checks = eqb-true l (check_count c) b.1 }

module _ {S : Type 0} {number : S → ℕ} {numbers : List S → List ℕ} (n : IsNumbers number numbers) where
  -- the page of the data x: v is copied to its front, and the checks are written behind it
  pub word_written : (c : Code) → TableLimits c → (x v page cs : List S) → length (numbers x) ≡ data_count c → numbers v ≡ numbers x → numbers cs ≡ check_symbols c (numbers x)
      → numbers (put_mid (length x) (length (v ++ drop (length x) page) - length x) (v ++ drop (length x) page) cs) ≡ code_word c (numbers x)
  word_written c l x v page cs len e f =
      let a = length x in
      let xs = v ++ drop a page in
      let ys = numbers v ++ drop a (numbers page) in
      let split : numbers xs ≡ ys = numbers_append n v (drop a page) ∙ ap (λ (l : List ℕ). numbers v ++ l) (numbers_drop n a page) in
      numbers_put n a (length xs - a) xs cs
      ∙ ap (λ (m : ℕ). put_mid a (m - a) (numbers xs) (numbers cs)) (sym (numbers_length n xs))
      ∙ ap (λ (l : List ℕ). put_mid a (length l - a) l (numbers cs)) split
      ∙ ap (λ (m : ℕ). put_mid m (length ys - m) ys (numbers cs)) (sym (numbers_length n x))
      ∙ page_written c l (numbers x) (numbers v) (drop a (numbers page)) _ (numbers cs) len e refl
      (f ∙ sym (checks_written c l (numbers x) (omega (arith, len, one-branch c l))))

  -- a page from its front of m symbols and what is copied from behind it
  pub parts_whole : (m : ℕ) (page v : List S) → numbers v ≡ numbers (take (length page - m) (drop m page)) → numbers (take m page) ++ numbers v ≡ numbers page
  parts_whole m page v e =
      ap (λ (l : List ℕ). numbers (take m page) ++ l) e
      ∙ sym (numbers_append n (take m page) (take (length page - m) (drop m page)))
      ∙ ap numbers (ap (λ (l : List S). take m page ++ l) (take_all (length page - m) (drop m page) (simp length-drop (omega arith))) ∙ take-append-drop m page)

  -- the number r of the tests is the call's, and where it is 0 the call works on these symbols x, lent y
  module _ (c : Code) (x y : List S) (r : ℕ) (fits : Bool) (h : r ≡ first_that_applies (page_tests c fits (numbers x))) (m : ℕ) (e : m ≡ data_count c) where
    pub encode_tested : fits ≡ (eqb (length x) m && eqb (length y) (m + c.k)) → r ≡ encode_answer c (numbers x) (length (numbers y))
    encode_tested i = encode_number c (numbers x) r fits h m e (length x) (length y) (length (numbers y)) i (sym (numbers_length n x)) (sym (numbers_length n y))

    pub encode_taken : fits ≡ (eqb (length x) m && eqb (length y) (m + c.k)) → r ≡ 0 → EncodeWorks c (numbers x) (length x) (length y)
    encode_taken i z = rw (numbers_length n x, numbers_length n y) at (encode_works c (numbers x) (length (numbers y)) (sym (encode_tested i) ∙ z))

    pub syndrome_tested : fits ≡ (eqb (length x) (m + c.k) && eqb (length y) c.k) → r ≡ syndrome_answer c (numbers x) (length (numbers y))
    syndrome_tested i = syndrome_number c (numbers x) r fits h m e (length x) (length y) (length (numbers y)) i (sym (numbers_length n x)) (sym (numbers_length n y))

    pub syndrome_taken : fits ≡ (eqb (length x) (m + c.k) && eqb (length y) c.k) → r ≡ 0 → SyndromeWorks c (numbers x) (length x) (length y)
    syndrome_taken i z = rw (numbers_length n x, numbers_length n y) at (syndrome_works c (numbers x) (length (numbers y)) (sym (syndrome_tested i) ∙ z))

  -- the same of open, which is lent the result r, S and D
  module _ (c : Code) (page r s d : List S) (t : ℕ) (fits : Bool) (h : t ≡ first_that_applies (page_tests c fits (numbers page))) (m : ℕ) (e : m ≡ data_count c)
      (i : fits ≡ (eqb (length page) (m + c.k) && (eqb (length r) m && (eqb (length s) c.k && eqb (length d) m)))) where
    pub open_tested : t ≡ open_answer c (numbers page) (state_by (numbers r) (numbers s) (numbers d))
    open_tested =
        open_number c (numbers page) t fits h m e (length page) (length r) (state_by (numbers r) (numbers s) (numbers d)) (length s) (length d) i
        (sym (numbers_length n page)) (sym (numbers_length n r)) (sym (numbers_length n s)) (sym (numbers_length n d))

    pub opens : t ≡ 0 → Opens c (numbers page) (state_by (numbers r) (numbers s) (numbers d))
    opens z = (open_taken c (numbers page) (state_by (numbers r) (numbers s) (numbers d)) (sym open_tested ∙ z)).1
