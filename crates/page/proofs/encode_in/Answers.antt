-- `encode_in`: done, the page is the code word of the data. That the call is not refused is looked for among the facts of each goal.
use Rattle.std.proofs.Common.{◌≡◌, Bool, ◌&&◌, List, ◌++◌, ℕ, ◌+◌, ◌*◌, eqb, length, drop, sym, ◌∙◌, ap, arith}
use Rattle.std.proofs.Math.Seq.{length-take-le}
use Rattle.model.specs.Calls.{first_that_applies, page_tests, encode_answer, encode_outcome}
use Rattle.model.specs.Code.{Code, code_in, code_word}
use Rattle.theory.specs.Codes.{ByteCode}
use Rattle.theory.specs.Outcomes.{left_as_done}
use Rattle.theory.specs.Steps.{SymbolsBelow}
use Rattle.params.specs.Codes.{profile_of, in_bytes}
use Rattle.codeword.specs.Checks.{behind_length, page_written}
use Rattle.page.specs.Calls.{number_by, taken}
use Rattle.page.proofs.encode_in.Goals as goal

-- what it works on where it is not refused
record Works (bits : Bool) (q k b : ℕ) (positions u page : List ℕ) : Type 0 where
  code : ByteCode (code_in (profile_of bits) q k b positions)
  symbols : SymbolsBelow q (b * k) u
  len : length page ≡ b * k + k
  answer : 0 ≡ encode_answer (code_in (profile_of bits) q k b positions) u (length page)

works : (bits : Bool) (q k b : ℕ) (positions u page : List ℕ) (n : ℕ) (fits : Bool) (number : ℕ) → n ≡ b * k → fits ≡ (eqb (length u) n && eqb (length page) (n + k))
    → number ≡ first_that_applies (page_tests (code_in (profile_of bits) q k b positions) fits u) → number ≡ 0 → Works bits q k b positions u page
unfolding encode_answer
works bits q k b positions u page n fits number m f e z =
    let c : Code = code_in (profile_of bits) q k b positions in
    let g : fits ≡ (eqb (length u) (b * k) && eqb (length page) (b * k + k)) = f ∙ ap (λ (x : ℕ). eqb (length u) x && eqb (length page) (x + k)) m in
    let t = taken c u (b * k) (length page) (b * k + k) fits g number e (in_bytes bits) z in
    record {
      code = t.0;
      symbols = t.1;
      len = t.2;
      answer = sym z ∙ number_by c u (b * k) (length page) (b * k + k) fits g number e;
    }

pub slice_bounds-copy_into-end : goal.slice_bounds-copy_into-end
slice_bounds-copy_into-end c =
    let a = c.args in
    let w : Works a.bits a.q a.k a.b a.positions.now a.«data».now a.page.now = works _ _ _ _ _ _ _ _ _ _ c.data_count-n.ensures c.two_fit-fits.ensures c.page_answer.ensures (omega arith) in
    omega (arith, w.symbols.len, w.len)

pub slice_bounds-copy_into-end-2 : goal.slice_bounds-copy_into-end-2
slice_bounds-copy_into-end-2 c =
    let a = c.args in
    let w : Works a.bits a.q a.k a.b a.positions.now a.«data».now a.page.now = works _ _ _ _ _ _ _ _ _ _ c.data_count-n.ensures c.two_fit-fits.ensures c.page_answer.ensures (omega arith) in
    sym (length-take-le _ _ (omega (arith, w.symbols.len, w.len)))

pub copy_into-requires : goal.copy_into-requires
copy_into-requires c =
    let a = c.args in
    let w : Works a.bits a.q a.k a.b a.positions.now a.«data».now a.page.now = works _ _ _ _ _ _ _ _ _ _ c.data_count-n.ensures c.two_fit-fits.ensures c.page_answer.ensures (omega arith) in
    length-take-le _ _ (omega (arith, w.symbols.len, w.len))

pub first_row-requires : goal.first_row-requires
first_row-requires c =
    let a = c.args in
    let w : Works a.bits a.q a.k a.b a.positions.now a.«data».now a.page.now = works _ _ _ _ _ _ _ _ _ _ c.data_count-n.ensures c.two_fit-fits.ensures c.page_answer.ensures (omega arith) in
    (w.code, w.symbols, behind_length (c.copy_into.new.dst ++ drop (length a.«data».now) a.page.now) (length a.«data».now) a.k (omega (arith, w.symbols.len, w.len)))

pub add_branches-requires : goal.add_branches-requires
add_branches-requires c =
    let a = c.args in
    let w : Works a.bits a.q a.k a.b a.positions.now a.«data».now a.page.now = works _ _ _ _ _ _ _ _ _ _ c.data_count-n.ensures c.two_fit-fits.ensures c.page_answer.ensures (omega arith) in
    (w.code, w.symbols, c.first_row.ensures.below)

pub returns-clause-outcome : goal.returns-clause-outcome
unfolding encode_outcome
returns-clause-outcome c =
    let a = c.args in
    let w : Works a.bits a.q a.k a.b a.positions.now a.«data».now a.page.now = works _ _ _ _ _ _ _ _ _ _ c.data_count-n.ensures c.two_fit-fits.ensures c.page_answer.ensures (omega arith) in
    left_as_done _ _ _ _ w.answer
    (page_written (code_in (profile_of a.bits) a.q a.k a.b a.positions.now) w.code.table a.«data».now c.copy_into.new.dst (drop (length a.«data».now) a.page.now) _ _ w.symbols.len c.copy_into.ensures
    c.first_row.ensures.written c.add_branches.ensures)

pub returns-clause-word : goal.returns-clause-word
unfolding code_word
returns-clause-word c =
    let a = c.args in
    let w : Works a.bits a.q a.k a.b a.positions.now a.«data».now a.page.now = works _ _ _ _ _ _ _ _ _ _ c.data_count-n.ensures c.two_fit-fits.ensures c.page_answer.ensures (omega arith) in (
      sym (w.answer ∙ ap (λ (l : ℕ). encode_answer (code_in (profile_of a.bits) a.q a.k a.b a.positions.now) a.«data».now l) w.len),
      page_written (code_in (profile_of a.bits) a.q a.k a.b a.positions.now) w.code.table a.«data».now c.copy_into.new.dst (drop (length a.«data».now) a.page.now) _ _ w.symbols.len c.copy_into.ensures
          c.first_row.ensures.written c.add_branches.ensures,
    )
