-- `encode_outer`: done, the page is the code word of the data with each block's last place replaced. That the call is not refused is looked for
-- among the facts of each goal.
use Rattle.std.proofs.Common.{◌≡◌, Bool, ◌&&◌, List, ◌++◌, ℕ, ◌+◌, ◌*◌, eqb, length, drop, sym, subst, ◌∙◌, ap, arith}
use Rattle.std.proofs.Math.Seq.{length-take-le}
use Rattle.model.specs.Calls.{first_that_applies, page_tests, block_test, encode_fits, encode_answer, encode_outer_answer}
use Rattle.model.specs.Code.{Code, code_of, data_count, page_length}
use Rattle.model.specs.Demand.{EncodesOuter}
use Rattle.theory.specs.Answers.{BlockFits, and_true, eqb-true, page_taken, page_bytes, encode_symbols, encode_outer_taken}
use Rattle.theory.specs.Codes.{Usable, ByteCode}
use Rattle.theory.proofs.Statements.{outer_encodes}
use Rattle.theory.specs.Steps.{SymbolsBelow}
use Rattle.codeword.specs.Checks.{behind_length, page_written}
use Rattle.outer_page.proofs.encode_outer.Goals as goal

-- what it works on where it is not refused
record Works (q k b block : ℕ) (positions u page : List ℕ) : Type 0 where
  usable : Usable (code_of q k b positions)
  code : ByteCode (code_of q k b positions)
  block_fits : BlockFits (code_of q k b positions) block
  symbols : SymbolsBelow q (b * k) u
  len : length page ≡ b * k + k
  answer : encode_outer_answer (code_of q k b positions) block u (length page) ≡ 0

works : (q k b block : ℕ) (positions u page : List ℕ) (n : ℕ) (fits : Bool) (number : ℕ) → n ≡ b * k → fits ≡ (eqb (length u) n && eqb (length page) (n + k))
    → number ≡ first_that_applies (page_tests (code_of q k b positions) fits u ++ block_test (code_of q k b positions) block) → number ≡ 0
    → Works q k b block positions u page
unfolding encode_outer_answer encode_answer
works q k b block positions u page n fits number m f e z =
    let c : Code = code_of q k b positions in
    let all : Bool = encode_fits c (length u) (length page) in
    let answer : encode_outer_answer c block u (length page) ≡ 0 =
    sym (e ∙ ap (λ (x : Bool). first_that_applies (page_tests c x u ++ block_test c block)) (f ∙ ap (λ (x : ℕ). eqb (length u) x && eqb (length page) (x + k)) m)) ∙ z in
    let a = encode_outer_taken c block u (length page) answer in
    let p = page_taken c all u a.0 in
    record {
      usable = p.usable;
      code = page_bytes c all u (omega arith) p;
      block_fits = a.1;
      symbols = encode_symbols c u (length page) a.0;
      len = eqb-true (length page) (page_length c) (and_true (eqb (length u) (data_count c)) (eqb (length page) (page_length c)) p.buffers).1;
      answer = answer;
    }

pub slice_bounds-copy_into-end : goal.slice_bounds-copy_into-end
slice_bounds-copy_into-end c =
    let a = c.args in
    let w : Works a.q a.k a.b a.block a.positions.now a.«data».now a.page.now = works _ _ _ _ _ _ _ _ _ _ c.data_count-n.ensures c.two_fit-fits.ensures c.encode_outer_answer.ensures (omega arith) in
    omega (arith, w.symbols.len, w.len)

pub slice_bounds-copy_into-end-2 : goal.slice_bounds-copy_into-end-2
slice_bounds-copy_into-end-2 c =
    let a = c.args in
    let w : Works a.q a.k a.b a.block a.positions.now a.«data».now a.page.now = works _ _ _ _ _ _ _ _ _ _ c.data_count-n.ensures c.two_fit-fits.ensures c.encode_outer_answer.ensures (omega arith) in
    sym (length-take-le _ _ (omega (arith, w.symbols.len, w.len)))

pub copy_into-requires : goal.copy_into-requires
copy_into-requires c =
    let a = c.args in
    let w : Works a.q a.k a.b a.block a.positions.now a.«data».now a.page.now = works _ _ _ _ _ _ _ _ _ _ c.data_count-n.ensures c.two_fit-fits.ensures c.encode_outer_answer.ensures (omega arith) in
    length-take-le _ _ (omega (arith, w.symbols.len, w.len))

pub first_row-requires : goal.first_row-requires
first_row-requires c =
    let a = c.args in
    let w : Works a.q a.k a.b a.block a.positions.now a.«data».now a.page.now = works _ _ _ _ _ _ _ _ _ _ c.data_count-n.ensures c.two_fit-fits.ensures c.encode_outer_answer.ensures (omega arith) in
    (w.code, w.symbols, behind_length (c.copy_into.new.dst ++ drop (length a.«data».now) a.page.now) (length a.«data».now) a.k (omega (arith, w.symbols.len, w.len)))

pub add_branches-requires : goal.add_branches-requires
add_branches-requires c =
    let a = c.args in
    let w : Works a.q a.k a.b a.block a.positions.now a.«data».now a.page.now = works _ _ _ _ _ _ _ _ _ _ c.data_count-n.ensures c.two_fit-fits.ensures c.encode_outer_answer.ensures (omega arith) in
    (w.code, w.symbols, c.first_row.ensures.below)

pub write_outer_checks-requires : goal.write_outer_checks-requires
write_outer_checks-requires c =
    let a = c.args in
    let w : Works a.q a.k a.b a.block a.positions.now a.«data».now a.page.now = works _ _ _ _ _ _ _ _ _ _ c.data_count-n.ensures c.two_fit-fits.ensures c.encode_outer_answer.ensures (omega arith) in (
      w.usable,
      w.code.q_high,
      w.block_fits,
      w.symbols,
      page_written (code_of a.q a.k a.b a.positions.now) w.code.table a.«data».now c.copy_into.new.dst (drop (length a.«data».now) a.page.now) _ _ w.symbols.len c.copy_into.ensures
          c.first_row.ensures.written c.add_branches.ensures,
    )

pub returns-clause-word : goal.returns-clause-word
returns-clause-word c =
    let a = c.args in
    let w : Works a.q a.k a.b a.block a.positions.now a.«data».now a.page.now = works _ _ _ _ _ _ _ _ _ _ c.data_count-n.ensures c.two_fit-fits.ensures c.encode_outer_answer.ensures (omega arith) in
    subst (EncodesOuter (code_of a.q a.k a.b a.positions.now) a.block a.«data».now) (sym c.write_outer_checks.ensures)
    (outer_encodes (code_of a.q a.k a.b a.positions.now) a.block a.«data».now (length a.page.now) w.answer)
