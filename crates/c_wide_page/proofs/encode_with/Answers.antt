use Rattle.std.proofs.Common.{sym, ◌∙◌, arith}
use Rattle.std.proofs.lemmas.Result.{err_from_is_err_and}
use Rattle.model.specs.Bytes.{symbol_size, symbols_of}
use Rattle.model.specs.Symbols.{Below}
use Rattle.theory.specs.Outcomes.{left_as_lent, left_as_done}
use Rattle.refusals.specs.Numbers.{not_zero}
use Rattle.wide_symbols.specs.Codes.{wide_code_by}
use Rattle.wide_answers.specs.Fits.{encode_number}
use Rattle.wide_answers.specs.Own.{own}
use Rattle.wide_bytes.specs.Places.{wide_some, wide_below}
use Rattle.c_wide.specs.Calls.{encode_left, encode_takes, encodes}
use Rattle.c_wide_page.proofs.encode_with.Goals as goal

pub returns-in_err-page_answer : goal.returns-in_err-page_answer
returns-in_err-page_answer g c =
    let f = g.S.WideSymbol.profile in
    let code = wide_code_by f c.args.code c.args.positions.now in
    let u = symbols_of (symbol_size f) c.args.«data».now in
    let low = wide_below g.met.S.WideSymbol.is_wide c.args.«data».now (λ i. omega (arith, c.type_inv.«data» i)) in
    let number = encode_number code u _ _ (c.in_err-page_answer.ensures u low) _ c.data_count-n.ensures _ _ _ c.two_fit-fits.ensures c.count-sent.ensures c.count-whole.ensures in
    let p = err_from_is_err_and c.from_residual.result c.from_residual.ensures.1 in
    record {
      outcome = rw (p.1, p.2) (left_as_lent _ _ _ _ number (not_zero _) ∙ sym (encode_left code c.args.«data».now c.args.page.now));
      word = rw p.1 (λ z. absurd (not_zero _ z));
    }

pub encode_into-requires : goal.encode_into-requires
encode_into-requires g c =
    let f = g.S.WideSymbol.profile in
    let code = wide_code_by f c.args.code c.args.positions.now in
    let u = symbols_of (symbol_size f) c.args.«data».now in
    let low = wide_below g.met.S.WideSymbol.is_wide c.args.«data».now (λ i. omega (arith, c.type_inv.«data» i)) in
    let number = encode_number code u _ _ (c.in_ok-page_answer.ensures u low) _ c.data_count-n.ensures _ _ _ c.two_fit-fits.ensures c.count-sent.ensures c.count-whole.ensures in
    encode_takes code (symbol_size f) (wide_some g.met.S.WideSymbol.is_wide) c.args.«data».now c.args.page.now (sym number)

pub returns : goal.returns
returns g c =
    let f = g.S.WideSymbol.profile in
    let wide = g.met.S.WideSymbol.is_wide in
    let code = wide_code_by f c.args.code c.args.positions.now in
    let u = symbols_of (symbol_size f) c.args.«data».now in
    let bytes : Below 256 c.args.«data».now = λ i. omega (arith, c.type_inv.«data» i) in
    let low = wide_below wide c.args.«data».now bytes in
    let number = encode_number code u _ _ (c.in_ok-page_answer.ensures u low) _ c.data_count-n.ensures _ _ _ c.two_fit-fits.ensures c.count-sent.ensures c.count-whole.ensures in
    let z = sym number in
    record {
      outcome = left_as_done _ _ _ _ (sym z) c.encode_into.ensures ∙ sym (encode_left code c.args.«data».now c.args.page.now);
      word = λ r. encodes code (symbol_size f) (wide_some wide) c.args.«data».now c.args.page.now z (own wide c.args.code c.args.positions.now).values bytes _ c.encode_into.ensures;
    }
