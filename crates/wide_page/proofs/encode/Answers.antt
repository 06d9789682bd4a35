use Rattle.std.proofs.Common.{refl, length, sym, ap, ◌∙◌, arith, length-append, length-drop, length-take, length-take-le}
use Rattle.std.proofs.lemmas.Result.{err_from_is_err_and}
use Rattle.model.specs.Calls.{encode_answer, encode_outcome}
use Rattle.model.specs.Code.{wide_code}
use Rattle.theory.specs.Outcomes.{left_as_lent, left_as_done}
use Rattle.refusals.specs.Numbers.{not_zero}
use Rattle.wide_page.specs.Works.{encode_tested, encode_taken, word_written}
use Rattle.wide_symbols.specs.Numbers.{numbers_length}
use Rattle.wide_page.proofs.encode.Goals as goal

pub returns-in_err-page_answer : goal.returns-in_err-page_answer
unfolding encode_outcome
returns-in_err-page_answer g c =
    let n = g.met.S.Symbol.are_numbers in
    let code = wide_code g.S.WideSymbol.profile c.args.k c.args.b c.args.positions.now in
    let number = encode_tested n code c.args.«data».now c.args.page.now _ _ (c.in_err-page_answer.ensures _ c.all_below.ensures) _ c.data_count-n.ensures c.two_fit-fits.ensures in
    let p = err_from_is_err_and c.from_residual.result c.from_residual.ensures.1 in
    record { outcome = rw (p.1, p.2) (left_as_lent _ _ _ _ number (not_zero _)); word = rw p.1 tt }

pub slice_bounds-copy_into-end : goal.slice_bounds-copy_into-end
slice_bounds-copy_into-end g c =
    let n = g.met.S.Symbol.are_numbers in
    let code = wide_code g.S.WideSymbol.profile c.args.k c.args.b c.args.positions.now in
    let w = encode_taken n code c.args.«data».now c.args.page.now _ _ (c.in_ok-page_answer.ensures _ c.all_below.ensures) _ c.data_count-n.ensures c.two_fit-fits.ensures refl in
    omega (arith, w.of_data, w.of_page)

pub slice_bounds-copy_into-end-2 : goal.slice_bounds-copy_into-end-2
slice_bounds-copy_into-end-2 g c =
    let n = g.met.S.Symbol.are_numbers in
    let code = wide_code g.S.WideSymbol.profile c.args.k c.args.b c.args.positions.now in
    let w = encode_taken n code c.args.«data».now c.args.page.now _ _ (c.in_ok-page_answer.ensures _ c.all_below.ensures) _ c.data_count-n.ensures c.two_fit-fits.ensures refl in
    sym (length-take-le _ _ (omega (arith, w.of_data, w.of_page)))

pub copy_into-requires : goal.copy_into-requires
copy_into-requires g c =
    let n = g.met.S.Symbol.are_numbers in
    let code = wide_code g.S.WideSymbol.profile c.args.k c.args.b c.args.positions.now in
    let w = encode_taken n code c.args.«data».now c.args.page.now _ _ (c.in_ok-page_answer.ensures _ c.all_below.ensures) _ c.data_count-n.ensures c.two_fit-fits.ensures refl in
    length-take-le _ _ (omega (arith, w.of_data, w.of_page))

pub write_checks-requires : goal.write_checks-requires
write_checks-requires g c =
    let n = g.met.S.Symbol.are_numbers in
    let code = wide_code g.S.WideSymbol.profile c.args.k c.args.b c.args.positions.now in
    let w = encode_taken n code c.args.«data».now c.args.page.now _ _ (c.in_ok-page_answer.ensures _ c.all_below.ensures) _ c.data_count-n.ensures c.two_fit-fits.ensures refl in
    let e = length-take-le (length c.args.«data».now) c.args.page.now (omega (arith, w.of_data, w.of_page)) in
    (w.usable.table, w.symbols, simp (length-take, length-drop, length-append) (omega (arith, w.of_data, w.of_page, c.copy_into.auto.dst, e)))

pub returns : goal.returns
unfolding encode_outcome
returns g c =
    let n = g.met.S.Symbol.are_numbers in
    let code = wide_code g.S.WideSymbol.profile c.args.k c.args.b c.args.positions.now in
    let number = encode_tested n code c.args.«data».now c.args.page.now _ _ (c.in_ok-page_answer.ensures _ c.all_below.ensures) _ c.data_count-n.ensures c.two_fit-fits.ensures in
    let w = encode_taken n code c.args.«data».now c.args.page.now _ _ (c.in_ok-page_answer.ensures _ c.all_below.ensures) _ c.data_count-n.ensures c.two_fit-fits.ensures refl in
    let z = sym number in
    let written = word_written n code w.usable.table c.args.«data».now _ c.args.page.now _ w.symbols.len c.copy_into.ensures c.write_checks.ensures in
    record {
      outcome = left_as_done _ _ _ _ (sym z) written;
      word = (sym (ap (encode_answer code _) (numbers_length n c.args.page.now ∙ w.of_page)) ∙ z, written);
    }
