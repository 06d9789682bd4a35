use Rattle.std.proofs.Common.{refl, sym, ap, ◌∙◌, subst, arith, length-take, length-drop, length-take-le}
use Rattle.std.proofs.lemmas.Result.{err_from_is_err_and}
use Rattle.model.specs.Calls.{syndrome_outcome}
use Rattle.model.specs.Code.{wide_code, highest, syndrome}
use Rattle.model.specs.Symbols.{Below}
use Rattle.theory.specs.Outcomes.{left_as_lent, left_as_done}
use Rattle.theory.specs.Parts.{below_part}
use Rattle.refusals.specs.Numbers.{not_zero}
use Rattle.wide_page.specs.Works.{syndrome_tested, syndrome_taken, parts_whole}
use Rattle.wide_symbols.specs.Numbers.{numbers_length, numbers_take}
use Rattle.wide_symbols.specs.Widths.{wide_low}
use Rattle.wide_page.proofs.syndrome.Goals as goal

pub returns-in_err-page_answer : goal.returns-in_err-page_answer
unfolding syndrome_outcome
returns-in_err-page_answer g c =
    let n = g.met.S.Symbol.are_numbers in
    let code = wide_code g.S.WideSymbol.profile c.args.k c.args.b c.args.positions.now in
    let number = syndrome_tested n code c.args.page.now c.args.s.now _ _ (c.in_err-page_answer.ensures _ c.all_below.ensures) _ c.data_count-n.ensures c.two_fit-fits.ensures in
    let p = err_from_is_err_and c.from_residual.result c.from_residual.ensures.1 in
    rw (p.1, p.2) (left_as_lent _ _ _ _ number (not_zero _))

pub offset_bounds-page-n : goal.offset_bounds-page-n
offset_bounds-page-n g c =
    let n = g.met.S.Symbol.are_numbers in
    let code = wide_code g.S.WideSymbol.profile c.args.k c.args.b c.args.positions.now in
    let w = syndrome_taken n code c.args.page.now c.args.s.now _ _ (c.in_ok-page_answer.ensures _ c.all_below.ensures) _ c.data_count-n.ensures c.two_fit-fits.ensures refl in
    omega (arith, w.of_page, c.data_count-n.ensures)

pub slice_bounds-copy_into-count : goal.slice_bounds-copy_into-count
slice_bounds-copy_into-count g c =
    let n = g.met.S.Symbol.are_numbers in
    let code = wide_code g.S.WideSymbol.profile c.args.k c.args.b c.args.positions.now in
    let w = syndrome_taken n code c.args.page.now c.args.s.now _ _ (c.in_ok-page_answer.ensures _ c.all_below.ensures) _ c.data_count-n.ensures c.two_fit-fits.ensures refl in
    omega (arith, w.of_page, c.data_count-n.ensures)

pub slice_bounds-copy_into-start : goal.slice_bounds-copy_into-start
slice_bounds-copy_into-start g c =
    let n = g.met.S.Symbol.are_numbers in
    let code = wide_code g.S.WideSymbol.profile c.args.k c.args.b c.args.positions.now in
    let w = syndrome_taken n code c.args.page.now c.args.s.now _ _ (c.in_ok-page_answer.ensures _ c.all_below.ensures) _ c.data_count-n.ensures c.two_fit-fits.ensures refl in
    omega (arith, w.of_page, c.data_count-n.ensures)

pub copy_into-requires : goal.copy_into-requires
copy_into-requires g c =
    let n = g.met.S.Symbol.are_numbers in
    let code = wide_code g.S.WideSymbol.profile c.args.k c.args.b c.args.positions.now in
    let w = syndrome_taken n code c.args.page.now c.args.s.now _ _ (c.in_ok-page_answer.ensures _ c.all_below.ensures) _ c.data_count-n.ensures c.two_fit-fits.ensures refl in
    simp (length-take, length-drop) (omega (arith, w.of_page, w.of_checks, c.data_count-n.ensures))

pub slice_bounds-write_syndrome-end : goal.slice_bounds-write_syndrome-end
slice_bounds-write_syndrome-end g c =
    let n = g.met.S.Symbol.are_numbers in
    let code = wide_code g.S.WideSymbol.profile c.args.k c.args.b c.args.positions.now in
    let w = syndrome_taken n code c.args.page.now c.args.s.now _ _ (c.in_ok-page_answer.ensures _ c.all_below.ensures) _ c.data_count-n.ensures c.two_fit-fits.ensures refl in
    sym (length-take-le _ _ (omega (arith, w.of_page, c.data_count-n.ensures)))

pub write_syndrome-requires : goal.write_syndrome-requires
write_syndrome-requires g c =
    let n = g.met.S.Symbol.are_numbers in
    let code = wide_code g.S.WideSymbol.profile c.args.k c.args.b c.args.positions.now in
    let w = syndrome_taken n code c.args.page.now c.args.s.now _ _ (c.in_ok-page_answer.ensures _ c.all_below.ensures) _ c.data_count-n.ensures c.two_fit-fits.ensures refl in
    let q = highest g.S.WideSymbol.profile in
    let page = c.args.page.now in
    let m = c.data_count-n.result in (
      w.usable.table,
      record {
        len = numbers_length n _ ∙ length-take-le m page (omega (arith, w.of_page, c.data_count-n.ensures)) ∙ c.data_count-n.ensures;
        low = subst (Below q) (sym (numbers_take n m page)) (below_part q (omega (arith, wide_low g.met.S.WideSymbol.is_wide)) 0 m _ w.symbols.low);
      },
      omega (arith, c.copy_into.auto.dst, w.of_checks),
    )

pub returns : goal.returns
unfolding syndrome_outcome
returns g c =
    let n = g.met.S.Symbol.are_numbers in
    let code = wide_code g.S.WideSymbol.profile c.args.k c.args.b c.args.positions.now in
    let number = syndrome_tested n code c.args.page.now c.args.s.now _ _ (c.in_ok-page_answer.ensures _ c.all_below.ensures) _ c.data_count-n.ensures c.two_fit-fits.ensures in
    left_as_done _ _ _ _ number
    (c.write_syndrome.ensures ∙ ap (syndrome code) (parts_whole n c.data_count-n.result c.args.page.now c.copy_into.new.dst c.copy_into.ensures))
