use Rattle.std.proofs.Common.{refl, sym, ap, ◌∙◌, arith}
use Rattle.std.proofs.lemmas.Result.{err_from_is_err_and}
use Rattle.model.specs.Calls.{open_outcome}
use Rattle.model.specs.Code.{wide_code}
use Rattle.model.specs.Decoder.{opened}
use Rattle.theory.specs.Outcomes.{left_as_lent, left_as_done}
use Rattle.wide_calls.specs.Received.{opens_loaded}
use Rattle.refusals.specs.Numbers.{not_zero}
use Rattle.wide_page.specs.Works.{open_tested, opens}
use Rattle.wide_symbols.specs.Numbers.{numbers_length}
use Rattle.wide_page.proofs.open.Goals as goal

pub returns-in_err-page_answer : goal.returns-in_err-page_answer
unfolding open_outcome
returns-in_err-page_answer g c =
    let n = g.met.S.Symbol.are_numbers in
    let a = c.args in
    let code = wide_code g.S.WideSymbol.profile a.k a.b a.positions.now in
    let number = open_tested n code a.page.now a.res.now a.syndrome.now a.difference.now _ _ (c.in_err-page_answer.ensures _ c.all_below.ensures) _ c.data_count-n.ensures
    c.decode_fits-fits.ensures in
    let p = err_from_is_err_and c.from_residual.result c.from_residual.ensures.1 in
    rw (p.1, p.2) (left_as_lent _ _ _ _ number (not_zero _))

pub load_page-requires : goal.load_page-requires
load_page-requires g c =
    let n = g.met.S.Symbol.are_numbers in
    let a = c.args in
    let code = wide_code g.S.WideSymbol.profile a.k a.b a.positions.now in
    let o = opens n code a.page.now a.res.now a.syndrome.now a.difference.now _ _ (c.in_ok-page_answer.ensures _ c.all_below.ensures) _ c.data_count-n.ensures
    c.decode_fits-fits.ensures refl in
    omega (arith, o.whole.len, o.len_result, o.len_syndrome, numbers_length n a.page.now, numbers_length n a.res.now, numbers_length n a.syndrome.now)

pub open_state-requires : goal.open_state-requires
open_state-requires g c =
    let n = g.met.S.Symbol.are_numbers in
    let a = c.args in
    let code = wide_code g.S.WideSymbol.profile a.k a.b a.positions.now in
    let o = opens n code a.page.now a.res.now a.syndrome.now a.difference.now _ _ (c.in_ok-page_answer.ensures _ c.all_below.ensures) _ c.data_count-n.ensures
    c.decode_fits-fits.ensures refl in
    opens_loaded code _ _ _ _ _ _ c.load_page.ensures
    (omega (arith, c.load_page.auto.res, numbers_length n a.res.now, numbers_length n c.load_page.new.res))
    (omega (arith, c.load_page.auto.s, numbers_length n a.syndrome.now, numbers_length n c.load_page.new.s)) o

pub returns : goal.returns
unfolding open_outcome
returns g c =
    let n = g.met.S.Symbol.are_numbers in
    let a = c.args in
    let code = wide_code g.S.WideSymbol.profile a.k a.b a.positions.now in
    let number = open_tested n code a.page.now a.res.now a.syndrome.now a.difference.now _ _ (c.in_ok-page_answer.ensures _ c.all_below.ensures) _ c.data_count-n.ensures
    c.decode_fits-fits.ensures in
    left_as_done _ _ _ _ number (c.open_state.ensures.state ∙ ap (opened code) c.load_page.ensures)
