use Rattle.std.proofs.Common.{sym, ◌∙◌, arith}
use Rattle.std.proofs.lemmas.Result.{err_from_is_err_and}
use Rattle.model.specs.Bytes.{symbol_size, symbols_of}
use Rattle.theory.specs.Outcomes.{left_as_lent, left_as_done}
use Rattle.refusals.specs.Numbers.{not_zero}
use Rattle.wide_symbols.specs.Codes.{wide_code_by}
use Rattle.wide_answers.specs.Fits.{syndrome_number}
use Rattle.wide_bytes.specs.Places.{wide_some, wide_below}
use Rattle.c_wide.specs.Calls.{syndrome_left, syndrome_takes}
use Rattle.c_wide_page.proofs.syndrome_with.Goals as goal

pub returns-in_err-page_answer : goal.returns-in_err-page_answer
returns-in_err-page_answer g c =
    let f = g.S.WideSymbol.profile in
    let code = wide_code_by f c.args.code c.args.positions.now in
    let u = symbols_of (symbol_size f) c.args.page.now in
    let low = wide_below g.met.S.WideSymbol.is_wide c.args.page.now (λ i. omega (arith, c.type_inv.page i)) in
    let number = syndrome_number code u _ _ (c.in_err-page_answer.ensures u low) _ c.data_count-n.ensures _ _ _ c.two_fit-fits.ensures c.count-whole.ensures c.count-checks.ensures in
    let p = err_from_is_err_and c.from_residual.result c.from_residual.ensures.1 in
    rw (p.1, p.2) (left_as_lent _ _ _ _ number (not_zero _) ∙ sym (syndrome_left code c.args.page.now c.args.s.now))

pub syndrome_into-requires : goal.syndrome_into-requires
syndrome_into-requires g c =
    let f = g.S.WideSymbol.profile in
    let code = wide_code_by f c.args.code c.args.positions.now in
    let u = symbols_of (symbol_size f) c.args.page.now in
    let low = wide_below g.met.S.WideSymbol.is_wide c.args.page.now (λ i. omega (arith, c.type_inv.page i)) in
    let number = syndrome_number code u _ _ (c.in_ok-page_answer.ensures u low) _ c.data_count-n.ensures _ _ _ c.two_fit-fits.ensures c.count-whole.ensures c.count-checks.ensures in
    syndrome_takes code (symbol_size f) (wide_some g.met.S.WideSymbol.is_wide) c.args.page.now c.args.s.now (sym number)

pub returns : goal.returns
returns g c =
    let f = g.S.WideSymbol.profile in
    let code = wide_code_by f c.args.code c.args.positions.now in
    let u = symbols_of (symbol_size f) c.args.page.now in
    let low = wide_below g.met.S.WideSymbol.is_wide c.args.page.now (λ i. omega (arith, c.type_inv.page i)) in
    let number = syndrome_number code u _ _ (c.in_ok-page_answer.ensures u low) _ c.data_count-n.ensures _ _ _ c.two_fit-fits.ensures c.count-whole.ensures c.count-checks.ensures in
    left_as_done _ _ _ _ number c.syndrome_into.ensures ∙ sym (syndrome_left code c.args.page.now c.args.s.now)
