use Rattle.std.proofs.Common.{ℕ, ◌++◌, take_at, ap, sym, ◌∙◌}
use Rattle.model.specs.Symbols.{weight, tabulate}
use Rattle.opening.specs.Opened.{opened-by, opened_distance}
use Rattle.wide_symbols.specs.Codes.{wide_code_by}
use Rattle.wide_symbols.specs.Numbers.{numbers_length}
use Rattle.wide_correction.proofs.open_state.Goals as goal

pub returns-clause-state : goal.returns-clause-state
returns-clause-state g c =
    let a = c.args in
    let f = g.S.Symbol.numbers in
    let code = wide_code_by g.S.WideSymbol.profile a.code a.positions.now in
    opened-by code (f a.res.now ++ f a.s.now) _ _ _ (sym (take_at (f a.res.now) (f a.s.now) _ c.requires.len_result)) c.write_syndrome.ensures
    (c.clear.ensures ∙ ap (λ (n : ℕ). tabulate n (λ i. 0)) (sym (numbers_length g.met.S.Symbol.are_numbers a.d.now) ∙ c.requires.len_difference))

pub returns-clause-distance : goal.returns-clause-distance
returns-clause-distance g c =
    let a = c.args in
    let f = g.S.Symbol.numbers in
    c.weight_of.ensures ∙ ap weight c.write_syndrome.ensures
    ∙ opened_distance (wide_code_by g.S.WideSymbol.profile a.code a.positions.now) (f a.res.now ++ f a.s.now) c.requires.usable c.requires.whole
