use Rattle.std.proofs.Common.{map, ℕ, ◌+◌, pos, ◌-ℤ◌, sym, ap, ◌∙◌}
use Rattle.model.specs.Decoder.{state_by, state_weight}
use Rattle.model.specs.Symbols.{tabulate}
use Rattle.margins.specs.Margins.{margins_firm}
use Rattle.wide_symbols.specs.Codes.{wide_code_by}
use Rattle.wide_margins.proofs.fill.Goals as goal

pub returns-then-end-eq0 : goal.returns-then-end-eq0
unfolding state_weight
returns-then-end-eq0 g c r =
    let h = g.S.WideSymbol in
    let a = c.args in
    let p = c.requires.0 in
    c.write_firm.ensures ∙ ap (λ (m : ℕ). map (λ j. pos (c.checks_each.result + 1) -ℤ pos 0) (tabulate m (λ j. j))) c.requires.1
    ∙ margins_firm (wide_code_by h.profile a.code a.positions.now) p.checks.table (state_by r (g.S.Symbol.numbers a.s.now) (g.S.Symbol.numbers a.d.now)) _ (ap (λ (m : ℕ). m + 1) c.checks_each.ensures)
    (sym p.weighed ∙ c.if-end-eq0.true)
