-- `fill`: at distance 0 every margin is J + 1.
use Rattle.std.proofs.Common.{ℕ, ◌+◌, ap, sym, ◌∙◌}
use Rattle.std.specs.Prelude.{map, pos, ◌-ℤ◌}
use Rattle.model.specs.Decoder.{state_by, state_weight}
use Rattle.model.specs.Symbols.{tabulate}
use Rattle.params.specs.Codes.{code_by}
use Rattle.margins.specs.Margins.{margins_firm}
use Rattle.page_margins.proofs.fill.Goals as goal

pub returns-then-end-eq0 : goal.returns-then-end-eq0
unfolding state_weight
returns-then-end-eq0 c r =
    let a = c.args in
    let q = c.requires in
    c.write_firm.ensures ∙ ap (λ (n : ℕ). map (λ j. pos (c.checks_each.result + 1) -ℤ pos 0) (tabulate n (λ j. j))) q.1
    ∙ margins_firm (code_by a.code a.positions.now) q.0.checks.table (state_by r a.s.now a.d.now) _ (ap (λ (n : ℕ). n + 1) c.checks_each.ensures)
    (sym q.0.weighed ∙ c.if-end-eq0.true)
