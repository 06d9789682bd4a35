-- `margin_counted`: both terms are no more than the estimates, of which there are at most 33.
use Rattle.std.proofs.Common.{List, ℕ, ◌≤◌, ◌∙◌, ap, pos, ◌-ℤ◌, length, arith}
use Rattle.model.specs.Symbols.{count}
use Rattle.model.specs.Vote.{margin}
use Rattle.theory.specs.Margins.{count_le}
use Rattle.checks.specs.Checks.{estimates_by}
use Rattle.checks.specs.Estimates.{estimates_length}
use Rattle.margins.specs.Margins.{others_few, read_back}
use Rattle.margins.proofs.margin_counted.Goals as goal

pub margin_of-requires : goal.margin_of-requires
margin_of-requires c =
    let a = c.args in
    let es : List ℕ = estimates_by a.code.k a.positions.now a.j a.own a.s.now in
    let few : length es ≤ 33 = omega (arith, estimates_length a.code.k a.positions.now a.j a.own a.s.now, c.requires.0.J-high) in
    (omega (arith, c.requires.2, few, count_le 0 es), omega (arith, c.most_other_at.ensures, others_few es, few))

pub returns : goal.returns
unfolding margin
returns c =
    let a = c.args in
    let es : List ℕ = estimates_by a.code.k a.positions.now a.j a.own a.s.now in
    read_back _ c.margin_of.type_inv ∙ c.margin_of.ensures ∙ ap (λ (n : ℕ). pos n -ℤ pos c.most_other_at.result) c.requires.2
    ∙ ap (λ (n : ℕ). pos (count 0 es) -ℤ pos n) c.most_other_at.ensures
