-- `reliability_of`: both counts are at most the number of estimates.
use Rattle.std.proofs.Common.{ℕ, ap, ◌∙◌, arith, pos, ◌-ℤ◌}
use Rattle.margins.specs.Margins.{read_back}
use Rattle.model.specs.Outer.{reliability}
use Rattle.model.specs.Symbols.{count}
use Rattle.zeros.specs.Counts.{count_le}
use Rattle.reliabilities.proofs.reliability_of.Goals as goal

pub margin_of-requires : goal.margin_of-requires
margin_of-requires c =
    let es = c.args.es.now in
    (omega (arith, c.count_equal-zeros.ensures, count_le 0 es), omega (arith, c.count_equal.ensures, count_le c.args.e es))

pub returns : goal.returns
unfolding reliability
returns c =
    read_back _ c.margin_of.type_inv ∙ c.margin_of.ensures ∙ ap (λ (n : ℕ). pos n -ℤ pos c.count_equal.result) c.count_equal-zeros.ensures
    ∙ ap (λ (n : ℕ). pos (count 0 c.args.es.now) -ℤ pos n) c.count_equal.ensures
