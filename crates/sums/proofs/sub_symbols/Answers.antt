use Rattle.std.proofs.Common.{ℕ, get_or, ap, ◌∙◌, arith}
use Rattle.model.specs.Symbols.{sub, sub_each, tabulate}
use Rattle.theory.specs.Written.{opened, turned, closed}
use Rattle.sums.proofs.sub_symbols.Goals as goal

pub loop-i-init : goal.loop-i-init
loop-i-init c = opened _ _

pub loop-i-preserved : goal.loop-i-preserved
loop-i-preserved c = turned c.loop-i.invariant (omega arith) c.sub_mod.ensures

pub returns : goal.returns
unfolding sub_each
returns c =
    let a = c.args in
    closed c.loop-i.invariant (omega arith) ∙ ap (λ (n : ℕ). tabulate n (λ l. sub a.q (get_or a.xs.now l 0) (get_or a.ys.now l 0))) c.requires.1
