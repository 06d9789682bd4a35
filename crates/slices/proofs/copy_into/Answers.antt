use Rattle.std.proofs.Common.{ℕ, get_or, ap, ◌∙◌, arith}
use Rattle.model.specs.Symbols.{tabulate}
use Rattle.theory.specs.Written.{opened, turned, closed, tabulate_get_d}
use Rattle.slices.proofs.copy_into.Goals as goal

pub loop-i-init : goal.loop-i-init
loop-i-init c = opened _ _

pub loop-i-preserved : goal.loop-i-preserved
loop-i-preserved c = turned c.loop-i.invariant (omega arith) (omega arith)

pub returns : goal.returns
returns c =
    let src = c.args.src.now in
    closed c.loop-i.invariant (omega arith) ∙ ap (λ (n : ℕ). tabulate n (λ l. get_or src l 0)) c.requires ∙ tabulate_get_d src
