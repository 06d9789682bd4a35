use Rattle.std.proofs.Common.{get_or, ◌∙◌, ap, arith}
use Rattle.model.specs.Symbols.{differ, tabulate}
use Rattle.theory.specs.Written.{opened, turned, closed}
use Rattle.wide_symbols.specs.Numbers.{number_read}
use Rattle.wide_symbols.proofs.mark_into.Goals as goal

pub loop-i-init : goal.loop-i-init
loop-i-init g c = opened _ _

pub loop-i-preserved : goal.loop-i-preserved
loop-i-preserved g c =
    let n = g.met.S.Symbol.are_numbers in
    turned c.loop-i.invariant (omega arith) (c.mark.ensures ∙ ap (λ x. differ x 0) (number_read n c.args.s.now c.loop-i.i (omega arith) c.index-s-i.is))

pub returns : goal.returns
returns g c = closed c.loop-i.invariant (omega arith) ∙ ap (λ m. tabulate m (λ i. differ (get_or (g.S.Symbol.numbers c.args.s.now) i 0) 0)) c.requires
