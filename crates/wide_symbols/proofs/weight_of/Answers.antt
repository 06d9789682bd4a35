use Rattle.std.proofs.Common.{take_all, sym, ap, ◌∙◌, arith}
use Rattle.model.specs.Code.{highest}
use Rattle.model.specs.Symbols.{add, differ, weight}
use Rattle.slices.specs.Scans.{weight_none}
use Rattle.wide_symbols.specs.Numbers.{numbers_length, number_read}
use Rattle.wide_symbols.specs.Turns.{weight_wraps}
use Rattle.wide_symbols.specs.Widths.{wide_low}
use Rattle.wide_symbols.proofs.weight_of.Goals as goal

pub loop-x-init : goal.loop-x-init
loop-x-init g c = c.narrowed-n.ensures ∙ sym (weight_none (g.S.Symbol.numbers c.args.s.now))

pub loop-x-preserved : goal.loop-x-preserved
loop-x-preserved g c =
    let n = g.met.S.Symbol.are_numbers in
    let xs = g.S.Symbol.numbers c.args.s.now in
    let q = highest g.S.WideSymbol.profile in
    let m = c.nonzero.ensures ∙ ap (λ x. differ x 0) (number_read n c.args.s.now c.loop-x.x-index (omega arith) c.x-item.is) in
    c.add_wrap-n.ensures ∙ ap (λ x. add q x (g.S.Symbol.number c.nonzero.result)) c.loop-x.invariant
    ∙ weight_wraps q xs c.loop-x.x-index _ (wide_low g.met.S.WideSymbol.is_wide) (omega (arith, numbers_length n c.args.s.now)) (omega (arith, numbers_length n c.args.s.now)) m

pub returns : goal.returns
returns g c =
    c.widened.ensures ∙ c.loop-x.invariant ∙ ap weight (take_all c.loop-x.x-index (g.S.Symbol.numbers c.args.s.now) (omega (arith, numbers_length g.met.S.Symbol.are_numbers c.args.s.now)))
