use Rattle.std.proofs.Common.{ap, ◌∙◌, set, arith}
use Rattle.model.specs.Code.{highest}
use Rattle.model.specs.Symbols.{sub}
use Rattle.wide_symbols.specs.Numbers.{number_read, numbers_set}
use Rattle.wide_visits.proofs.subtract_symbol.Goals as goal

pub returns : goal.returns
returns g c =
    let n = g.met.S.Symbol.are_numbers in
    let s = g.S.WideSymbol in
    let a = c.args in (
      numbers_set n a.res.now a.j _ ∙ ap (set (g.S.Symbol.numbers a.res.now) a.j) (c.sub_wrap.ensures ∙ ap (λ x. sub (highest s.profile) x (g.S.Symbol.number a.h)) (number_read n a.res.now a.j (omega arith) c.index-res-j.is)),
      numbers_set n a.difference.now a.j _ ∙ ap (set (g.S.Symbol.numbers a.difference.now) a.j) (c.sub_wrap-2.ensures ∙ ap (λ x. sub (highest s.profile) x (g.S.Symbol.number a.h)) (number_read n a.difference.now a.j (omega arith) c.index-difference-j.is)),
    )
