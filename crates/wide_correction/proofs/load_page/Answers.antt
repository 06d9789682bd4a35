use Rattle.std.proofs.Common.{List, ℕ, ◌-◌, ◌++◌, length, take, drop, length-drop, take_all, take-append-drop, ap, sym, ◌∙◌, arith}
use Rattle.wide_symbols.specs.Numbers.{numbers_append}
use Rattle.wide_correction.proofs.load_page.Goals as goal

pub returns : goal.returns
returns g c =
    let f = g.S.Symbol.numbers in
    let page = c.args.page.now in
    let n : ℕ = length c.args.res.now in
    let rest = take_all (length page - n) (drop n page) (omega (arith, length-drop n page)) in
    ap (λ (l : List ℕ). l ++ f c.copy_into-2.new.dst) c.copy_into.ensures
    ∙ ap (λ (l : List ℕ). f (take n page) ++ l) (c.copy_into-2.ensures ∙ ap f rest)
    ∙ sym (numbers_append g.met.S.Symbol.are_numbers (take n page) (drop n page)) ∙ ap f (take-append-drop n page)
