use Rattle.std.proofs.Common.{◌≡◌, List, ℕ, length, get_or, ap, sym, ◌∙◌}
use Rattle.model.specs.Code.{highest}
use Rattle.model.specs.Symbols.{differ, tabulate}
use Rattle.visits.specs.Progress.{at_table}
use Rattle.wide.specs.Marks.{marks_of, marks_at_table, marks_zeros}
use Rattle.wide_symbols.specs.Numbers.{numbers_length}
use Rattle.wide_passes.proofs.run.Goals as goal

-- the marks that are made
marked : (s m : List ℕ) (n : ℕ) → length s ≡ n → m ≡ tabulate n (λ i. differ (get_or s i 0) 0) → m ≡ marks_of s
unfolding marks_of
marked s m n l e = e ∙ ap (λ (k : ℕ). tabulate k (λ i. differ (get_or s i 0) 0)) (sym l)

pub count_zeros-requires : goal.count_zeros-requires
count_zeros-requires g c =
    let s = c.args.syndrome.now in
    let m = marked (g.S.Symbol.numbers s) c.mark_into.new.marks (length s) (numbers_length g.met.S.Symbol.are_numbers s) c.mark_into.ensures in
    (marks_at_table _ (at_table _ _ c.requires.0) m, c.requires.3, c.requires.4)

pub run_counted-requires : goal.run_counted-requires
run_counted-requires g c =
    let a = c.args in
    let s = a.syndrome.now in
    let m = marked (g.S.Symbol.numbers s) c.mark_into.new.marks (length s) (numbers_length g.met.S.Symbol.are_numbers s) c.mark_into.ensures in (
      c.requires.0,
      c.requires.1,
      c.requires.2,
      c.count_zeros.ensures ∙ marks_zeros _ _ (highest g.S.WideSymbol.profile) a.code.q a.code.k a.code.b a.positions.now (g.S.Symbol.numbers s) _ m,
      m,
    )
