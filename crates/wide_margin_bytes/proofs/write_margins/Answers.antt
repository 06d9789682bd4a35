use Rattle.std.proofs.Common.{◌≡◌, List, get_or, ℕ, ◌*◌, ap, sym, ◌∙◌, length, arith}
use Rattle.model.specs.Symbols.{differ, tabulate}
use Rattle.zeros.specs.Counts.{length_zero_counts}
use Rattle.firm_symbols.specs.Phases.{zeros_below}
use Rattle.wide.specs.Marks.{marks_of}
use Rattle.wide_margins.specs.Marked.{length_marked, first_marked}
use Rattle.wide_symbols.specs.Numbers.{numbers_length}
use Rattle.wide_margin_bytes.proofs.write_margins.Goals as goal

-- marks that were written are those of D
marked : (d : List ℕ) {m : List ℕ} (n : ℕ) → n ≡ length d → m ≡ tabulate n (λ i. differ (get_or d i 0) 0) → m ≡ marks_of d
unfolding marks_of
marked d n e h = h ∙ ap (λ (k : ℕ). tabulate k (λ i. differ (get_or d i 0) 0)) e

pub write_by_zeros-requires : goal.write_by_zeros-requires
write_by_zeros-requires g c =
    let p = c.requires in
    let n = numbers_length g.met.S.Symbol.are_numbers c.args.d.now in
    let m = length_marked c.args.zeros.now _ _ (marked _ _ (sym n) c.mark_into.ensures) ∙ n in (
      omega (arith, c.checks_each.ensures, p.0.table.sizes.J-high),
      omega (arith, m, p.2, p.0.table.sizes.data-high),
      ap length p.1 ∙ length_zero_counts _ (g.S.Symbol.numbers c.args.s.now) ∙ sym p.2 ∙ sym m,
      zeros_below _ p.0.table (g.S.Symbol.numbers c.args.s.now) _ p.1,
      p.3 ∙ ap (λ (k : ℕ). 4 * k) (sym p.2 ∙ sym m),
    )

pub write_others-requires : goal.write_others-requires
write_others-requires g c =
    let p = c.requires in
    let n = numbers_length g.met.S.Symbol.are_numbers c.args.d.now in
    let m = marked _ _ (sym n) c.mark_into.ensures in (
      p.0,
      p.1,
      p.2,
      first_marked c.args.zeros.now _ _ m p.0.table _ _ p.1 (n ∙ p.2) _ c.checks_each.ensures c.write_by_zeros.ensures,
      m,
    )
