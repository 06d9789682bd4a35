use Rattle.std.proofs.Common.{ap, sym, ◌∙◌, ℕ, ◌*◌, length, arith}
use Rattle.zeros.specs.Counts.{length_zero_counts}
use Rattle.firm_symbols.specs.Phases.{zeros_below}
use Rattle.margin_bytes.specs.Phases.{bytes_first}
use Rattle.margin_bytes.proofs.write_margins.Goals as goal

pub write_by_zeros-requires : goal.write_by_zeros-requires
write_by_zeros-requires c =
    let p = c.requires in (
      omega (arith, c.checks_each.ensures, p.0.table.sizes.J-high),
      omega (arith, p.2, p.0.table.sizes.data-high),
      ap length p.1 ∙ length_zero_counts _ c.args.s.now ∙ sym p.2,
      zeros_below _ p.0.table c.args.s.now _ p.1,
      p.3 ∙ ap (λ (n : ℕ). 4 * n) (sym p.2),
    )

pub write_others-requires : goal.write_others-requires
write_others-requires c =
    let p = c.requires in
    (p.0, p.1, p.2, bytes_first p.0.table _ _ _ _ p.1 p.2 _ c.checks_each.ensures c.write_by_zeros.ensures, p.4)
