use Rattle.std.proofs.Common.{ℕ, ◌∙◌, ap, arith, length, length-take}
use Rattle.model.specs.Symbols.{tabulate}
use Rattle.zeros.specs.Counts.{length_run_zeros, run_zeros_below, run_zeros_none, run_zeros_turn}
use Rattle.zeros.proofs.count_run.Goals as goal

pub loop-p-init : goal.loop-p-init
loop-p-init c =
    let a = c.args in
    c.requires.2 ∙ ap (λ (n : ℕ). tabulate n (λ j. 0)) c.requires.1 ∙ run_zeros_none a.code.k a.positions.now a.s.now

pub add_zeros_from-requires : goal.add_zeros_from-requires
add_zeros_from-requires c =
    let a = c.args in
    let l = c.loop-p in (
      ap length l.invariant ∙ length_run_zeros _ _ _,
      c.requires.0.len,
      c.requires.0.ascending.below l.p-index (omega arith),
      rw l.invariant (run_zeros_below a.code.k _ a.s.now 255 (omega (arith, c.requires.0.J-high, length-take l.p-index a.positions.now))),
    )

pub loop-p-preserved : goal.loop-p-preserved
loop-p-preserved c =
    let a = c.args in
    c.add_zeros_from.ensures ∙ run_zeros_turn a.code.k a.positions.now a.s.now c.loop-p.p-index (omega arith) _ c.loop-p.invariant
