use Rattle.std.proofs.Common.{ℕ, ◌+◌, ◌/◌, refl, ap, ◌∙◌, get_or, set, take, arith}
use Rattle.model.specs.Symbols.{tabulate}
use Rattle.position_bytes.specs.Positions.{byte_turn}
use Rattle.position_bytes.proofs.read_positions.Goals as goal

pub loop-i-init : goal.loop-i-init
unfolding tabulate
loop-i-init c = (refl, λ h. absurd (omega arith))

pub loop-i-preserved : goal.loop-i-preserved
loop-i-preserved c =
    let l = c.loop-i in
    let table = c.args.table.now in (
      ap (λ (x : ℕ). take ((l.i + 1) / 2) (set l.positions (l.i / 2) x)) c.position.ensures
          ∙ byte_turn table l.positions l.i l.last (omega arith) l.invariant.0 l.invariant.1,
      λ _. ap (λ (n : ℕ). get_or table n 0) (omega arith),
    )
