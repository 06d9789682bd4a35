-- `read_positions`: of the first i bytes the complete positions are stored, and the last byte is kept.
use Rattle.std.proofs.Common.{◌≡◌, ◌-◌, ◌/◌, ◌<◌, get_or, take}
use Rattle.model.specs.Bytes.{position_at}
use Rattle.model.specs.Symbols.{tabulate}
use Rattle.position_bytes.proofs.read_positions.Given as goal

abbrev pub invariant-loop-i : goal.invariant-loop-i
invariant-loop-i l =
    (take (l.i / 2) l.positions ≡ tabulate (l.i / 2) (position_at l.table)) × (0 < l.i → l.last ≡ get_or l.table (l.i - 1) 0)
