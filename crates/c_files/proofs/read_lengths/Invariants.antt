-- `read_lengths`: what is left falls by each length read, and those read are kept in order.
use Rattle.std.proofs.Common.{◌≡◌, ◌+◌, ◌*◌, ◌≤◌, length, take}
use Rattle.model.specs.Bytes.{symbols_of}
use Rattle.model.specs.Files.{total}
use Rattle.c_files.proofs.read_lengths.Given as goal

abbrev pub invariant-loop-i : goal.invariant-loop-i
invariant-loop-i l =
    (l.left + total (take l.i (symbols_of 4 l.bytes)) ≡ l.n)
    × (length l.bytes ≤ 4 * length l.sizes → take l.i l.sizes ≡ take l.i (symbols_of 4 l.bytes))
