-- `bodies_end`: the entries from place i on, with the least page number and the start due there, end where all end.
use Rattle.std.proofs.Common.{◌≡◌, ◌-◌, ◌≤◌, length}
use Rattle.model.specs.Files.{contents_end, entries_from}
use Rattle.file_reader.specs.Turns.{end_from}
use Rattle.file_reader.proofs.bodies_end.Given as goal

abbrev pub invariant-loop-i : goal.invariant-loop-i
invariant-loop-i l =
    (2 ≤ l.start) × (end_from l.least l.start (length l.file) (entries_from l.file l.i (l.count - l.i)) ≡ end_from 0 (contents_end l.count) (length l.file) (entries_from l.file 0 l.count))
