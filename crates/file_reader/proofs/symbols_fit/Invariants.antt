-- `symbols_fit`: the bodies from place i on fit where all do.
use Rattle.std.proofs.Common.{◌≡◌, ◌+◌, ◌-◌, ◌≤◌, length, drop}
use Rattle.model.specs.Files.{contents_end, entries_from, sizes_of, total, symbols_fit}
use Rattle.file_reader.proofs.symbols_fit.Given as goal

abbrev pub invariant-loop-i : goal.invariant-loop-i
invariant-loop-i l =
    (l.start + total (sizes_of (entries_from l.file l.i (l.count - l.i))) ≤ length l.file)
    × (symbols_fit (entries_from l.file l.i (l.count - l.i)) (drop l.start l.file) ≡ symbols_fit (entries_from l.file 0 l.count) (drop (contents_end l.count) l.file))
