-- `lists_fit`: the entries from place i on fit where all do.
use Rattle.std.proofs.Common.{◌≡◌, ◌<◌, length, drop}
use Rattle.model.specs.Files.{contents_end, entries_fit, listed_from}
use Rattle.file_lists.proofs.lists_fit.Given as goal

abbrev pub invariant-loop-i : goal.invariant-loop-i
invariant-loop-i l =
    (l.start < 4294967296) × (entries_fit l.least l.start l.end (listed_from l.start (drop l.i l.numbers) (drop l.i l.tops) (drop l.i l.sizes))
    ≡ entries_fit 0 (contents_end (length l.numbers)) l.end (listed_from (contents_end (length l.numbers)) l.numbers l.tops l.sizes))
