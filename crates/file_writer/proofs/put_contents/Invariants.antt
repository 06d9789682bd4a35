-- `put_contents`: what is written and the entries still to be written are the whole contents.
use Rattle.std.proofs.Common.{◌≡◌, ◌+◌, length, drop}
use Rattle.std.proofs.lemmas.List.Edits.{sets}
use Rattle.model.specs.Files.{total, contents_of, listed_from, contents_end}
use Rattle.file_writer.proofs.put_contents.Given as goal

abbrev pub invariant-loop-i : goal.invariant-loop-i
invariant-loop-i l =
    (l.start + total (drop l.i l.sizes) ≡ contents_end (length l.numbers) + total l.sizes)
    × (sets l.d (contents_end l.i) (contents_of (listed_from l.start (drop l.i l.numbers) (drop l.i l.tops) (drop l.i l.sizes)))
    ≡ sets l.initial.d 2 (contents_of (listed_from (contents_end (length l.numbers)) l.numbers l.tops l.sizes)))
