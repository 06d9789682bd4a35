-- The counts of a tally, and of what decode hands back.
use Rattle.std.specs.Prelude.{Result, Ok, Err}
use Rattle.model.specs.Calls.{no_counts}
use Rattle.model.specs.Decoder.{Counts}
use Rattle.refusals.specs.declared.Refusal.{Refusal}
use Rattle.tally.specs.declared.Tally.{Tally}

abbrev pub counts_of : Tally → Counts
counts_of t = record { passes = t.passes; changes = t.changes; start = t.start; end = t.end }

-- four zeros where it is refused
abbrev pub counts_in : Result Tally Refusal → Counts
counts_in (Ok tally) = counts_of tally
counts_in (Err refusal) = no_counts
