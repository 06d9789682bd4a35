-- What explain hands back, as the model has it.
use Rattle.std.specs.Prelude.{Result, Ok, Err}
use Rattle.model.specs.Calls.{Explained, not_explained}
use Rattle.refusals.specs.declared.Refusal.{Refusal}
use Rattle.grounds.specs.declared.Told.{Told}

-- refused, zeros
abbrev pub explained_of : Result Told Refusal → Explained
explained_of (Ok t) = record { ground_number = t.ground_number; leader = t.leader; lead = t.lead; next = t.next; bits = t.bits }
explained_of (Err _) = not_explained
