-- `read_record`: what was read is as long as the parts before this one, and no longer than the record.
use Rattle.std.proofs.Common.{◌≡◌, min}
use Rattle.runs.proofs.read_record.Given as goal

abbrev pub invariant-loop-start : goal.invariant-loop-start
invariant-loop-start g l = l.record.len ≡ min l.start l.len
