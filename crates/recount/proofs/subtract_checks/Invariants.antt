-- `subtract_checks`: h is subtracted at the checks by the positions of the run so far, and the zeros are counted as the syndrome then stands.
use Rattle.std.proofs.Common.{◌≡◌}
use Rattle.params.specs.Codes.{code_by}
use Rattle.checks.specs.Checks.{Subtracted}
use Rattle.zeros.specs.Counts.{zero_counts}
use Rattle.recount.proofs.subtract_checks.Given as goal

abbrev pub invariant-loop-p : goal.invariant-loop-p
invariant-loop-p l =
    Subtracted l.code.q l.h l.code.k l.run l.index l.initial.s l.p-index l.s × (l.zeros ≡ zero_counts (code_by l.code l.positions) l.s)
