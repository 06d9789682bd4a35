-- `qmtd_decode_outer`: the number is 0 where the C form's is.
use Rattle.std.proofs.Common.{sym, ◌∙◌}
use Rattle.qmtd_outer.proofs.qmtd_decode_outer.Goals as goal

pub returns-clause-recovery : goal.returns-clause-recovery
returns-clause-recovery c = λ e. c.decode_outer.ensures.recovery (sym c.answer.ensures ∙ e)
