-- `run`: the zeros are counted first, as `run_counted` requires.
use Rattle.visits.specs.Progress.{at_table}
use Rattle.passes.proofs.run.Goals as goal

pub count_zeros-requires : goal.count_zeros-requires
count_zeros-requires c = (at_table _ _ c.requires.0, c.requires.3, c.requires.4)
