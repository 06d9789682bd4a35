-- `outer_steps`: before block i the state is what the first i blocks leave.
use Rattle.std.proofs.Common.{◌≡◌, ◌≤◌, ◌*◌, ◌/◌, ◌-◌}
use Rattle.model.specs.Code.{data_count}
use Rattle.model.specs.Decoder.{state_by}
use Rattle.params.specs.Codes.{code_by}
use Rattle.outer_steps.specs.Blocks.{steps_to}
use Rattle.outer_steps.proofs.outer_steps.Given as goal

abbrev pub invariant-loop-at : goal.invariant-loop-at
invariant-loop-at l =
    let c = code_by l.code l.positions in
    record {
      stepped : record { state = state_by l.res l.syndrome l.difference; steps = l.steps } ≡ steps_to c l.block (l.at / l.block) (state_by l.fn.res l.fn.syndrome l.fn.difference);
      whole : l.at ≡ l.at / l.block * l.block;
      inside : l.at ≤ data_count c;
    }

abbrev pub decreases-loop-at : goal.decreases-loop-at
decreases-loop-at l = l.n - l.at
