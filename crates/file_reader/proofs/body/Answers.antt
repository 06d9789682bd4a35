use Rattle.std.proofs.Common.{Ok, Err, ◌∙◌}
use Rattle.file_reader.specs.Turns.{found_part}
use Rattle.file_reader.proofs.body.Goals as goal

pub returns-in-Ok : goal.returns-in-Ok
returns-in-Ok c = c.part.ensures ∙ found_part c.args.file.now c.args.place (Ok c.in-Ok.found) c.in-Ok.ensures

pub returns-in-Err : goal.returns-in-Err
returns-in-Err c = found_part c.args.file.now c.args.place (Err c.in-Err.field-0) c.in-Err.ensures
