use Rattle.std.proofs.Common.{refl, sym}
use Rattle.std.proofs.lemmas.Result.{err_from_is_err_and}
use Rattle.refusals.specs.Numbers.{not_zero}
use Rattle.file_reader.specs.Turns.{found_refused, found_entry, place_inside}
use Rattle.file_reader.proofs.find.Goals as goal

pub returns-in_err-read_answer : goal.returns-in_err-read_answer
returns-in_err-read_answer c =
    let p = err_from_is_err_and c.from_residual.result c.from_residual.ensures.1 in
    rw (p.1, p.2) (found_refused c.args.file.now c.args.place _ c.in_err-read_answer.ensures (not_zero _))

pub entry_at-e-requires : goal.entry_at-e-requires
entry_at-e-requires c = place_inside c.args.file.now c.args.place (sym c.in_ok-read_answer.ensures)

pub returns : goal.returns
returns c = found_entry c.args.file.now c.args.place _ _ c.in_ok-read_answer.ensures refl c.entry_at-e.ensures.0
