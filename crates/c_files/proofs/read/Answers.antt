use Rattle.std.proofs.Common.{◌≡◌, Ok, Err, length, refl, arith}
use Rattle.std.proofs.lemmas.Result.{err_from_is_err_and}
use Rattle.refusals.specs.Numbers.{not_zero}
use Rattle.c_files.specs.Lists.{read_unfit, read_refused, read_done}
use Rattle.c_files.proofs.read.Goals as goal

pub returns-then-entry-ne16 : goal.returns-then-entry-ne16
returns-then-entry-ne16 c = read_unfit c.args.file.now c.args.place c.args.entry.now (λ (z : length c.args.entry.now ≡ 16). omega arith)

pub returns-in_err-found : goal.returns-in_err-found
returns-in_err-found c =
    let p = err_from_is_err_and c.from_residual.result c.from_residual.ensures.1 in
    rw (p.1, p.2) (read_refused c.args.file.now c.args.place c.args.entry.now (omega arith) (Err c.in_err-found.field-0.0) c.in_err-found.ensures (not_zero _))

pub returns : goal.returns
returns c = read_done c.args.file.now c.args.place c.args.entry.now (omega arith) (Ok c.in_ok-found.found) c.in_ok-found.ensures _ refl c.put_words.ensures
