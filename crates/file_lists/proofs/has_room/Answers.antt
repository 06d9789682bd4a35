use Rattle.std.proofs.Common.{◌+◌, ◌≤◌, sym, arith}
use Rattle.std.proofs.Math.Nat.{mul-le-mul_right}
use Rattle.std.proofs.lemmas.Bool.{lt-leb}
use Rattle.model.specs.Files.{contents_end}
use Rattle.file_lists.proofs.has_room.Goals as goal

pub returns-then-left-count : goal.returns-then-left-count
returns-then-left-count c =
    let a = c.args in
    sym (lt-leb (contents_end a.count + a.bodies) a.room (omega (arith, mul-le-mul_right a.count (let n : c.loop.counter + 1 ≤ 11 = omega arith in n))))
