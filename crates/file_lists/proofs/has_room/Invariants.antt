-- `has_room`: what is left of the room, and the count as often as it was taken away.
use Rattle.std.proofs.Common.{◌≡◌, ◌+◌, ◌*◌}
use Rattle.file_lists.proofs.has_room.Given as goal

abbrev pub invariant-loop : goal.invariant-loop
invariant-loop l = l.left + l.counter * l.count + l.bodies + 2 ≡ l.room
