-- `bodies_fit`: the bodies from place i on fit where all do.
use Rattle.std.proofs.Common.{◌≡◌, ◌+◌, length, drop}
use Rattle.model.specs.Files.{total}
use Rattle.file_lists.specs.Steps.{symbols_listed}
use Rattle.file_lists.proofs.bodies_fit.Given as goal

abbrev pub invariant-loop-i : goal.invariant-loop-i
invariant-loop-i l =
    (l.start + total (drop l.i l.sizes) ≡ length l.bodies)
    × (symbols_listed (drop l.i l.tops) (drop l.i l.sizes) (drop l.start l.bodies) ≡ symbols_listed l.tops l.sizes l.bodies)
