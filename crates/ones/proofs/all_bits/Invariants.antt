-- `all_bits`: after i turns it is 2 to the i, less 1.
use Rattle.std.proofs.Common.{◌≡◌, ◌+◌, ◌^◌}
use Rattle.ones.proofs.all_bits.Given as goal

abbrev pub invariant-loop-i : goal.invariant-loop-i
invariant-loop-i l = l.all + 1 ≡ 2 ^ l._i
