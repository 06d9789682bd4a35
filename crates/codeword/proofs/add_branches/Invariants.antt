-- `add_branches`: before branch r the sums have the rows of the branches before it, but for the first row of all.
use Rattle.std.proofs.Common.{◌≡◌}
use Rattle.params.specs.Codes.{code_by}
use Rattle.codeword.specs.Sums.{added}
use Rattle.codeword.specs.Rest.{rest_sum, Stands}
use Rattle.codeword.proofs.add_branches.Given as goal

abbrev pub invariant-loop-r : goal.invariant-loop-r
invariant-loop-r l =
    let c = code_by l.code l.positions in
    Stands c l._r l.at l.from × (l.sums ≡ added l.code.q (rest_sum c l.«data» l._r) l.fn.sums)
