-- `add_branches`: before branch r the sums have the rows of the branches before it, but for the first row of all.
use Rattle.std.proofs.Common.{◌≡◌}
use Rattle.model.specs.Code.{highest}
use Rattle.codeword.specs.Sums.{added}
use Rattle.codeword.specs.Rest.{rest_sum}
use Rattle.wide_symbols.specs.Codes.{wide_code_by}
use Rattle.wide_codeword.proofs.add_branches.Given as goal

abbrev pub invariant-loop-r : goal.invariant-loop-r
invariant-loop-r g l =
    let s = g.S.WideSymbol in
    g.S.Symbol.numbers l.sums ≡ added (highest s.profile) (rest_sum (wide_code_by s.profile l.fn.code l.positions) (g.S.Symbol.numbers l.«data») l.r) (g.S.Symbol.numbers l.fn.sums)
