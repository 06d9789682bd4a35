use Rattle.std.proofs.Common.{ap, ◌∙◌, arith}
use Rattle.model.specs.Code.{highest}
use Rattle.codeword.specs.Sums.{added}
use Rattle.codeword.specs.Rest.{rest_sum, one-branch}
use Rattle.codeword.specs.Checks.{checks_written}
use Rattle.wide_symbols.specs.Codes.{wide_code_by}
use Rattle.wide_codeword.proofs.write_checks.Goals as goal

pub returns : goal.returns
returns g c =
    let m = g.S.WideSymbol in
    let code = wide_code_by m.profile c.args.code c.args.positions.now in
    let u = g.S.Symbol.numbers c.args.«data».now in
    c.add_branches.ensures ∙ ap (added (highest m.profile) (rest_sum code u c.args.code.b)) c.first_row.ensures.written
    ∙ checks_written code c.requires.0 u (omega (arith, c.requires.1.len, one-branch code c.requires.0))
