use Rattle.std.proofs.Common.{sym, ◌∙◌}
use Rattle.theory.specs.Profiles.{no_one}
use Rattle.wide_answers.specs.Own.{own, shape_own}
use Rattle.wide_symbols.specs.Codes.{wide_code_by}
use Rattle.wide_answers.proofs.table_answer.Goals as goal

pub returns : goal.returns
returns g c =
    let f = g.S.WideSymbol.profile in
    let ps = c.args.positions.now in
    c.shape_answer.ensures ∙ shape_own f c.args.code ps ∙ sym (no_one (wide_code_by f c.args.code ps) (own g.met.S.WideSymbol.is_wide c.args.code ps).one)
