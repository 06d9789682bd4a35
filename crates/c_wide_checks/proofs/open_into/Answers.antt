use Rattle.std.proofs.Common.{length, ap, ◌∙◌, arith}
use Rattle.model.specs.Bytes.{symbol_size}
use Rattle.model.specs.Symbols.{tabulate}
use Rattle.c_wide_checks.specs.Parts.{opened_bytes}
use Rattle.wide_bytes.specs.Places.{wide_some}
use Rattle.wide_symbols.specs.Codes.{wide_code_by}
use Rattle.c_wide_checks.proofs.open_into.Goals as goal

pub returns : goal.returns
returns g c =
    let f = g.S.WideSymbol.profile in
    opened_bytes (wide_code_by f c.args.code c.args.positions.now) (symbol_size f) (wide_some g.met.S.WideSymbol.is_wide) c.args.page.now
    (λ i. omega (arith, c.type_inv.page i)) c.requires.1 (length c.args.res.now) c.requires.2.len_result _ _ _ c.copy_into.ensures c.syndrome_into.ensures
    (c.clear.ensures ∙ ap (λ m. tabulate m (λ i. 0)) c.requires.2.len_difference)
