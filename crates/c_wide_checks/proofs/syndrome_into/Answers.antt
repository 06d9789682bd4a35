use Rattle.std.proofs.Common.{◌-◌, length, ap, ◌∙◌, arith}
use Rattle.model.specs.Bytes.{symbol_size, symbol_bytes}
use Rattle.model.specs.Code.{syndrome}
use Rattle.c_wide_checks.specs.Parts.{parts_read}
use Rattle.wide_bytes.specs.Places.{wide_some}
use Rattle.wide_symbols.specs.Codes.{wide_code_by}
use Rattle.c_wide_checks.proofs.syndrome_into.Goals as goal

pub returns : goal.returns
returns g c =
    let f = g.S.WideSymbol.profile in
    let w = symbol_size f in
    let code = wide_code_by f c.args.code c.args.positions.now in
    let page = c.args.page.now in
    c.over_checks.ensures
    ∙ ap (λ l. symbol_bytes w (syndrome code l))
    (parts_read code w (wide_some g.met.S.WideSymbol.is_wide) page (λ i. omega (arith, c.type_inv.page i)) c.requires.1 (length page - length c.args.s.now)
    (omega (arith, c.requires.1, c.requires.2)) _ c.copy_into.ensures)
