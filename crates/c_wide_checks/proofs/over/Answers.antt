use Rattle.std.proofs.Common.{sym, ap, subst, ◌∙◌, length, arith}
use Rattle.model.specs.Bytes.{symbol_size}
use Rattle.model.specs.Code.{highest}
use Rattle.model.specs.Symbols.{Below}
use Rattle.theory.specs.WideBytes.{symbols_length}
use Rattle.wide_bytes.specs.Places.{wide_some, wide_below}
use Rattle.c_wide_checks.proofs.over.Goals as goal

pub write_syndrome-requires : goal.write_syndrome-requires
write_syndrome-requires g c =
    let wide = g.met.S.WideSymbol.is_wide in
    let w = symbol_size g.S.WideSymbol.profile in
    let bytes = c.args.«data».now in (
      c.requires.0.table,
      record {
        len = ap length c.read_symbols.ensures ∙ symbols_length w (wide_some wide) _ bytes c.requires.1;
        low = subst (Below (highest g.S.WideSymbol.profile)) (sym c.read_symbols.ensures)
            (wide_below wide bytes (λ i. omega (arith, c.type_inv.«data» i)));
      },
      omega (arith, c.requires.4, c.read_symbols-2.auto.out),
    )
