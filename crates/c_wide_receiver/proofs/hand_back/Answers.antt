-- Each part is written as bytes.
use Rattle.std.proofs.Common.{ℕ, ◌*◌, ◌≤◌, length, ◌∙◌, ap, sym, arith}
use Rattle.model.specs.Bytes.{symbol_size}
use Rattle.wide_symbols.specs.Numbers.{numbers_length}
use Rattle.c_wide_receiver.proofs.hand_back.Goals as goal

pub write_symbols-requires : goal.write_symbols-requires
write_symbols-requires g c =
    let p = c.requires in
    (p.3 ∙ ap (λ (n : ℕ). n * symbol_size g.S.WideSymbol.profile) (sym p.1), omega (arith, p.1, p.0.checks.table.sizes.data-high))

pub write_symbols-requires-2 : goal.write_symbols-requires-2
write_symbols-requires-2 g c =
    let p = c.requires in
    let l = p.0.checks in
    let n = numbers_length g.met.S.Symbol.are_numbers c.args.s.now in
    (p.4 ∙ ap (λ (n : ℕ). n * symbol_size g.S.WideSymbol.profile) (sym l.len ∙ n), omega (arith, n, l.len, l.table.sizes.k_high))

pub write_symbols-requires-3 : goal.write_symbols-requires-3
write_symbols-requires-3 g c =
    let p = c.requires in
    let l = p.0.len_difference in
    let n = numbers_length g.met.S.Symbol.are_numbers c.args.d.now in
    (p.5 ∙ ap (λ (n : ℕ). n * symbol_size g.S.WideSymbol.profile) (sym l ∙ n), omega (arith, n, l, p.0.checks.table.sizes.data-high))

pub returns : goal.returns
returns g c =
    λ i. record {
      state = record { result = c.write_symbols.ensures i; syndrome = c.write_symbols-2.ensures i; difference = c.write_symbols-3.ensures i };
      margins = c.put_margins.ensures (g.S.Symbol.numbers c.args.r.now) i;
      counts = c.put_counts.ensures i;
    }
