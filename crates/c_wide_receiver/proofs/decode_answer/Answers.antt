-- The tests of decode, with the lengths in symbols.
use Rattle.std.proofs.Common.{Bool, ◌&&◌, List, ℕ, ◌+◌, ◌*◌, length, ◌∙◌, ap, arith}
use Rattle.std.specs.Prelude.{eqb}
use Rattle.model.specs.Bytes.{symbol_size, symbols_of}
use Rattle.model.specs.Calls.{decode_answer}
use Rattle.params.specs.Sizes.{sizes_fit}
use Rattle.wide_bytes.specs.Places.{wide_below}
use Rattle.wide_symbols.specs.Codes.{wide_code_by}
use Rattle.c_wide_receiver.proofs.decode_answer.Goals as goal

pub data_count-n-requires : goal.data_count-n-requires
data_count-n-requires g c = omega (arith, sizes_fit c.args.code.k c.args.code.b c.requires.0 c.requires.1)

pub returns : goal.returns
returns g c =
    let a = c.args in
    let f = g.S.WideSymbol.profile in
    let e = c.data_count-n.ensures in
    let page : List ℕ = symbols_of (symbol_size f) a.page.now in
    c.decode_answer.ensures page (wide_below g.met.S.WideSymbol.is_wide a.page.now (λ i. omega (arith, c.type_inv.page i)))
    ∙ ap (λ (x : Bool). decode_answer (wide_code_by f a.code a.positions.now) x page a.thresholds.now)
    (c.decode_fits-fits.ensures
    ∙ (λ i. (c.bytes_fit-others.ensures ∙ ap (λ (n : ℕ). eqb (length a.margins.now) (4 * n) && eqb (length a.counts.now) 16) e) i
    && (eqb (c.count.ensures i) (e i + a.code.k) && (eqb (c.count-2.ensures i) (e i) && (eqb (c.count-3.ensures i) a.code.k && eqb (c.count-4.ensures i) (e i))))))
