-- The tests of a pass, with the lengths in symbols.
use Rattle.std.proofs.Common.{Bool, ◌&&◌, eqb, length, ◌∙◌, ap, arith}
use Rattle.model.specs.Bytes.{symbol_size, state_read}
use Rattle.model.specs.Calls.{pass_answer}
use Rattle.model.specs.Code.{highest}
use Rattle.model.specs.Decoder.{State, state_by}
use Rattle.params.specs.Sizes.{sizes_fit}
use Rattle.theory.specs.Profiles.{state_low}
use Rattle.wide_bytes.specs.Places.{wide_below}
use Rattle.wide_symbols.specs.Codes.{wide_code_by}
use Rattle.wide_symbols.specs.Widths.{wide_low}
use Rattle.c_wide_passes.proofs.pass_answer.Goals as goal

pub data_count-n-requires : goal.data_count-n-requires
data_count-n-requires g c = omega (arith, sizes_fit c.args.code.k c.args.code.b c.requires.0 c.requires.1)

pub returns : goal.returns
returns g c =
    let a = c.args in
    let f = g.S.WideSymbol.profile in
    let wide = g.met.S.WideSymbol.is_wide in
    let e = c.data_count-n.ensures in
    let st : State = state_read (symbol_size f) (state_by a.res.now a.syndrome.now a.difference.now) in
    c.pass_answer.ensures st
    (state_low (highest f) (omega (arith, wide_low wide)) st (wide_below wide a.res.now (λ i. omega (arith, c.type_inv.res i)))
    (wide_below wide a.syndrome.now (λ i. omega (arith, c.type_inv.syndrome i))) (wide_below wide a.difference.now (λ i. omega (arith, c.type_inv.difference i))))
    ∙ ap (λ (x : Bool). pass_answer (wide_code_by f a.code a.positions.now) x a.threshold st)
    (c.state_fits-fits.ensures
    ∙ (λ i. eqb (length a.changes.now) 4 && (eqb (c.count.ensures i) (e i) && (eqb (c.count-2.ensures i) a.code.k && eqb (c.count-3.ensures i) (e i)))))
