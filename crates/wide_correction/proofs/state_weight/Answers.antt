use Rattle.std.proofs.Common.{arith}
use Rattle.correction.specs.Decoded.{weights_small}
use Rattle.wide_symbols.specs.Numbers.{numbers_length}
use Rattle.wide_correction.proofs.state_weight.Goals as goal

pub overflow_add-result : goal.overflow_add-result
overflow_add-result g c =
    let a = c.args in
    let f = g.S.Symbol.numbers in
    let n = g.met.S.Symbol.are_numbers in
    omega (
      arith,
      c.weight_of.ensures,
      c.weight_of-2.ensures,
      weights_small (f a.d.now) (f a.s.now) (omega (arith, numbers_length n a.d.now)) (omega (arith, numbers_length n a.s.now)),
    )
