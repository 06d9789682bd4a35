use Rattle.std.proofs.Common.{ℕ, ap, ◌∙◌, arith}
use Rattle.model.specs.Symbols.{same}
use Rattle.any_symbols.specs.Numbers.{numbers_length, number_read}
use Rattle.grounds.specs.Told.{from_end, from_turn, from_small}
use Rattle.grounds.proofs.bits_of.Goals as goal

pub loop-i-init : goal.loop-i-init
loop-i-init g c = from_end _ _ _ (omega (arith, numbers_length g.met.E.Symbol.are_numbers c.args.es.now))

pub overflow_add-bits : goal.overflow_add-bits
overflow_add-bits g c = omega (arith, from_small _ _ _ _ (omega (arith, c.requires, numbers_length g.met.E.Symbol.are_numbers c.args.es.now)) c.loop-i.invariant)

pub overflow_add-bits-in-loop-i : goal.overflow_add-bits-in-loop-i
overflow_add-bits-in-loop-i g c =
    omega (
      arith,
      from_small _ _ _ _ (omega (arith, c.requires, numbers_length g.met.E.Symbol.are_numbers c.args.es.now)) c.loop-i.invariant,
      c.widened.ensures,
      c.equal.ensures.1,
    )

pub loop-i-preserved : goal.loop-i-preserved
loop-i-preserved g c =
    from_turn _ _ _ _ _ _ c.loop-i.invariant (omega arith)
    (c.widened.ensures ∙ c.equal.ensures.0 ∙ ap (λ (x : ℕ). same x (g.E.Symbol.number c.args.h)) (number_read g.met.E.Symbol.are_numbers c.args.es.now _ (omega arith) c.index-es-i.is))
