-- `tell_symbol`: the part of the buffer that is told of holds the estimates.
use Rattle.std.proofs.Common.{List, ℕ, ◌+◌, ap, sym, subst, ◌∙◌, arith, length, length-append}
use lib.Seq.{length-take-le}
use Rattle.model.specs.Code.{checks_of}
use Rattle.model.specs.Symbols.{Below}
use Rattle.theory.specs.Branches.{checks_length}
use Rattle.theory.specs.Counting.{length_symbols_at}
use Rattle.params.specs.Codes.{code_by}
use Rattle.checks.specs.Estimates.{gathered_at}
use Rattle.ones.specs.Words.{estimates_low}
use Rattle.grounds.specs.Told.{told_of}
use Rattle.grounds.proofs.tell_symbol.Goals as goal

pub slice_bounds-gather_symbol-end : goal.slice_bounds-gather_symbol-end
slice_bounds-gather_symbol-end c = sym (length-take-le _ _ (omega (arith, c.checks_each-n.ensures, c.requires.0.table.sizes.J-high)))

pub gather_symbol-requires : goal.gather_symbol-requires
gather_symbol-requires c =
    let r = c.requires in
    let e = c.checks_each-n.ensures in
    (r.0, r.1, r.2, length-take-le _ _ (omega (arith, e, r.0.table.sizes.J-high)) ∙ ap (λ (n : ℕ). n + 1) e)

pub slice_bounds-es-end-2 : goal.slice_bounds-es-end-2
slice_bounds-es-end-2 c =
    let a = c.args in
    let code = code_by a.code a.positions.now in
    simp length-append (omega (
      arith,
      ap length c.gather_symbol.ensures,
      length_symbols_at a.s.now (checks_of code a.symbol),
      checks_length code c.requires.0.table a.symbol c.requires.2,
      c.checks_each-n.ensures,
    ))

pub slice_bounds-tell-end : goal.slice_bounds-tell-end
slice_bounds-tell-end c =
    let r = c.requires in
    sym (gathered_at _ c.args.s.now r.0 c.args.symbol r.2 _ _ _ _ c.gather_symbol.ensures (ap (λ (n : ℕ). n + 1) c.checks_each-n.ensures)).len

pub tell-requires : goal.tell-requires
tell-requires c =
    let r = c.requires in
    let g = gathered_at _ c.args.s.now r.0 c.args.symbol r.2 _ _ _ _ c.gather_symbol.ensures (ap (λ (n : ℕ). n + 1) c.checks_each-n.ensures) in
    (g.low, g.high, λ e. let low = r.3 e in subst (λ (l : List ℕ). Below 2 l) (sym g.same) (estimates_low _ _ _ low.0 low.1))

pub returns : goal.returns
returns c =
    let r = c.requires in
    c.tell.ensures
    ∙ ap (λ (l : List ℕ). told_of c.args.threshold l) (gathered_at _ c.args.s.now r.0 c.args.symbol r.2 _ _ _ _ c.gather_symbol.ensures (ap (λ (n : ℕ). n + 1) c.checks_each-n.ensures)).same
