-- `reliability_in`: the part of the buffer that is counted over holds the estimates.
use Rattle.std.proofs.Common.{List, ℕ, ap, refl, sym, ◌∙◌, arith, length, length-append}
use lib.Seq.{length-take-le}
use Rattle.checks.specs.Estimates.{estimates_length, gathered}
use Rattle.margins.specs.Margins.{read_back}
use Rattle.model.specs.Outer.{reliability}
use Rattle.reliabilities.proofs.reliability_in.Goals as goal

pub slice_bounds-gather-end : goal.slice_bounds-gather-end
slice_bounds-gather-end c = sym (length-take-le _ _ (omega (arith, c.requires.0.J-high)))

pub gather-requires : goal.gather-requires
gather-requires c = (c.requires.0, c.requires.1, length-take-le _ _ (omega (arith, c.requires.0.J-high)))

pub slice_bounds-es-end-2 : goal.slice_bounds-es-end-2
slice_bounds-es-end-2 c =
    let a = c.args in
    simp length-append (omega (arith, ap length c.gather.ensures, estimates_length a.code.k a.positions.now a.j a.own a.s.now))

pub slice_bounds-reliability_of-end : goal.slice_bounds-reliability_of-end
slice_bounds-reliability_of-end c = sym (gathered c.requires.0 c.args.j c.args.own _ _ _ c.gather.ensures refl).len

pub reliability_of-requires : goal.reliability_of-requires
reliability_of-requires c = (gathered c.requires.0 c.args.j c.args.own _ _ _ c.gather.ensures refl).high

pub returns : goal.returns
returns c =
    read_back _ c.reliability_of.type_inv ∙ c.reliability_of.ensures
    ∙ ap (λ (l : List ℕ). reliability c.args.e l) (gathered c.requires.0 c.args.j c.args.own _ _ _ c.gather.ensures refl).same
