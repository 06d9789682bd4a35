use Rattle.std.proofs.Common.{refl, sym, ◌∙◌, arith}
use Rattle.theory.specs.FileBytes.{entry-fits}
use Rattle.file_lists.specs.Steps.{fit_turn', fit_stop', fit_end}
use Rattle.file_lists.proofs.lists_fit.Goals as goal

pub returns-then-not-entry_fits : goal.returns-then-not-entry_fits
returns-then-not-entry_fits c =
    let l = c.loop-i in
    sym (sym l.invariant.1 ∙ fit_stop' c.args.numbers.now c.args.tops.now c.args.sizes.now c.requires.0 c.requires.1 l.i (omega arith) l.least l.start c.args.end
    _ _ _ c.from-number.ensures c.from-top.ensures refl (sym c.entry_fits.ensures ∙ c.if-not-entry_fits.true))

pub loop-i-preserved : goal.loop-i-preserved
loop-i-preserved c =
    let l = c.loop-i in
    let f = sym c.entry_fits.ensures ∙ c.if-not-entry_fits.false in (
      omega (arith, (entry-fits l.least l.start c.args.end _ f).inside),
      sym (fit_turn' c.args.numbers.now c.args.tops.now c.args.sizes.now c.requires.0 c.requires.1 l.i (omega arith) l.least l.start c.args.end
          _ _ _ c.from-number.ensures c.from-top.ensures refl f) ∙ l.invariant.1,
    )

pub returns : goal.returns
returns c =
    let l = c.loop-i in
    sym (fit_end c.args.numbers.now c.args.tops.now c.args.sizes.now l.i l.least l.start c.args.end (omega arith)) ∙ l.invariant.1
