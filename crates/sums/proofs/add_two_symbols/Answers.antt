-- By `add_twice` the symbols that one run writes are two sums of lists.
use Rattle.std.proofs.Common.{ℕ, ◌+◌, get_or, ap, ◌∙◌, arith}
use Rattle.model.specs.Symbols.{add}
use Rattle.symbols.specs.Sums.{add_lt, add_twice}
use Rattle.theory.specs.Written.{opened, kept, turned, closed}
use Rattle.sums.proofs.add_two_symbols.Goals as goal

pub loop-i-init : goal.loop-i-init
loop-i-init c = opened _ _

pub add_mod-requires : goal.add_mod-requires
add_mod-requires c =
    let i = c.loop-i.i in (omega (arith, kept c.loop-i.invariant (omega arith), c.requires.2 i), omega (arith, c.requires.3 i))

pub add_mod-requires-in-loop-i : goal.add_mod-requires-in-loop-i
add_mod-requires-in-loop-i c =
    let l = c.loop-i in
    (omega (arith, c.add_mod.ensures, add_lt (c.args.top + 1) (get_or l.acc l.i 0) (get_or c.args.xs.now l.i 0) (omega arith)), omega (arith, c.requires.4 l.i))

pub loop-i-preserved : goal.loop-i-preserved
loop-i-preserved c =
    turned c.loop-i.invariant (omega arith) (c.add_mod-in-loop-i.ensures ∙ ap (λ (x : ℕ). add (c.args.top + 1) x (get_or c.args.ys.now c.loop-i.i 0)) c.add_mod.ensures)

pub returns : goal.returns
returns c = closed c.loop-i.invariant (omega arith) ∙ add_twice _ _ _ _
