-- By `add_twice` the symbols that one run writes are two sums of lists.
use Rattle.std.proofs.Common.{ℕ, get_or, ap, ◌∙◌, arith}
use Rattle.model.specs.Symbols.{add}
use Rattle.symbols.specs.Sums.{add_twice}
use Rattle.theory.specs.Written.{opened, turned, closed}
use Rattle.sums.proofs.add_two_bytes.Goals as goal

pub loop-i-init : goal.loop-i-init
loop-i-init c = opened _ _

pub loop-i-preserved : goal.loop-i-preserved
loop-i-preserved c =
    turned c.loop-i.invariant (omega arith) (c.add_byte-in-loop-i.ensures ∙ ap (λ (x : ℕ). add 256 x (get_or c.args.ys.now c.loop-i.i 0)) c.add_byte.ensures)

pub returns : goal.returns
returns c = closed c.loop-i.invariant (omega arith) ∙ add_twice _ _ _ _
