-- The sum does not reach the bound.
use Rattle.std.proofs.Common.{length, get_or, arith}
use Rattle.blocks.specs.Blocks.{sum_bounded}
use Rattle.blocks.proofs.sum_of.Goals as goal

pub rest_of-requires : goal.rest_of-requires
rest_of-requires c =
    let s = c.args.s.now in
    let p = c.requires in
    (p.0, p.4, omega (arith, c.total_of.ensures, sum_bounded c.args.q (length s) c.args.bound (λ i. get_or s i 0) p.0 p.2 p.4 p.5))
