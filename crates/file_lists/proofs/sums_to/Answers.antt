use Rattle.std.proofs.Common.{◌≡◌, drop, sym, ne_eqb, arith}
use Rattle.model.specs.Files.{total}
use Rattle.file_lists.specs.Steps.{total_turn, total_end, eqb_iff}
use Rattle.file_lists.proofs.sums_to.Goals as goal

pub returns-then-left-size : goal.returns-then-left-size
returns-then-left-size c =
    let sizes = c.args.sizes.now in
    sym (ne_eqb (total sizes) c.args.n (λ q. omega (arith, total_turn sizes c.loop-size.size-index (omega arith))))

pub loop-size-preserved : goal.loop-size-preserved
loop-size-preserved c = omega (arith, total_turn c.args.sizes.now c.loop-size.size-index (omega arith))

pub returns : goal.returns
returns c =
    let sizes = c.args.sizes.now in
    let e : total (drop c.loop-size.size-index sizes) ≡ 0 = total_end sizes c.loop-size.size-index (omega arith) in
    eqb_iff c.loop-size.left 0 (total sizes) c.args.n (λ q. omega arith) (λ q. omega arith)
