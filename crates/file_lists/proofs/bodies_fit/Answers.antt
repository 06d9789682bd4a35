use Rattle.std.proofs.Common.{◌≡◌, Bool, ◌&&◌, List, ℕ, ◌+◌, ◌-◌, ◌<◌, length, get_or, take, drop, sym, ap, ◌∙◌, arith}
use Rattle.std.proofs.Math.Nat.{add-sub_cancel_left}
use Rattle.model.specs.Calls.{all_below}
use Rattle.file_lists.specs.Steps.{symbols_listed, symbols_turn, symbols_end, total_turn}
use Rattle.file_lists.proofs.bodies_fit.Goals as goal

-- one body more: its symbols are below x where b says so
turn : (ts ss bs : List ℕ) (start i x : ℕ) (b more : Bool) → length ss ≡ length ts → i < length ts
    → x ≡ get_or ts i 0 → b ≡ all_below (x + 1) (take (start + get_or ss i 0 - start) (drop start bs))
    → symbols_listed (drop i ts) (drop i ss) (drop start bs) ≡ more
    → (b && symbols_listed (drop (i + 1) ts) (drop (i + 1) ss) (drop (start + get_or ss i 0) bs)) ≡ more
turn ts ss bs start i x b more a h p q m =
    let size = get_or ss i 0 in
    ap (λ (z : Bool). z && symbols_listed (drop (i + 1) ts) (drop (i + 1) ss) (drop (start + size) bs))
    (q ∙ ap (λ (n : ℕ). all_below (x + 1) (take n (drop start bs))) (add-sub_cancel_left start size) ∙ ap (λ (n : ℕ). all_below (n + 1) (take size (drop start bs))) p)
    ∙ sym (symbols_turn ts ss bs start i a h) ∙ m

pub slice_bounds-all_below-end : goal.slice_bounds-all_below-end
slice_bounds-all_below-end c = omega (arith, total_turn c.args.sizes.now c.loop-i.i (omega arith))

pub returns-then-not-all_below : goal.returns-then-not-all_below
returns-then-not-all_below c =
    let l = c.loop-i in
    rw (c.if-not-all_below.true) at
    (turn c.args.tops.now c.args.sizes.now c.args.bodies.now l.start l.i _ _ _ c.requires.0 (omega arith) c.from.ensures c.all_below.ensures l.invariant.1)

pub loop-i-preserved : goal.loop-i-preserved
loop-i-preserved c =
    let l = c.loop-i in (
      omega (arith, total_turn c.args.sizes.now l.i (omega arith)),
      rw (c.if-not-all_below.false) at
          (turn c.args.tops.now c.args.sizes.now c.args.bodies.now l.start l.i _ _ _ c.requires.0 (omega arith) c.from.ensures c.all_below.ensures l.invariant.1),
    )

pub returns : goal.returns
returns c =
    let l = c.loop-i in
    sym (symbols_end c.args.tops.now c.args.sizes.now c.args.bodies.now l.start l.i (omega arith)) ∙ l.invariant.1
