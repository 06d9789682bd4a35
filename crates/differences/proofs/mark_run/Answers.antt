use Rattle.std.proofs.Common.{◌≡◌, Bool, ℕ, ◌+◌, ◌-◌, List, length, get_or, take, drop, sym, ap, ◌∙◌, arith}
use Rattle.differences.specs.Marks.{marks_of, mark}
use Rattle.differences.specs.Positions.{fit_later}
use Rattle.differences.specs.Folded.{folded_from, part_rest, marks_go, marks_stop, by_end}
use Rattle.differences.proofs.mark_run.Goals as goal

-- what the pairs from position i leave
marked : (k : ℕ) (ps : List ℕ) (i : ℕ) (seen flags : List ℕ) (r : Bool)
    → marks_of r flags ≡ mark (folded_from k (get_or ps i 0) (take (length ps - (i + 1)) (drop (i + 1) ps))) seen
    → marks_of r flags ≡ mark (folded_from k (get_or ps i 0) (drop (i + 1) ps)) seen
marked k ps i seen flags r e = e ∙ ap (λ (l : List ℕ). mark (folded_from k (get_or ps i 0) l) seen) (part_rest ps (i + 1))

pub mark_from-requires : goal.mark_from-requires
mark_from-requires c =
    let i = c.loop-i.i in (rw (part_rest c.args.run.now (i + 1)) (fit_later _ _ _ c.requires.0 i (omega arith)), omega arith)

pub returns-then-not-mark_from : goal.returns-then-not-mark_from
returns-then-not-mark_from c =
    let ps = c.args.run.now in
    let l = c.loop-i in
    sym (marks_stop c.args.k ps l.i l.seen (omega arith) _ _ (marked c.args.k ps l.i l.seen _ _ c.mark_from.ensures) c.if-not-mark_from.true) ∙ l.invariant

pub loop-i-preserved : goal.loop-i-preserved
loop-i-preserved c =
    let ps = c.args.run.now in
    let l = c.loop-i in
    sym (marks_go c.args.k ps l.i l.seen (omega arith) _ _ (marked c.args.k ps l.i l.seen _ _ c.mark_from.ensures) c.if-not-mark_from.false) ∙ l.invariant

pub returns : goal.returns
returns c = sym (by_end c.args.k c.args.run.now c.loop-i.i c.loop-i.seen (omega arith)) ∙ c.loop-i.invariant
