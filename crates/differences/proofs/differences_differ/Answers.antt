use Rattle.std.proofs.Common.{◌≡◌, ℕ, ◌+◌, ◌*◌, ◌/◌, ◌<◌, List, [], ◌∷◌, ◌++◌, length, get_or, set, drop, length-set, length-append, zero-mul, sym, ap, ◌∙◌, arith}
use Rattle.std.specs.Slice.Iter.{chunks_rest, chunks_size}
use Rattle.model.specs.Code.{Code, checks_each, differences, all_different}
use Rattle.model.specs.Limits.{TableLimits}
use Rattle.model.specs.Symbols.{same, join_below}
use Rattle.params.specs.Codes.{code_by}
use Rattle.differences.specs.Marks.{Marks, mark, join_none, join_go, join_stop}
use Rattle.differences.specs.Positions.{run_next, run_last}
use Rattle.differences.specs.Folded.{folded_by, run_folded, all_folded, run_fits, marks_tell, half_flag}
use Rattle.differences.proofs.differences_differ.Goals as goal

-- what marking all runs tells, where the flag of half of k alone stands at first
module _ (c : Code) (l : TableLimits c) (seen : List ℕ) (flag : ℕ) (is : flag ≡ same (c.k / 2 + c.k / 2) c.k) (room : c.k < length seen + length seen)
    (clear : (v : ℕ) → get_or seen v 0 ≡ 0) where
  told : (mark (all_folded c) (set seen (c.k / 2) flag)).fresh ≡ all_different (differences c)
  told = marks_tell c l _ (simp length-set room) (half_flag c.k seen flag is room clear)

pub loop-part-init : goal.loop-part-init
loop-part-init c = record {
  size = ap chunks_size c.into_iter-part-iterator.ensures.into_iter_gives ∙ c.chunks-part-items.ensures.size ∙ c.checks_each-each.ensures;
  few = omega arith;
  rest = ap chunks_rest c.into_iter-part-iterator.ensures.into_iter_gives ∙ c.chunks-part-items.ensures.rest ∙ ap (λ (n : ℕ). drop n c.args.positions.now) (sym (zero-mul _));
  all = join_none _ _;
}

pub mark_run-requires : goal.mark_run-requires
mark_run-requires c =
    let i = c.loop-part.invariant in
    let n = run_next _ c.requires.0.sizes _ i.few _ _ i.size i.rest _ _ c.in-Some.ensures.steps.1 in
    (rw n.1 (run_fits _ c.requires.0 _ n.0), omega (arith, length-set c.args.seen.now (c.args.code.k / 2) c.is_half.result))

pub returns-then-not-mark_run : goal.returns-then-not-mark_run
returns-then-not-mark_run c =
    let i = c.loop-part.invariant in
    let code = code_by c.args.code c.args.positions.now in
    let n = run_next code c.requires.0.sizes _ i.few _ _ i.size i.rest _ _ c.in-Some.ensures.steps.1 in
    sym (join_stop _ _ _ _ n.0 _ i.all _ _ (c.mark_run.ensures ∙ ap (λ (ps : List ℕ). mark (folded_by code.k ps) c.loop-part.seen) n.1) c.if-not-mark_run.true)
    ∙ told code c.requires.0 _ _ c.is_half.ensures c.requires.1 c.requires.2

pub loop-part-preserved : goal.loop-part-preserved
loop-part-preserved c =
    let i = c.loop-part.invariant in
    let code = code_by c.args.code c.args.positions.now in
    let n = run_next code c.requires.0.sizes _ i.few _ _ i.size i.rest _ _ c.in-Some.ensures.steps.1 in
    let more : length (c.loop-part.yielded ++ (c.in-Some.part ∷ [])) ≡ length c.loop-part.yielded + 1 = length-append c.loop-part.yielded (c.in-Some.part ∷ []) in
    record {
      size = c.in-Some.ensures.steps.0 ∙ i.size;
      few = omega (arith, more, n.0);
      rest = n.2 ∙ ap (λ (m : ℕ). drop (m * checks_each code) code.positions) (sym more);
      all = ap (λ (m : ℕ). mark (join_below m (run_folded code)) (set c.args.seen.now (c.args.code.k / 2) c.is_half.result)) more
          ∙ join_go _ _ _ _ i.all _ _ (c.mark_run.ensures ∙ ap (λ (ps : List ℕ). mark (folded_by code.k ps) c.loop-part.seen) n.1) c.if-not-mark_run.false;
    }

pub returns : goal.returns
returns c =
    let i = c.loop-part.invariant in
    let code = code_by c.args.code c.args.positions.now in
    let all = run_last code c.requires.0.sizes _ i.few _ _ i.size i.rest c.in-None.ensures.steps.1.0 in
    sym (ap (λ (m : Marks). m.fresh) i.all)
    ∙ ap (λ (m : ℕ). (mark (join_below m (run_folded code)) (set c.args.seen.now (c.args.code.k / 2) c.is_half.result)).fresh) all
    ∙ told code c.requires.0 _ _ c.is_half.ensures c.requires.1 c.requires.2
