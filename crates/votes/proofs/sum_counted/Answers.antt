use Rattle.std.proofs.Common.{◌≡◌, ℕ, ◌+◌, ◌*◌, ◌%◌, [], ◌∷◌, ◌++◌, length, drop, length-append, zero-mul, refl, sym, ap, ◌∙◌}
use Rattle.std.specs.Slice.Iter.{chunks_exact_rest, chunks_exact_size}
use Rattle.vote.specs.Leading.{vote_of}
use Rattle.votes.specs.Checksum.{packed, sum_of_votes}
use Rattle.votes.specs.Rounds.{list_next, sum_next}
use Rattle.votes.proofs.sum_counted.Goals as goal

pub loop-es-init : goal.loop-es-init
unfolding sum_of_votes
loop-es-init c =
    let e = c.into_iter-es-iterator.ensures.into_iter_gives in
    let p = c.chunks_exact-es-items.ensures in
    record {
      size = ap chunks_exact_size e ∙ p.size;
      left = ap chunks_exact_rest e ∙ p.rest ∙ ap (λ (n : ℕ). drop n c.args.lists.now) (sym (zero-mul c.args.each));
      sum = refl;
      lent = refl;
    }

pub loop-es-preserved : goal.loop-es-preserved
loop-es-preserved c =
    let a = c.args in
    let l = c.loop-es in
    let i = l.invariant in
    let s = c.in-Some.ensures.steps in
    let n = list_next a.each a.lists.now (length l.yielded) _ _ _ i.left (s.1.0, s.1.1 ∙ i.size) in
    let more : length (l.yielded ++ (c.in-Some.es ∷ [])) ≡ length l.yielded + 1 = length-append l.yielded (c.in-Some.es ∷ []) in
    record {
      size = s.0 ∙ i.size;
      left = n.1 ∙ ap (λ (m : ℕ). drop (m * a.each) a.lists.now) (sym more);
      sum = c.added-sum.ensures
          ∙ ap (λ (m : ℕ). (m + packed c.vote_counted.result) % 4294967296) i.sum
          ∙ sum_next a.each a.lists.now (length l.yielded) _ (c.vote_counted.ensures.told ∙ ap vote_of n.0)
          ∙ ap (λ (m : ℕ). sum_of_votes a.each a.lists.now m) (sym more);
      lent = c.vote_counted.ensures.kept ∙ i.lent;
    }
