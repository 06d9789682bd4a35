-- `sum_pairs`: the sum is that of the votes over the lists so far.
use Rattle.std.proofs.Common.{◌≡◌, ◌*◌, length, drop}
use Rattle.std.specs.Slice.Iter.{chunks_exact_rest, chunks_exact_size}
use Rattle.votes.specs.Checksum.{sum_of_votes}
use Rattle.votes.proofs.sum_pairs.Given as goal

abbrev pub invariant-loop-es : goal.invariant-loop-es
invariant-loop-es l =
    let i = length l.yielded in
    record {
      size : chunks_exact_size l.es-iterator ≡ l.each;
      left : chunks_exact_rest l.es-iterator ≡ drop (i * l.each) l.lists;
      sum : l.sum ≡ sum_of_votes l.each l.lists i;
    }
