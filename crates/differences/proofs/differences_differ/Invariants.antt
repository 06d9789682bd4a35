-- `differences_differ` marks the folded differences of one run after the other in one row of flags: those of the first runs were all new.
use Rattle.std.proofs.Common.{◌≡◌, ◌*◌, ◌≤◌, true, length, drop}
use Rattle.std.specs.Slice.Iter.{chunks_rest, chunks_size}
use Rattle.model.specs.Code.{checks_each}
use Rattle.model.specs.Symbols.{join_below}
use Rattle.params.specs.Codes.{code_by}
use Rattle.differences.specs.Marks.{marks_of, mark}
use Rattle.differences.specs.Folded.{run_folded}
use Rattle.differences.proofs.differences_differ.Given as goal

abbrev pub invariant-loop-part : goal.invariant-loop-part
invariant-loop-part l =
    let c = code_by l.code l.positions in
    let marked = length l.yielded in
    record {
      size : chunks_size l.part-iterator ≡ checks_each c;
      few : marked ≤ c.b;
      rest : chunks_rest l.part-iterator ≡ drop (marked * checks_each c) c.positions;
      all : mark (join_below marked (run_folded c)) l.initial.seen ≡ marks_of true l.seen;
    }
