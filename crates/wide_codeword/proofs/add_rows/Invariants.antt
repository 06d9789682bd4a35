-- `add_rows`: what the rows left make of the sums is what all make of them at the start.
use Rattle.std.proofs.Common.{◌≡◌, length}
use Rattle.std.specs.Slice.Iter.{chunks_rest, chunks_size}
use Rattle.model.specs.Code.{highest, check_sum_by}
use Rattle.model.specs.Limits.{Ascending}
use Rattle.theory.specs.Steps.{SymbolsBelow}
use Rattle.codeword.specs.Sums.{added}
use Rattle.wide_codeword.proofs.add_rows.Given as goal

abbrev pub invariant-loop-pair : goal.invariant-loop-pair
invariant-loop-pair g l =
    let s = g.S.WideSymbol in
    let q = highest s.profile in
    let u = g.S.Symbol.numbers l.«data» in
    let rest = chunks_rest l.pair-iterator in
    record {
      pairs : chunks_size l.pair-iterator ≡ 2;
      ascending : Ascending (length l.«data») rest;
      below : SymbolsBelow q (length l.«data») (g.S.Symbol.numbers l.sums);
      left : added q (check_sum_by (length l.«data») rest u) (g.S.Symbol.numbers l.sums) ≡ added q (check_sum_by (length l.«data») l.positions u) (g.S.Symbol.numbers l.initial.sums);
    }
