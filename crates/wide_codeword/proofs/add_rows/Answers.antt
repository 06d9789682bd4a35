use Rattle.std.proofs.Common.{◌≡◌, length, get_or, sym, ap, subst, ◌∙◌, arith}
use Rattle.std.specs.Slice.Iter.{chunks_rest}
use Rattle.model.specs.Code.{highest, check_sum_by}
use Rattle.model.specs.Limits.{Ascending}
use Rattle.model.specs.Symbols.{add_each}
use Rattle.theory.specs.Steps.{SymbolsBelow}
use Rattle.rows.specs.Rows.{row, each_length}
use Rattle.codeword.specs.Sums.{added, rows_end, each_below}
use Rattle.wide_codeword.specs.Parts.{ascending_rest, one_added, two_added}
use Rattle.wide_symbols.specs.Numbers.{numbers_length}
use Rattle.wide_symbols.specs.Widths.{wide_low}
use Rattle.wide_codeword.proofs.add_rows.Goals as goal

pub loop-pair-preserved-then-pair-lt2 : goal.loop-pair-preserved-then-pair-lt2
loop-pair-preserved-then-pair-lt2 g c =
    let m = g.S.WideSymbol in
    let n = g.met.S.Symbol.are_numbers in
    let q = highest m.profile in
    let i = c.loop-pair.invariant in
    let steps = c.in-Some.ensures.steps in
    let u = g.S.Symbol.numbers c.args.«data».now in
    let s = g.S.Symbol.numbers c.loop-pair.sums in
    let k = length c.args.«data».now in
    let e : g.S.Symbol.numbers c.add_row.new.acc ≡ add_each q s (row (get_or c.in-Some.pair.now 0 0) u) = c.add_row.ensures ∙ ap (λ p. add_each q s (row p u)) c.from.ensures in
    record {
      pairs = steps.0 ∙ i.pairs;
      ascending = ascending_rest _ c.in-Some.pair.now _ (subst (Ascending _) steps.1.0 i.ascending);
      below = subst (SymbolsBelow q _) (sym e) (each_below q (omega (arith, wide_low g.met.S.WideSymbol.is_wide)) _ _ _ i.below.len);
      left = ap (added q (check_sum_by k (chunks_rest c.next.new.self) u)) e
          ∙ one_added q k u (numbers_length n c.args.«data».now) _ s i.below.len c.in-Some.pair.now (omega (arith, c.in-len1.len_at_least, c.in-len1.len_below))
          ∙ ap (λ ps. added q (check_sum_by k ps u) s) (sym steps.1.0) ∙ i.left;
    }

pub loop-pair-preserved-then-pair-lt3 : goal.loop-pair-preserved-then-pair-lt3
loop-pair-preserved-then-pair-lt3 g c =
    let m = g.S.WideSymbol in
    let n = g.met.S.Symbol.are_numbers in
    let q = highest m.profile in
    let i = c.loop-pair.invariant in
    let steps = c.in-Some.ensures.steps in
    let u = g.S.Symbol.numbers c.args.«data».now in
    let s = g.S.Symbol.numbers c.loop-pair.sums in
    let k = length c.args.«data».now in
    let first = add_each q s (row (get_or c.in-Some.pair.now 0 0) u) in
    let e : g.S.Symbol.numbers c.add_two_rows.new.acc ≡ add_each q first (row (get_or c.in-Some.pair.now 1 0) u) =
    rw (c.from-in-len2.ensures, c.from-in-len2-2.ensures) at c.add_two_rows.ensures in
    record {
      pairs = steps.0 ∙ i.pairs;
      ascending = ascending_rest _ c.in-Some.pair.now _ (subst (Ascending _) steps.1.0 i.ascending);
      below = subst (SymbolsBelow q _) (sym e) (each_below q (omega (arith, wide_low g.met.S.WideSymbol.is_wide)) _ first _ (each_length q s _ ∙ i.below.len));
      left = ap (added q (check_sum_by k (chunks_rest c.next.new.self) u)) e
          ∙ two_added q k u (numbers_length n c.args.«data».now) _ s i.below.len c.in-Some.pair.now (omega (arith, c.in-len2.len_at_least, c.in-len2.len_below))
          ∙ ap (λ ps. added q (check_sum_by k ps u) s) (sym steps.1.0) ∙ i.left;
    }

pub returns : goal.returns
returns g c =
    let m = g.S.WideSymbol in
    let k = numbers_length g.met.S.Symbol.are_numbers c.args.«data».now in
    (rw k at (rows_end (highest m.profile) (chunks_rest c.loop-pair.pair-iterator) (g.S.Symbol.numbers c.args.«data».now) (g.S.Symbol.numbers c.loop-pair.sums) 0
    (rw k c.loop-pair.invariant.below) (omega (arith, c.in-None.ensures.steps.1.0))))
    ∙ c.loop-pair.invariant.left
