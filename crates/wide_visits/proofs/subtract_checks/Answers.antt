use Rattle.std.proofs.Common.{List, ℕ, ◌∙◌, ap, sym, ◌<◌, length, set, arith}
use Rattle.model.specs.Code.{highest}
use Rattle.model.specs.Symbols.{subtract_at, sub}
use Rattle.checks.specs.Checks.{at_checks_of, by_position, check_inside, subtract_none, subtract_turn, subtract_all}
use Rattle.checks.specs.Places.{found, at_table_of}
use Rattle.zeros.specs.Counts.{zero_counts}
use Rattle.wide.specs.Marks.{marks_of, marks_set, marks_at_table, marks_zeros}
use Rattle.wide_symbols.specs.Numbers.{numbers_length, number_read, numbers_set}
use Rattle.wide_visits.proofs.subtract_checks.Goals as goal

pub slice_bounds-p-items-end : goal.slice_bounds-p-items-end
slice_bounds-p-items-end g c = (found c.requires.0 c.requires.1).last_in

pub loop-p-init : goal.loop-p-init
loop-p-init g c = record { subtracted = subtract_none _ _ _ _ _ _; counted = c.requires.2; marked = c.requires.3 }

pub check_of-c-requires : goal.check_of-c-requires
check_of-c-requires g c =
    let f = found c.requires.0 c.requires.1 in
    by_position f.checks_lent _ c.loop-p.p-index f.index_low (omega arith)

pub write_check-requires : goal.write_check-requires
write_check-requires g c =
    let l = c.loop-p in
    let f = found c.requires.0 c.requires.1 in
    let v = l.invariant in
    let s : List ℕ = g.S.Symbol.numbers l.s in (
      marks_at_table _ (at_table_of c.requires.0 s v.subtracted.sized) v.marked,
      f.each,
      omega (arith, check_inside f.checks_lent _ _ c.check_of-c.ensures, f.checks_lent.len),
      v.counted ∙ sym (marks_zeros _ _ (highest g.S.WideSymbol.profile) c.args.code.q c.args.code.k c.args.code.b c.args.positions.now s l.marks v.marked),
    )

pub loop-p-preserved : goal.loop-p-preserved
loop-p-preserved g c =
    let a = c.args in
    let l = c.loop-p in
    let f = found c.requires.0 c.requires.1 in
    let n = g.met.S.Symbol.are_numbers in
    let w = g.S.WideSymbol in
    let s : List ℕ = g.S.Symbol.numbers l.s in
    let at : ℕ = c.check_of-c.result in
    let v : ℕ = g.S.Symbol.number c.sub_wrap-v.result in
    let inside : at < length s = check_inside (at_checks_of f.checks_lent s l.invariant.subtracted.sized) _ _ c.check_of-c.ensures in
    let written = numbers_set n l.s at c.sub_wrap-v.result in
    let taken = c.sub_wrap-v.ensures ∙ ap (λ (x : ℕ). sub (highest w.profile) x (g.S.Symbol.number a.h)) (number_read n l.s at (omega (arith, inside, numbers_length n l.s)) c.index-s-c.is) in
    let made = c.write_check.ensures.0 ∙ ap (λ (x : List ℕ). set x at c.mark.result) l.invariant.marked ∙ ap (set (marks_of s) at) c.mark.ensures ∙ marks_set s at v inside
    ∙ ap marks_of (sym written) in
    record {
      subtracted = subtract_turn l.invariant.subtracted at v _ (omega arith) c.check_of-c.ensures taken written;
      counted = c.write_check.ensures.1 ∙ ap (zero_counts _) (sym c.write_check.ensures.0) ∙ marks_zeros _ _ (highest w.profile) a.code.q a.code.k a.code.b a.positions.now _ _ made;
      marked = made;
    }

pub returns : goal.returns
returns g c =
    let a = c.args in
    let l = c.loop-p in
    let f = found c.requires.0 c.requires.1 in
    let w = g.S.WideSymbol in (
      subtract_all l.invariant.subtracted (omega arith) ∙ ap (λ (is : List ℕ). subtract_at (highest w.profile) (g.S.Symbol.number a.h) is (g.S.Symbol.numbers a.s.now)) f.checks_are,
      l.invariant.counted,
      l.invariant.marked,
    )
