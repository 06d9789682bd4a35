use Rattle.std.proofs.Common.{◌≡◌, ◌+◌, ◌/◌, length, refl, sym, ◌∙◌, eqb-true, leb-true, leb-false, arith}
use Rattle.std.proofs.lemmas.Bool.{eqb-false}
use Rattle.std.proofs.lemmas.Result.{err_from_is_err_and}
use Rattle.model.specs.Bytes.{symbols_of}
use Rattle.model.specs.Files.{contents_end, total}
use Rattle.refusals.specs.Numbers.{not_zero}
use Rattle.c_files.specs.Lists.{fit_facts, lengths_counted, numbers_read, write_unfit, write_disagree, numbers_count, write_many, write_refused, write-size, write_done}
use Rattle.c_files.proofs.write.Goals as goal

pub returns-then-not-lists_fit : goal.returns-then-not-lists_fit
returns-then-not-lists_fit c =
    let a = c.args in
    write_unfit a.numbers.now a.tops.now a.lengths.now a.bodies.now a.output.now a.length.now (sym c.lists_fit.ensures ∙ c.if-not-lists_fit.true)

pub read_lengths-requires : goal.read_lengths-requires
read_lengths-requires c =
    let a = c.args in
    let f = sym c.lists_fit.ensures ∙ c.if-not-lists_fit.false in
    let h = fit_facts (length a.numbers.now) (length a.tops.now) (length a.lengths.now) (length a.length.now) f in
    omega (arith, h.1)

pub returns-then-not-read_lengths : goal.returns-then-not-read_lengths
returns-then-not-read_lengths c =
    let a = c.args in
    let f = sym c.lists_fit.ensures ∙ c.if-not-lists_fit.false in
    write_disagree a.numbers.now a.tops.now a.lengths.now a.bodies.now a.output.now a.length.now f
    (λ g. eqb-false (total (symbols_of 4 a.lengths.now)) (length a.bodies.now) (sym c.read_lengths.ensures.sums ∙ c.if-not-read_lengths.true) g.bodies_agree)

pub returns-then-not-has_room : goal.returns-then-not-has_room
returns-then-not-has_room c =
    let a = c.args in
    let f = sym c.lists_fit.ensures ∙ c.if-not-lists_fit.false in
    let t = eqb-true (total (symbols_of 4 a.lengths.now)) (length a.bodies.now) (sym c.read_lengths.ensures.sums ∙ c.if-not-read_lengths.false) in
    let r = leb-false (contents_end (length a.tops.now) + length a.bodies.now) (length a.output.now) (sym c.has_room.ensures ∙ c.if-not-has_room.true) in
    write_disagree a.numbers.now a.tops.now a.lengths.now a.bodies.now a.output.now a.length.now f (λ g. omega (arith, t, r, g.room, numbers_count a.numbers.now a.tops.now a.lengths.now a.bodies.now a.output.now a.length.now f))

pub returns-then-count-gt64 : goal.returns-then-count-gt64
returns-then-count-gt64 c =
    let a = c.args in
    let f = sym c.lists_fit.ensures ∙ c.if-not-lists_fit.false in
    let t = eqb-true (total (symbols_of 4 a.lengths.now)) (length a.bodies.now) (sym c.read_lengths.ensures.sums ∙ c.if-not-read_lengths.false) in
    let r = leb-true (contents_end (length a.tops.now) + length a.bodies.now) (length a.output.now) (sym c.has_room.ensures ∙ c.if-not-has_room.false) in
    write_many a.numbers.now a.tops.now a.lengths.now a.bodies.now a.output.now a.length.now f t r (omega arith)

pub read_positions-n-requires : goal.read_positions-n-requires
read_positions-n-requires c =
    let a = c.args in
    let f = sym c.lists_fit.ensures ∙ c.if-not-lists_fit.false in
    let h = fit_facts (length a.numbers.now) (length a.tops.now) (length a.lengths.now) (length a.length.now) f in
    λ z. omega (arith, h.0)

pub returns-in_err-wrote : goal.returns-in_err-wrote
returns-in_err-wrote c =
    let a = c.args in
    let f = sym c.lists_fit.ensures ∙ c.if-not-lists_fit.false in
    let h = fit_facts (length a.numbers.now) (length a.tops.now) (length a.lengths.now) (length a.length.now) f in
    let ns = c.read_positions-n.ensures.read ∙ numbers_read a.numbers.now (length a.tops.now) h.0 (omega arith) in
    let count : length a.lengths.now / 4 ≡ length a.tops.now = omega (arith, h.1) in
    let ss = lengths_counted _ _ _ _ count (c.read_lengths.ensures.read c.if-not-read_lengths.false (omega (arith, h.1))) in
    let p = err_from_is_err_and c.from_residual.result c.from_residual.ensures.1 in
    rw (p.1, p.2) (write_refused a.numbers.now a.tops.now a.lengths.now a.bodies.now a.output.now a.length.now f _ _ ns ss _ _ _ c.in_err-wrote.ensures (not_zero _))

pub overflow_cast-wrote : goal.overflow_cast-wrote
overflow_cast-wrote c =
    let a = c.args in
    let f = sym c.lists_fit.ensures ∙ c.if-not-lists_fit.false in
    let h = fit_facts (length a.numbers.now) (length a.tops.now) (length a.lengths.now) (length a.length.now) f in
    let ns = c.read_positions-n.ensures.read ∙ numbers_read a.numbers.now (length a.tops.now) h.0 (omega arith) in
    let count : length a.lengths.now / 4 ≡ length a.tops.now = omega (arith, h.1) in
    let ss = lengths_counted _ _ _ _ count (c.read_lengths.ensures.read c.if-not-read_lengths.false (omega (arith, h.1))) in
    omega (arith, write-size a.numbers.now a.tops.now a.lengths.now a.bodies.now a.output.now a.length.now f _ _ ns ss _ _ _ c.in_ok-wrote.ensures refl)

pub put_changes-requires : goal.put_changes-requires
put_changes-requires c =
    let a = c.args in
    let f = sym c.lists_fit.ensures ∙ c.if-not-lists_fit.false in
    (fit_facts (length a.numbers.now) (length a.tops.now) (length a.lengths.now) (length a.length.now) f).2

pub returns : goal.returns
returns c =
    let a = c.args in
    let f = sym c.lists_fit.ensures ∙ c.if-not-lists_fit.false in
    let h = fit_facts (length a.numbers.now) (length a.tops.now) (length a.lengths.now) (length a.length.now) f in
    let ns = c.read_positions-n.ensures.read ∙ numbers_read a.numbers.now (length a.tops.now) h.0 (omega arith) in
    let count : length a.lengths.now / 4 ≡ length a.tops.now = omega (arith, h.1) in
    let ss = lengths_counted _ _ _ _ count (c.read_lengths.ensures.read c.if-not-read_lengths.false (omega (arith, h.1))) in
    write_done a.numbers.now a.tops.now a.lengths.now a.bodies.now a.output.now a.length.now f _ _ ns ss _ _ _ c.in_ok-wrote.ensures _ refl c.put_changes.ensures
