use Rattle.std.proofs.Common.{List, ℕ, length, refl, sym, ap, ◌∙◌, arith}
use Rattle.std.proofs.lemmas.List.Edits.{sets}
use Rattle.std.proofs.lemmas.Result.{err_from_is_err_and}
use Rattle.model.specs.Bytes.{bytes_in}
use Rattle.model.specs.Files.{contents_end, contents_of, listing, listed_from}
use Rattle.refusals.specs.Numbers.{not_zero}
use Rattle.file_lists.specs.Steps.{write_agrees, write_refused, write_done, file_put, bodies_put}
use Rattle.file_writer.proofs.write.Goals as goal

pub returns-in_err-write_answer : goal.returns-in_err-write_answer
returns-in_err-write_answer c =
    let p = err_from_is_err_and c.from_residual.result c.from_residual.ensures.1 in
    rw (p.1, p.2) (write_refused _ c.args.output.now _ c.in_err-write_answer.ensures (not_zero _))

pub put_two-requires : goal.put_two-requires
put_two-requires c = omega (arith, (write_agrees _ (length c.args.output.now) (sym c.in_ok-write_answer.ensures)).0.room)

pub put_contents-requires : goal.put_contents-requires
put_contents-requires c =
    let g = write_agrees _ (length c.args.output.now) (sym c.in_ok-write_answer.ensures) in
    (g.0.tops_agree, g.0.sizes_agree, g.1.few, g.1.short, omega (arith, g.0.room))

pub contents_end-start-requires : goal.contents_end-start-requires
contents_end-start-requires c = (write_agrees _ (length c.args.output.now) (sym c.in_ok-write_answer.ensures)).1.few

pub overflow_add-end : goal.overflow_add-end
overflow_add-end c =
    let g = write_agrees _ (length c.args.output.now) (sym c.in_ok-write_answer.ensures) in
    omega (arith, g.1.few, g.1.short, g.0.bodies_agree)

pub slice_bounds-copy_into-end : goal.slice_bounds-copy_into-end
slice_bounds-copy_into-end c =
    let g = write_agrees _ (length c.args.output.now) (sym c.in_ok-write_answer.ensures) in
    omega (arith, g.0.room, g.0.bodies_agree)

pub returns : goal.returns
returns c =
    let a = c.args in
    let l = listing a.numbers.now a.tops.now a.lengths.now a.bodies.now in
    let g = write_agrees l (length a.output.now) (sym c.in_ok-write_answer.ensures) in
    let start = c.contents_end-start.result in
    let at = c.contents_end-start.ensures in
    let contents = contents_of (listed_from (contents_end (length a.numbers.now)) a.numbers.now a.tops.now a.lengths.now) in
    write_done l a.output.now _ _ _ c.in_ok-write_answer.ensures refl (omega (arith, g.0.bodies_agree, at))
    (bodies_put start c.put_contents.new.d _ a.bodies.now c.copy_into.ensures (omega (arith, g.0.room, g.0.bodies_agree, at))
    ∙ ap (λ (x : List ℕ). sets x start a.bodies.now) (c.put_contents.ensures ∙ ap (λ (x : List ℕ). sets x 2 contents) c.put_two.ensures)
    ∙ ap (λ (k : ℕ). sets (sets (sets a.output.now 0 (bytes_in 2 (length a.numbers.now))) 2 contents) k a.bodies.now) at
    ∙ file_put l a.output.now g.0)
