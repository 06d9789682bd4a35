-- `open_page`: the result is the front of the page; the distance is the weight of the syndrome, since D is zeros.
use Rattle.std.proofs.Common.{ℕ, ap, sym, ◌∙◌, arith, take}
use lib.Seq.{length-take-le}
use Rattle.model.specs.Symbols.{weight, tabulate}
use Rattle.params.specs.Codes.{in_bytes, code_by}
use Rattle.opening.specs.Opened.{opens_bytes, opened-by, opened_distance}
use Rattle.opening.proofs.open_page.Goals as goal

pub slice_bounds-copy_into-end : goal.slice_bounds-copy_into-end
slice_bounds-copy_into-end c = sym (length-take-le c.data_count-n.result c.args.page.now (omega (arith, c.requires.whole.len, c.data_count-n.ensures)))

pub copy_into-requires : goal.copy_into-requires
copy_into-requires c =
    c.requires.len_result ∙ sym c.data_count-n.ensures ∙ sym (length-take-le c.data_count-n.result c.args.page.now (omega (arith, c.requires.whole.len, c.data_count-n.ensures)))

pub write_syndrome-requires : goal.write_syndrome-requires
write_syndrome-requires c = (opens_bytes _ _ _ c.requires (in_bytes c.args.code.bits), c.requires.whole, c.requires.len_syndrome)

pub returns-clause-state : goal.returns-clause-state
returns-clause-state c =
    let a = c.args in
    opened-by (code_by a.code a.positions.now) a.page.now _ _ _ (c.copy_into.ensures ∙ ap (λ (n : ℕ). take n a.page.now) c.data_count-n.ensures) c.write_syndrome.ensures
    (c.clear.ensures ∙ ap (λ (n : ℕ). tabulate n (λ i. 0)) c.requires.len_difference)

pub returns-clause-distance : goal.returns-clause-distance
returns-clause-distance c =
    let a = c.args in
    c.weight_of.ensures ∙ ap weight c.write_syndrome.ensures ∙ opened_distance (code_by a.code a.positions.now) a.page.now c.requires.usable c.requires.whole
