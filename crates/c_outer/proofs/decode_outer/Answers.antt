-- `decode_outer`: what holds of decode in blocks with the positions that are read holds with those of the table, in either buffer.
use Rattle.std.proofs.Common.{ℕ, true, length, refl, ◌∙◌, ap, arith}
use Rattle.model.specs.Bytes.{positions_of}
use Rattle.model.specs.Code.{byte_pages, code_of}
use Rattle.model.specs.Decoder.{state_by}
use Rattle.params.specs.Sizes.{sizes_fit}
use Rattle.position_bytes.specs.Positions.{small_fits}
use Rattle.position_bytes.specs.Reads.{decode_read}
use Rattle.theory.specs.Counters.{none_clear, clear_made}
use Rattle.theory.specs.InBlocks.{c_decode_form}
use Rattle.theory.proofs.InBlocks.{c_decode_outer_done}
use Rattle.c_outer.proofs.decode_outer.Goals as goal

pub data_count-requires : goal.data_count-requires
data_count-requires c = omega (arith, sizes_fit c.args.k c.args.b (omega arith) (omega arith))

pub read_positions-n-requires : goal.read_positions-n-requires
read_positions-n-requires c = omega (arith, (small_fits (length c.args.table.now) c.data_count.result _ c.is_small.ensures c.if-is_small.true).0)

pub decode_into-requires : goal.decode_into-requires
decode_into-requires c =
    let f = small_fits (length c.args.table.now) c.data_count.result _ c.is_small.ensures c.if-is_small.true in
    (omega arith, omega arith, (λ _. omega (arith, f.1, c.data_count.ensures)), clear_made 128, (λ _. none_clear), refl)

pub returns-then-is_small : goal.returns-then-is_small
returns-then-is_small c =
    let a = c.args in
    let ps = positions_of a.table.now in
    let code = code_of a.q a.k a.b ps in
    let lent = state_by a.res.now a.syndrome.now a.difference.now in
    let done = c_decode_outer_done code a.block a.page.now a.thresholds.now lent a.margins.now a.counts.now _ _
    (c.decode_into.ensures.outcome ∙ decode_read byte_pages a.q a.k a.b _ ps c.read_positions-n.ensures.read _ true a.page.now a.thresholds.now lent a.margins.now a.counts.now
    ∙ ap (λ (m : ℕ). c_decode_form code m true a.page.now a.thresholds.now lent a.margins.now a.counts.now) c.length_of-length.ensures) in
    record { outcome = done.0; falling = done.1.0; recovery = done.1.1 }

pub decode_into-requires-2 : goal.decode_into-requires-2
decode_into-requires-2 c = (omega arith, omega arith, (λ h. h), clear_made 4096, (λ _. none_clear), refl)

pub returns : goal.returns
returns c =
    let a = c.args in
    let ps = positions_of a.table.now in
    let code = code_of a.q a.k a.b ps in
    let lent = state_by a.res.now a.syndrome.now a.difference.now in
    let done = c_decode_outer_done code a.block a.page.now a.thresholds.now lent a.margins.now a.counts.now _ _
    (c.decode_into-2.ensures.outcome ∙ decode_read byte_pages a.q a.k a.b _ ps c.read_positions-n-2.ensures.read _ true a.page.now a.thresholds.now lent a.margins.now a.counts.now
    ∙ ap (λ (m : ℕ). c_decode_form code m true a.page.now a.thresholds.now lent a.margins.now a.counts.now) c.length_of-length.ensures) in
    record { outcome = done.0; falling = done.1.0; recovery = done.1.1 }
