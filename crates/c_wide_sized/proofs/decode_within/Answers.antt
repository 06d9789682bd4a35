-- Buffers of N are large enough.
use Rattle.std.proofs.Common.{ℕ, ◌≤◌, length, replicate, length-take-le, ◌∙◌, mul-le-mul_right, arith}
use Rattle.std.proofs.lemmas.List.{length-replicate}
use Rattle.theory.specs.Counters.{clear_made, clear_front}
use Rattle.c_wide_sized.proofs.decode_within.Goals as goal

pub decode_in-requires : goal.decode_in-requires
decode_in-requires g c =
    let p = c.requires in
    let k = c.args.code.k in
    let e = c.data_count-n.ensures in
    let bytes = length-replicate {A = ℕ} g.row.N 0 in
    let few : c.data_count-n.result ≤ g.row.N = omega (arith, e, p.2) in
    let checks : k ≤ g.row.N = omega (arith, mul-le-mul_right k p.1.taken.opens.usable.table.sizes.b_low, p.2) in
    let few_bytes : c.data_count-n.result ≤ length (replicate {A = ℕ} g.row.N 0) = omega (arith, few, bytes) in (
      p.1,
      length-take-le _ _ few_bytes ∙ e,
      clear_front c.data_count-n.result _ (clear_made g.row.N),
      length-take-le _ _ few_bytes ∙ e,
      length-take-le _ _ (omega (arith, few, length-replicate g.row.N c.narrowed-r.result)) ∙ e,
      length-take-le _ _ (omega (arith, checks, length-replicate g.row.N c.narrowed-s.result)),
      length-take-le _ _ (omega (arith, few, length-replicate g.row.N c.narrowed-d.result)) ∙ e,
    )
