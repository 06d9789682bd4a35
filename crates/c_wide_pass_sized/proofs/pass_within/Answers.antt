-- Buffers of N are large enough; what the pass leaves in them is written as bytes.
use Rattle.std.proofs.Common.{ℕ, ◌≤◌, length-take-le, mul-le-mul_right, ap, ◌∙◌, arith}
use Rattle.std.proofs.lemmas.List.{length-replicate}
use Rattle.model.specs.Bytes.{word_of, symbol_size, state_written}
use Rattle.model.specs.Decoder.{State}
use Rattle.theory.specs.Answers.{table_usable}
use Rattle.theory.specs.Counters.{clear_made, clear_front}
use Rattle.wide_symbols.specs.Codes.{wide_code_by}
use Rattle.c_wide.specs.Decodes.{passed_bytes}
use Rattle.c_wide_pass_sized.proofs.pass_within.Goals as goal

pub whole_as_front-marks : goal.whole_as_front-marks
whole_as_front-marks g c =
    let k = c.args.code.k in
    let u = table_usable (wide_code_by g.S.WideSymbol.profile c.args.code c.args.positions.now) c.requires.0.taken.table in
    (omega (arith, mul-le-mul_right k u.table.sizes.b_low, c.requires.1), omega arith)

pub pass_once-changed-requires : goal.pass_once-changed-requires
pass_once-changed-requires g c =
    let p = c.requires in
    let k = c.args.code.k in
    let n : ℕ = c.data_count-n.result in
    let e = c.data_count-n.ensures in
    let u = table_usable (wide_code_by g.S.WideSymbol.profile c.args.code c.args.positions.now) p.0.taken.table in
    let few : n ≤ g.row.N = omega (arith, e, p.1) in
    let checks : k ≤ g.row.N = omega (arith, mul-le-mul_right k u.table.sizes.b_low, p.1) in
    let bytes = length-replicate {A = ℕ} g.row.N 0 in (
      p.0,
      length-take-le _ _ (omega (arith, few, bytes)) ∙ e,
      clear_front n _ (clear_made g.row.N),
      length-take-le _ _ (omega (arith, checks, bytes)),
      length-take-le _ _ (omega (arith, few, length-replicate g.row.N c.narrowed-first.result)) ∙ e,
      length-take-le _ _ (omega (arith, checks, length-replicate g.row.N c.narrowed-second.result)),
      length-take-le _ _ (omega (arith, few, length-replicate g.row.N c.narrowed-third.result)) ∙ e,
    )

pub returns : goal.returns
unfolding passed_bytes
returns g c =
    let p = c.pass_once-changed.ensures in
    let state = c.write_state.ensures ∙ ap (λ (st : State). state_written (symbol_size g.S.WideSymbol.profile) st) p.state in
    let changes = c.put_changes.ensures ∙ ap word_of p.changed in
    λ i. record { state = state i; changes = changes i }
