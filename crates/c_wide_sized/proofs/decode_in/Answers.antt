-- What is decoded in the buffers is handed back.
use Rattle.std.proofs.Common.{◌≡◌, length, take_all, ◌∙◌, arith}
use Rattle.model.specs.Bytes.{symbol_size, symbols_of}
use Rattle.model.specs.Code.{data_count}
use Rattle.wide_calls.specs.Received.{left_by}
use Rattle.c_wide.specs.Decodes.{left_bytes, decoded_bytes, taken_in}
use Rattle.wide_symbols.specs.Codes.{wide_code_by}
use Rattle.wide_symbols.specs.Numbers.{numbers_length}
use Rattle.c_wide_sized.proofs.decode_in.Goals as goal

pub receive-tally-requires : goal.receive-tally-requires
receive-tally-requires g c =
    let a = c.args in
    let p = c.requires in
    let n = numbers_length g.met.S.Symbol.are_numbers in
    (taken_in p.0.taken _ _ _ (n a.r.now ∙ p.4) (n a.s.now ∙ p.5) (n a.d.now ∙ p.6), p.1, p.2, p.3)

pub hand_back-requires : goal.hand_back-requires
hand_back-requires g c =
    let a = c.args in
    let p = c.requires in
    let h = g.S.WideSymbol in
    let code = wide_code_by h.profile a.code a.positions.now in
    let t = p.0 in
    let o = t.taken.opens in
    let whole : length c.receive-tally.new.zeros ≡ data_count code = c.receive-tally.auto.zeros ∙ p.1 in (
      left_by code (symbols_of (symbol_size h.profile) a.page.now) a.thresholds.now o.usable o.whole _ _ c.receive-tally.ensures.done (omega (arith, whole))
          (λ m. take_all (data_count code) c.receive-tally.new.zeros (omega (arith, whole)) ∙ c.receive-tally.ensures.counted m),
      c.receive-tally.auto.r ∙ p.4,
      c.receive-tally.auto.marks ∙ p.3,
      t.len_result,
      t.len_syndrome,
      t.len_difference,
      t.len_margins,
      t.len_counts,
    )

pub returns : goal.returns
unfolding decoded_bytes
returns g c =
    let a = c.args in
    let h = g.S.WideSymbol in
    let m = c.receive-tally.ensures.done in
    c.hand_back.ensures
    ∙ (λ i. left_bytes (symbol_size h.profile) (wide_code_by h.profile a.code a.positions.now) (m i).state
    (record { passes = (m i).tally.passes; changes = (m i).tally.changes; start = (m i).tally.start; end = (m i).tally.end }))
