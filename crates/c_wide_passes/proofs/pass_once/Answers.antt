-- The symbols of the three buffers are read, and the run of passes on one threshold is the pass.
use Rattle.std.proofs.Common.{◌≡◌, ℕ, ◌*◌, sym, subst, ◌∙◌, ap, arith}
use Rattle.model.specs.Bytes.{symbol_size, state_read}
use Rattle.model.specs.Calls.{passed_state, passed_changes}
use Rattle.model.specs.Code.{data_count, check_count}
use Rattle.model.specs.Decoder.{State, state_by}
use Rattle.passing.specs.Once.{once_state, once_changes}
use Rattle.tally.specs.declared.Tally.{Tally}
use Rattle.theory.specs.Answers.{table_usable}
use Rattle.theory.specs.Steps.{Sized}
use Rattle.wide_symbols.specs.Codes.{wide_code_by}
use Rattle.c_wide_passes.proofs.pass_once.Goals as goal

pub read_symbols-requires : goal.read_symbols-requires
read_symbols-requires g c =
    let p = c.requires in
    let f = g.S.WideSymbol.profile in
    let u = table_usable (wide_code_by f c.args.code c.args.positions.now) p.0.taken.table in
    (p.0.len_result ∙ ap (λ (n : ℕ). n * symbol_size f) (sym p.4), omega (arith, p.4, u.table.sizes.data-high))

pub read_symbols-requires-2 : goal.read_symbols-requires-2
read_symbols-requires-2 g c =
    let p = c.requires in
    let f = g.S.WideSymbol.profile in
    let u = table_usable (wide_code_by f c.args.code c.args.positions.now) p.0.taken.table in
    (p.0.len_syndrome ∙ ap (λ (n : ℕ). n * symbol_size f) (sym p.5), omega (arith, p.5, u.table.sizes.k_high))

pub read_symbols-requires-3 : goal.read_symbols-requires-3
read_symbols-requires-3 g c =
    let p = c.requires in
    let f = g.S.WideSymbol.profile in
    let u = table_usable (wide_code_by f c.args.code c.args.positions.now) p.0.taken.table in
    (p.0.len_difference ∙ ap (λ (n : ℕ). n * symbol_size f) (sym p.6), omega (arith, p.6, u.table.sizes.data-high))

pub run-tally-requires : goal.run-tally-requires
run-tally-requires g c =
    let a = c.args in
    let p = c.requires in
    let f = g.S.WideSymbol.profile in
    let code = wide_code_by f a.code a.positions.now in
    let numbers = g.S.Symbol.numbers in
    let loaded : state_by (numbers c.read_symbols.new.out) (numbers c.read_symbols-2.new.out) (numbers c.read_symbols-3.new.out)
    ≡ state_read (symbol_size f) (state_by a.res.now a.syndrome.now a.difference.now) =
    (λ i. state_by (c.read_symbols.ensures i) (c.read_symbols-2.ensures i) (c.read_symbols-3.ensures i)) in
    let fit : State → Type 0 = Sized code.q (data_count code) (check_count code) in (
      record { usable = table_usable code p.0.taken.table; bytes = omega arith; sized = subst fit (sym loaded) p.0.taken.sized },
      omega arith,
      ap (λ (t : Tally). t.changes) c.opened-opened.ensures,
      p.1,
      p.2,
      p.3,
    )

pub returns : goal.returns
returns g c =
    let a = c.args in
    let f = g.S.WideSymbol.profile in
    let code = wide_code_by f a.code a.positions.now in
    let numbers = g.S.Symbol.numbers in
    let loaded : state_by (numbers c.read_symbols.new.out) (numbers c.read_symbols-2.new.out) (numbers c.read_symbols-3.new.out)
    ≡ state_read (symbol_size f) (state_by a.res.now a.syndrome.now a.difference.now) =
    (λ i. state_by (c.read_symbols.ensures i) (c.read_symbols-2.ensures i) (c.read_symbols-3.ensures i)) in
    let r = c.run-tally.ensures.ran in
    record {
      state = once_state _ _ _ _ r ∙ ap (passed_state code a.threshold) loaded;
      changed = once_changes _ _ _ _ r (ap (λ (t : Tally). t.changes) c.opened-opened.ensures) ∙ ap (passed_changes code a.threshold) loaded;
    }
