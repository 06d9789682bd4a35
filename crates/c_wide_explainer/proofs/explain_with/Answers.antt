-- Refused, the explanation is as it was lent; done, it is the bytes of what is told of the symbol.
use Rattle.std.proofs.Common.{◌≡◌, refl, Bool, true, ◌&&◌, List, ℕ, ◌<◌, length, get_or, Fits, w8, sym, ◌∙◌, ap, arith}
use Rattle.std.specs.Prelude.{eqb}
use Rattle.std.proofs.lemmas.Result.{err_from_is_err_and}
use Rattle.model.specs.Bytes.{symbol_size, state_read, explained_bytes, c_explain_outcome, wide_explain_outcome}
use Rattle.model.specs.Calls.{state_fits, state_symbols, explain_answer, explained}
use Rattle.model.specs.Code.{Code, Profile, highest, data_count}
use Rattle.model.specs.Decoder.{State, state_by, estimates}
use Rattle.model.specs.Symbols.{Below}
use Rattle.params.specs.Sizes.{sizes_fit}
use Rattle.theory.specs.Answers.{PassTaken, pass_taken, explain_taken, table_usable, eqb-true}
use Rattle.theory.specs.Outcomes.{left_as_lent, left_as_done}
use Rattle.theory.specs.Profiles.{state_low}
use Rattle.grounds.specs.declared.Told.{Told}
use Rattle.refusals.specs.Numbers.{not_zero}
use Rattle.wide_symbols.specs.Codes.{wide_code_by}
use Rattle.wide_symbols.specs.Widths.{IsWide, wide_low}
use Rattle.wide_bytes.specs.Places.{wide_some, wide_below}
use Rattle.c_wide.specs.Calls.{state_bytes}
use Rattle.c_wide_explainer.specs.Fits.{state_counted}
use Rattle.c_wide_explainer.proofs.explain_with.Goals as goal

-- every symbol that is read is below q
abbrev AreBytes : List ℕ → Type 0
AreBytes s = (i : ℕ) → Fits w8 (get_or s i 0)

read_low : {f : Profile} {w : ℕ} → IsWide f w → (bytes : State) → AreBytes bytes.result → AreBytes bytes.syndrome → AreBytes bytes.difference
    → Below (highest f) (state_symbols (state_read (symbol_size f) bytes))
read_low {f} wide bytes r s d =
    state_low (highest f) (omega (arith, wide_low wide)) (state_read (symbol_size f) bytes) (wide_below wide bytes.result (λ i. omega (arith, r i)))
    (wide_below wide bytes.syndrome (λ i. omega (arith, s i))) (wide_below wide bytes.difference (λ i. omega (arith, d i)))

module _ (c : Code) (fits : Bool) (threshold symbol : ℕ) (bytes : State) where
  abbrev read : State
  read = state_read (symbol_size c.profile) bytes

  -- the number returned is explain's
  number : {x : ℕ} (f : Bool) (n r s d : ℕ) → x ≡ explain_answer c f threshold symbol read → f ≡ (fits && (eqb r n && (eqb s c.k && eqb d n))) → n ≡ data_count c
      → r ≡ length read.result → s ≡ length read.syndrome → d ≡ length read.difference → x ≡ explain_answer c (fits && state_fits c read) threshold symbol read
  number f n r s d e h m a b v =
      e ∙ ap (λ (g : Bool). explain_answer c g threshold symbol read) (h ∙ state_counted fits c.k n (data_count c) m r s d _ _ _ a b v)

  -- what it works on where it is not refused
  record Taken : Type 0 where
    room : fits ≡ true
    pass : PassTaken c threshold read
    inside : symbol < data_count c

  taken : {x : ℕ} → x ≡ explain_answer c (fits && state_fits c read) threshold symbol read → x ≡ 0 → Taken
  taken e z =
      let t = explain_taken c (fits && state_fits c read) threshold symbol read (sym e ∙ z) in
      let p = pass_taken c fits threshold read t.0 in
      record { room = p.0; pass = p.1; inside = t.1 }

pub data_count-n-requires : goal.data_count-n-requires
data_count-n-requires g c = omega (arith, sizes_fit c.args.code.k c.args.code.b c.requires.0 c.requires.1)

pub explain_answer-requires : goal.explain_answer-requires
explain_answer-requires g c = omega (arith, sizes_fit c.args.code.k c.args.code.b c.requires.0 c.requires.1)

pub returns-in_err-explain_answer : goal.returns-in_err-explain_answer
unfolding wide_explain_outcome c_explain_outcome
returns-in_err-explain_answer g c =
    let a = c.args in
    let code = wide_code_by g.S.WideSymbol.profile a.code a.positions.now in
    let bytes = state_by a.res.now a.syndrome.now a.difference.now in
    let low = read_low g.met.S.WideSymbol.is_wide bytes c.type_inv.res c.type_inv.syndrome c.type_inv.difference in
    let n =
    number code (eqb (length a.explanation.now) 24) a.threshold a.symbol bytes _ _ _ _ _ (c.in_err-explain_answer.ensures _ low) c.state_fits-fits.ensures
    c.data_count-n.ensures c.count-sent.ensures c.count-checks.ensures c.count-differences.ensures in
    let p = err_from_is_err_and c.from_residual.result c.from_residual.ensures.1 in
    rw (p.1, p.2) (left_as_lent _ _ _ _ n (not_zero _))

pub tell_symbol-told-requires : goal.tell_symbol-told-requires
tell_symbol-told-requires g c =
    let a = c.args in
    let code = wide_code_by g.S.WideSymbol.profile a.code a.positions.now in
    let bytes = state_by a.res.now a.syndrome.now a.difference.now in
    let low = read_low g.met.S.WideSymbol.is_wide bytes c.type_inv.res c.type_inv.syndrome c.type_inv.difference in
    let n =
    number code (eqb (length a.explanation.now) 24) a.threshold a.symbol bytes _ _ _ _ _ (c.in_ok-explain_answer.ensures _ low) c.state_fits-fits.ensures
    c.data_count-n.ensures c.count-sent.ensures c.count-checks.ensures c.count-differences.ensures in
    let t = taken code (eqb (length a.explanation.now) 24) a.threshold a.symbol bytes n refl in
    let u = table_usable code t.pass.table in
    let z = t.pass.sized in
    let l = state_bytes code (symbol_size code.profile) (wide_some g.met.S.WideSymbol.is_wide) u bytes z.len_result z.len_syndrome z.len_difference in
    (record { table = u.table; len = z.len_syndrome }, l.len_syndrome, l.len_difference, t.inside)

pub put_answer-requires : goal.put_answer-requires
put_answer-requires g c =
    let a = c.args in
    let code = wide_code_by g.S.WideSymbol.profile a.code a.positions.now in
    let bytes = state_by a.res.now a.syndrome.now a.difference.now in
    let low = read_low g.met.S.WideSymbol.is_wide bytes c.type_inv.res c.type_inv.syndrome c.type_inv.difference in
    let n =
    number code (eqb (length a.explanation.now) 24) a.threshold a.symbol bytes _ _ _ _ _ (c.in_ok-explain_answer.ensures _ low) c.state_fits-fits.ensures
    c.data_count-n.ensures c.count-sent.ensures c.count-checks.ensures c.count-differences.ensures in
    let t = taken code (eqb (length a.explanation.now) 24) a.threshold a.symbol bytes n refl in
    eqb-true (length a.explanation.now) 24 t.room

pub returns : goal.returns
unfolding wide_explain_outcome c_explain_outcome explained estimates
returns g c =
    let a = c.args in
    let code = wide_code_by g.S.WideSymbol.profile a.code a.positions.now in
    let bytes = state_by a.res.now a.syndrome.now a.difference.now in
    let low = read_low g.met.S.WideSymbol.is_wide bytes c.type_inv.res c.type_inv.syndrome c.type_inv.difference in
    let n =
    number code (eqb (length a.explanation.now) 24) a.threshold a.symbol bytes _ _ _ _ _ (c.in_ok-explain_answer.ensures _ low) c.state_fits-fits.ensures
    c.data_count-n.ensures c.count-sent.ensures c.count-checks.ensures c.count-differences.ensures in
    left_as_done _ _ _ _ n
    (c.put_answer.ensures
    ∙ ap (λ (t : Told). explained_bytes (record { ground_number = t.ground_number; leader = t.leader; lead = t.lead; next = t.next; bits = t.bits })) c.tell_symbol-told.ensures)
