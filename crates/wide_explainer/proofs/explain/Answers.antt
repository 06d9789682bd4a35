-- Refused, nothing is told; done, what is told of the symbol is the explanation.
use Rattle.std.proofs.Common.{◌≡◌, refl, Bool, true, ◌&&◌, ℕ, ◌<◌, length, sym, ◌∙◌, ap, arith}
use Rattle.std.specs.Prelude.{eqb}
use Rattle.std.proofs.lemmas.Result.{err_from_is_err_and}
use Rattle.model.specs.Calls.{state_fits, explain_answer, explained, explain_outcome}
use Rattle.model.specs.Code.{Code, wide_code, highest, data_count}
use Rattle.model.specs.Decoder.{State, state_by, estimates}
use Rattle.params.specs.Sizes.{sizes_fit}
use Rattle.theory.specs.Answers.{PassTaken, pass_taken, explain_taken, table_usable}
use Rattle.theory.specs.Outcomes.{left_as_lent, left_as_done}
use Rattle.theory.specs.Profiles.{state_low}
use Rattle.grounds.specs.declared.Told.{Told}
use Rattle.refusals.specs.Numbers.{not_zero}
use Rattle.wide_symbols.specs.Numbers.{numbers_length}
use Rattle.wide_symbols.specs.Widths.{wide_low}
use Rattle.wide_explainer.proofs.explain.Goals as goal

module _ (c : Code) (threshold symbol : ℕ) (read : State) where
  -- the number returned is explain's
  number : {x : ℕ} (f : Bool) (n r s d : ℕ) → x ≡ explain_answer c f threshold symbol read → f ≡ (eqb r n && (eqb s c.k && eqb d n)) → n ≡ data_count c
      → length read.result ≡ r → length read.syndrome ≡ s → length read.difference ≡ d → x ≡ explain_answer c (state_fits c read) threshold symbol read
  number f n r s d e h m a b v = e ∙ ap (λ (g : Bool). explain_answer c g threshold symbol read) (h ∙ rw (← a, ← b, ← v, m) refl)

  -- what it works on where it is not refused
  taken : {x : ℕ} → x ≡ explain_answer c (state_fits c read) threshold symbol read → x ≡ 0 → PassTaken c threshold read × (symbol < data_count c)
  taken e z = let t = explain_taken c (state_fits c read) threshold symbol read (sym e ∙ z) in ((pass_taken c true threshold read t.0).1, t.1)

pub data_count-n-requires : goal.data_count-n-requires
data_count-n-requires g c = omega (arith, sizes_fit c.args.k c.args.b (omega arith) (omega arith))

pub explain_answer-requires : goal.explain_answer-requires
explain_answer-requires g c = omega (arith, sizes_fit c.args.k c.args.b (omega arith) (omega arith))

pub returns-in_err-explain_answer : goal.returns-in_err-explain_answer
unfolding explain_outcome
returns-in_err-explain_answer g c =
    let a = c.args in
    let h = g.S.WideSymbol in
    let code = wide_code h.profile a.k a.b a.positions.now in
    let read = state_by (g.S.Symbol.numbers a.res.now) (g.S.Symbol.numbers a.syndrome.now) (g.S.Symbol.numbers a.difference.now) in
    let l = numbers_length g.met.S.Symbol.are_numbers in
    let low = state_low (highest h.profile) (omega (arith, wide_low g.met.S.WideSymbol.is_wide)) read c.all_below.ensures c.all_below-2.ensures c.all_below-3.ensures in
    let n =
    number code a.threshold a.symbol read _ _ _ _ _ (c.in_err-explain_answer.ensures read low) c.state_fits-fits.ensures c.data_count-n.ensures
    (l a.res.now) (l a.syndrome.now) (l a.difference.now) in
    let p = err_from_is_err_and c.from_residual.result c.from_residual.ensures.1 in
    rw (p.1, p.2) (left_as_lent _ _ _ _ n (not_zero _))

pub tell_symbol-told-requires : goal.tell_symbol-told-requires
tell_symbol-told-requires g c =
    let a = c.args in
    let h = g.S.WideSymbol in
    let code = wide_code h.profile a.k a.b a.positions.now in
    let read = state_by (g.S.Symbol.numbers a.res.now) (g.S.Symbol.numbers a.syndrome.now) (g.S.Symbol.numbers a.difference.now) in
    let l = numbers_length g.met.S.Symbol.are_numbers in
    let low = state_low (highest h.profile) (omega (arith, wide_low g.met.S.WideSymbol.is_wide)) read c.all_below.ensures c.all_below-2.ensures c.all_below-3.ensures in
    let n =
    number code a.threshold a.symbol read _ _ _ _ _ (c.in_ok-explain_answer.ensures read low) c.state_fits-fits.ensures c.data_count-n.ensures
    (l a.res.now) (l a.syndrome.now) (l a.difference.now) in
    let t = taken code a.threshold a.symbol read n refl in
    (record { table = (table_usable _ t.0.table).table; len = t.0.sized.len_syndrome }, sym (l a.difference.now) ∙ t.0.sized.len_difference, t.1)

pub returns : goal.returns
unfolding explain_outcome explained estimates
returns g c =
    let a = c.args in
    let h = g.S.WideSymbol in
    let code = wide_code h.profile a.k a.b a.positions.now in
    let read = state_by (g.S.Symbol.numbers a.res.now) (g.S.Symbol.numbers a.syndrome.now) (g.S.Symbol.numbers a.difference.now) in
    let l = numbers_length g.met.S.Symbol.are_numbers in
    let low = state_low (highest h.profile) (omega (arith, wide_low g.met.S.WideSymbol.is_wide)) read c.all_below.ensures c.all_below-2.ensures c.all_below-3.ensures in
    let n =
    number code a.threshold a.symbol read _ _ _ _ _ (c.in_ok-explain_answer.ensures read low) c.state_fits-fits.ensures c.data_count-n.ensures
    (l a.res.now) (l a.syndrome.now) (l a.difference.now) in
    left_as_done _ _ _ _ n
    (ap (λ (t : Told). record { ground_number = t.ground_number; leader = t.leader; lead = t.lead; next = t.next; bits = t.bits }) c.tell_symbol-told.ensures)
