-- `explain_with`: done, what is told of the symbol is the explanation. That the call is not refused is looked for among the facts of each goal.
use Rattle.std.proofs.Common.{◌≡◌, Bool, ◌&&◌, List, ℕ, ◌*◌, ◌<◌, eqb, length, sym, ◌∙◌, ap, rules}
use Rattle.model.specs.Calls.{state_fits, explain_answer, explained, explain_outcome}
use Rattle.model.specs.Code.{Code, data_count}
use Rattle.model.specs.Decoder.{State, state_by, estimates}
use Rattle.params.specs.Codes.{bits_two, code_by}
use Rattle.params.specs.declared.Params.{Params}
use Rattle.theory.specs.Answers.{PassTaken, pass_taken, explain_taken, table_usable}
use Rattle.theory.specs.Outcomes.{left_as_done}
use Rattle.ones.specs.Pages.{bits_low}
use Rattle.grounds.specs.declared.Told.{Told}
use Rattle.explainer.proofs.explain_with.Goals as goal

-- what it works on where it is not refused
record Works (p : Params) (positions : List ℕ) (others : Bool) (t j : ℕ) (read : State) : Type 0 where
  answer : 0 ≡ explain_answer (code_by p positions) (others && state_fits (code_by p positions) read) t j read
  takes : PassTaken (code_by p positions) t read
  inside : j < data_count (code_by p positions)

works : (p : Params) (positions : List ℕ) (others : Bool) (t j : ℕ) (read : State) (n : ℕ) (fits : Bool) (number : ℕ) → n ≡ p.b * p.k
    → fits ≡ (others && (eqb (length read.result) n && (eqb (length read.syndrome) p.k && eqb (length read.difference) n)))
    → number ≡ explain_answer (code_by p positions) fits t j read → number ≡ 0 → Works p positions others t j read
works p positions others t j read n fits number m f e z =
    let c : Code = code_by p positions in
    let a : 0 ≡ explain_answer c (others && state_fits c read) t j read =
    sym z ∙ e ∙ ap (λ (x : Bool). explain_answer c x t j read)
    (f ∙ ap (λ (x : ℕ). others && (eqb (length read.result) x && (eqb (length read.syndrome) p.k && eqb (length read.difference) x))) m) in
    let w = explain_taken c (others && state_fits c read) t j read (sym a) in
    record { answer = a; takes = (pass_taken c others t read w.0).1; inside = w.1 }

pub tell_symbol-told-requires : goal.tell_symbol-told-requires
tell_symbol-told-requires c =
    let a = c.args in
    let w : Works a.code a.positions.now a.others a.threshold a.symbol (state_by a.res.now a.syndrome.now a.difference.now) =
    works _ _ _ _ _ _ _ _ _ c.data_count-n.ensures c.state_fits-fits.ensures c.explain_answer.ensures (search rules) in
    let z = w.takes.sized in (
      record { table = (table_usable _ w.takes.table).table; len = z.len_syndrome },
      z.len_difference,
      w.inside,
      bits_low a.code.bits a.code.q _ a.syndrome.now (bits_two a.code.bits a.code.q w.takes.high) (z.in_difference a.symbol) z.in_syndrome,
    )

pub returns : goal.returns
unfolding explain_outcome explained estimates
returns c =
    let a = c.args in
    let w : Works a.code a.positions.now a.others a.threshold a.symbol (state_by a.res.now a.syndrome.now a.difference.now) =
    works _ _ _ _ _ _ _ _ _ c.data_count-n.ensures c.state_fits-fits.ensures c.explain_answer.ensures (search rules) in
    left_as_done _ _ _ _ w.answer
    (ap (λ (t : Told). record { ground_number = t.ground_number; leader = t.leader; lead = t.lead; next = t.next; bits = t.bits }) c.tell_symbol-told.ensures)
