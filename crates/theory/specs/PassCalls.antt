-- Lists of passes, each called for itself: what they leave is what the visits of those that were not refused leave.
use Rattle.std.specs.Prelude.{◌≡◌, refl, Bool, true, false, ◌&&◌, T, eqb, ltb}
use Rattle.std.proofs.Common.{ap, sym, ◌∙◌, subst, arith, ltb→lt, lt→ltb}
use mathlib.Core.List.{List, [], ◌∷◌, map}
use Prim.Native.Nat.{ℕ, ◌+◌, ◌<◌}
use Rattle.model.specs.Calls.{all_below, table_answer, state_fits, pass_answer, outcome, Passed, passed_state, passed_changes, pass_outcome, PassCall, fitting, after_calls, call_changes, not_refused}
use Rattle.model.specs.Code.{Code, data_count, check_count, checks_of}
use Rattle.model.specs.Decoder.{State, Visit, after, change_count, pass, passes, data_symbols}
use Rattle.model.specs.Symbols.{choose}
use Rattle.theory.specs.Answers.{and_true, table_usable, pass_taken, pass_takes, pass_six}
use Rattle.theory.specs.Codes.{code_incidence}
use Rattle.theory.specs.Counting.{is_true, eqb_yes, eqb_no, All}
use Rattle.theory.specs.Falling.{after_sized}
use Rattle.theory.specs.Runs.{after_append, changes_append}
use Rattle.theory.specs.Steps.{Sized}

module _ (c : Code) where
  -- what a call leaves where the test of its number is b
  abbrev left : Bool → ℕ → State → Passed ℕ
  left b t st = choose b (record { state = passed_state c t st; changes = passed_changes c t st }) (record { state = st; changes = 0 })

  -- the visits of passes with these thresholds
  abbrev visits : List ℕ → List Visit
  visits ts = passes (data_symbols c) ts

  -- the calls leave what those visits leave, and hand back their changes
  abbrev Made : List PassCall → State → Type 0
  Made ps st =
      let vs = visits (not_refused c ps st) in
      (after_calls c ps st ≡ after c.q (checks_of c) vs st) × (call_changes c ps st ≡ change_count c.q (checks_of c) vs st)

  pub calls_made : (ps : List PassCall) (st : State) → Made ps st
  unfolding after_calls call_changes not_refused pass_outcome outcome passes after change_count
  calls_made [] st = (refl, refl)
  calls_made (p ∷ ps) st = go (eqb (pass_answer c (p.fits && state_fits c st) p.threshold st) 0) (λ b. calls_made ps (left b p.threshold st).state)
    where
      t : ℕ
      t = p.threshold

      go : (b : Bool) → ((x : Bool) → Made ps (left x t st).state)
          → let vs = visits (choose b (t ∷ not_refused c ps (left b t st).state) (not_refused c ps (left b t st).state)) in
          (after_calls c ps (left b t st).state ≡ after c.q (checks_of c) vs st)
          × ((left b t st).changes + call_changes c ps (left b t st).state ≡ change_count c.q (checks_of c) vs st)
      go true ih =
          let later : List Visit = visits (not_refused c ps (passed_state c t st)) in (
            (ih true).0 ∙ sym (after_append c.q (checks_of c) (pass (data_symbols c) t) later st),
            ap (λ (n : ℕ). passed_changes c t st + n) (ih true).1 ∙ sym (changes_append c.q (checks_of c) (pass (data_symbols c) t) later st),
          )
      go false ih = ((ih false).0, omega (arith, (ih false).1))

-- ---- which calls are refused

-- the thresholds of the calls whose buffers fit and whose threshold is at most 32
unfoldable pub taken_of : List PassCall → List ℕ
taken_of [] = []
taken_of (p ∷ ps) = choose (p.fits && ltb p.threshold 33) (p.threshold ∷ taken_of ps) (taken_of ps)

-- on buffers of symbols, of an accepted table, no other call is refused
pub calls_taken : (c : Code) → table_answer c ≡ 0 → (ps : List PassCall) (st : State) → Sized c.q (data_count c) (check_count c) st → not_refused c ps st ≡ taken_of ps
unfolding not_refused pass_outcome outcome taken_of
calls_taken c e [] st z = refl
calls_taken c e (p ∷ ps) st z =
    go p.fits (ltb p.threshold 33) refl refl (calls_taken c e ps (passed_state c p.threshold st) later) (calls_taken c e ps st z)
  where
    t : ℕ
    t = p.threshold

    later : Sized c.q (data_count c) (check_count c) (passed_state c t st)
    later = after_sized (code_incidence c (table_usable c e)) (pass (data_symbols c) t) st z

    -- where the test of the number is b
    rest : (b : Bool) → List ℕ
    rest b = choose b (t ∷ not_refused c ps (left c b t st).state) (not_refused c ps (left c b t st).state)

    go : (f l : Bool) → p.fits ≡ f → ltb t 33 ≡ l → not_refused c ps (passed_state c t st) ≡ taken_of ps → not_refused c ps st ≡ taken_of ps
        → rest (eqb (pass_answer c (p.fits && state_fits c st) t st) 0) ≡ choose (f && l) (t ∷ taken_of ps) (taken_of ps)
    go true true ef el made kept =
        rw (ef, eqb_yes (pass_answer c (state_fits c st) t st) 0 (pass_takes c t st e z (ltb→lt t 33 (subst T (sym el) tt))))
        (ap (λ (us : List ℕ). t ∷ us) made)
    go true false ef el made kept =
        rw (ef, eqb_no (pass_answer c (state_fits c st) t st) 0 (λ n. absurd (subst T (sym (is_true (ltb t 33) (lt→ltb t 33 (pass_taken c true t st n).1.small)) ∙ el) tt)))
        kept
    go false l ef el made kept = rw (ef, pass_six c false t st e refl) kept

pub taken_all : (ts : List ℕ) → All (λ t. t < 33) ts → taken_of (map fitting ts) ≡ ts
unfolding taken_of
taken_all [] a = refl
taken_all (t ∷ ts) a = rw (is_true (ltb t 33) (lt→ltb t 33 a.0), taken_all ts a.1) refl

pub all_small : (n : ℕ) (ts : List ℕ) → all_below n ts ≡ true → All (λ t. t < n) ts
unfolding all_below
all_small n [] e = tt
all_small n (t ∷ ts) e =
    let p = and_true (ltb t n) (all_below n ts) e in
    (ltb→lt t n (subst T (sym p.0) tt), all_small n ts p.1)
