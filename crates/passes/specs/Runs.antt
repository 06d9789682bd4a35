-- The run of passes on a decode under way, and one pass of it as the loops go.
use Rattle.std.specs.Prelude.{◌≡◌, ◌≢◌, Bool, true, false, eqb, length}
use Rattle.std.proofs.Math.Path.{refl, ap}
use Rattle.std.proofs.Common.{sym, ◌∙◌, arith}
use mathlib.Core.List.{List, [], ◌∷◌, ◌++◌}
use Prim.Native.Nat.{ℕ, zero, suc, ◌+◌, ◌≤◌, ◌<◌}
use Rattle.std.proofs.Math.Decide.{ℕ_discrete}
use Rattle.std.proofs.Math.Numerals.{add-one}
use Rattle.std.proofs.Math.ListN.{get_or, drop}
use Rattle.model.specs.Code.{Code, data_count, checks_of}
use Rattle.model.specs.Decoder.{State, Visit, changes, after, change_count, pass, passes, is_idle, none, thresholds_run, first_smaller, data_symbols}
use Rattle.model.specs.Symbols.{choose, bit, tabulate}
use Rattle.theory.specs.Codes.{code_incidence}
use Rattle.theory.specs.Counting.{eqb_yes, eqb_no}
use Rattle.theory.specs.Falling.{visit_sized}
use Rattle.theory.specs.Runs.{after_append, changes_append}
use Rattle.theory.specs.Schedule.{followed}
use Rattle.theory.specs.Turns.{pass_turn, pass_count_turn}
use Rattle.visits.specs.Progress.{Progress, counted, both, with_changes, visit_of, ReadyIn}
use Rattle.schedule.specs.Thresholds.{drop_more}
use Rattle.tally.specs.declared.Tally.{Tally}

-- the tally with a number of passes
abbrev pub with_passes : ℕ → Tally → Tally
with_passes n t = record { passes = n; changes = t.changes; start = t.start; end = t.end }

-- passes with a list of thresholds, one after the other, where n passes were run before
unfoldable pub ran : Code → ℕ → List ℕ → Progress → Progress
ran c n ts p = record {
  state = after c.q (checks_of c) (passes (data_symbols c) ts) p.state;
  tally = with_passes (n + length ts) (counted (change_count c.q (checks_of c) (passes (data_symbols c) ts) p.state) p.tally);
}

-- the passes that decoding runs of a list of thresholds, where n passes were run before
unfoldable pub passes_from : Code → ℕ → List ℕ → Progress → Progress
passes_from c n ths p = ran c n (thresholds_run c.q (checks_of c) (data_symbols c) none ths p.state) p

-- all of them
unfoldable pub run_of : Code → List ℕ → Progress → Progress
run_of c ths p = passes_from c 0 ths p

-- ---- a pass, visit by visit

-- the first n visits of a pass
unfoldable pub visits : Code → ℕ → ℕ → Progress → Progress
visits c t zero p = p
visits c t (suc n) p = visit_of c (record { symbol = n; threshold = t }) (visits c t n p)

pub visits_suc : (c : Code) (t n m : ℕ) (p : Progress) → m ≡ n + 1 → visits c t m p ≡ visit_of c (record { symbol = n; threshold = t }) (visits c t n p)
unfolding visits
visits_suc c t n m p e = ap (λ (i : ℕ). visits c t i p) (e ∙ add-one n)

-- n visits of a pass from symbol j on
unfoldable pub visits_from : Code → ℕ → ℕ → ℕ → Progress → Progress
visits_from c t j zero p = p
visits_from c t j (suc n) p = visit_of c (record { symbol = j + n; threshold = t }) (visits_from c t j n p)

pub from_none : (c : Code) (t j n : ℕ) (p : Progress) → n ≡ 0 → p ≡ visits_from c t j n p
unfolding visits_from
from_none c t j n p e = rw e refl

pub from_suc : (c : Code) (t j n m : ℕ) (p : Progress) → m ≡ n + 1 → (i : ℕ) → i ≡ j + n
    → visits_from c t j m p ≡ visit_of c (record { symbol = i; threshold = t }) (visits_from c t j n p)
unfolding visits_from
from_suc c t j n m p e i h = rw (h, e, add-one n) refl

-- visits that change nothing can be passed over
pub from_skip : (c : Code) (t j n m : ℕ) (p x : Progress) → x ≡ visits_from c t j n p → n ≤ m → ((i : ℕ) → n ≤ i → i < m → x ≡ visit_of c (record { symbol = j + i; threshold = t }) x)
    → x ≡ visits_from c t j m p
unfolding visits_from
from_skip c t j n zero p x e h f = e ∙ ap (λ (i : ℕ). visits_from c t j i p) (let z : n ≡ 0 = omega arith in z)
from_skip c t j n (suc m) p x e h f = elim (ℕ_discrete n (suc m)) as (λ o. x ≡ visits_from c t j (suc m) p) [
  | yes z ↦ e ∙ ap (λ (i : ℕ). visits_from c t j i p) z
  | no z ↦ f m (omega arith) (omega arith) ∙ ap (visit_of c _) (from_skip c t j n m p x e (omega arith) (λ i l g. f i l (omega arith)))
]

-- they follow the visits before j
pub visits-from : (c : Code) (t j n m : ℕ) (p : Progress) → m ≡ j + n → visits_from c t j n (visits c t j p) ≡ visits c t m p
unfolding visits_from
visits-from c t j zero m p e = ap (λ (i : ℕ). visits c t i p) (let z : j ≡ m = omega arith in z)
visits-from c t j (suc n) m p e = ap (visit_of c _) (visits-from c t j n (j + n) p refl) ∙ sym (visits_suc c t (j + n) m p (omega arith))

visits_pass : (c : Code) (t n : ℕ) (p : Progress)
    → visits c t n p ≡ record {
      state = after c.q (checks_of c) (pass (tabulate n (λ j. j)) t) p.state;
      tally = counted (change_count c.q (checks_of c) (pass (tabulate n (λ j. j)) t) p.state) p.tally;
    }
unfolding visits visit_of after change_count pass tabulate
visits_pass c t zero p = both refl (with_changes p.tally (omega arith))
visits_pass c t (suc n) p =
    let v : Visit = record { symbol = n; threshold = t } in
    let js : ℕ → List ℕ = (λ m. tabulate m (λ j. j)) in
    rw (visits_pass c t n p)
    (both
    (sym (ap (λ (m : ℕ). after c.q (checks_of c) (pass (js m) t) p.state) (sym (add-one n)) ∙ pass_turn c.q (checks_of c) t n p.state))
    (with_changes p.tally
    (let e : change_count c.q (checks_of c) (pass (js (suc n)) t) p.state
    ≡ change_count c.q (checks_of c) (pass (js n) t) p.state + bit (changes (checks_of c) v (after c.q (checks_of c) (pass (js n) t) p.state)) =
    ap (λ (m : ℕ). change_count c.q (checks_of c) (pass (js m) t) p.state) (sym (add-one n)) ∙ pass_count_turn c.q (checks_of c) t n p.state in
    omega arith)))

pub passes_nil : (c : Code) (n : ℕ) (p : Progress) → passes_from c n [] p ≡ record { state = p.state; tally = with_passes n p.tally }
unfolding passes_from thresholds_run ran passes after change_count
passes_nil c n p = λ i. record {
  state = p.state;
  tally = record {
    passes = (let e : n + 0 ≡ n = omega arith in e) i;
    changes = (let e : p.tally.changes + 0 ≡ p.tally.changes = omega arith in
        e) i;
    start = p.tally.start;
    end = p.tally.end;
  };
}

ran_cons : (c : Code) (n t : ℕ) (ts : List ℕ) (p : Progress) → ran c n (t ∷ ts) p ≡ ran c (suc n) ts (visits c t (data_count c) p)
unfolding ran passes
ran_cons c n t ts p =
    let first : List Visit = pass (data_symbols c) t in
    let later : List Visit = passes (data_symbols c) ts in
    let st : State = after c.q (checks_of c) first p.state in
    rw (visits_pass c t (data_count c) p)
    (both (after_append c.q (checks_of c) first later p.state)
    (λ i. record {
      passes = (let e : n + suc (length ts) ≡ suc n + length ts = omega arith in e) i;
      changes = (let e : p.tally.changes + change_count c.q (checks_of c) (first ++ later) p.state
          ≡ p.tally.changes + change_count c.q (checks_of c) first p.state + change_count c.q (checks_of c) later st =
          omega (arith, changes_append c.q (checks_of c) first later p.state) in e) i;
      start = p.tally.start;
      end = p.tally.end;
    }))

-- ---- the passes that are left, by the visits of the next one

passes_cons : (c : Code) (n t : ℕ) (ths : List ℕ) (p : Progress)
    → passes_from c n (t ∷ ths) p
    ≡ passes_from c (suc n) (choose (is_idle c.q (checks_of c) (data_symbols c) t p.state) (first_smaller t ths) ths) (visits c t (data_count c) p)
unfolding passes_from
passes_cons c n t ths p =
    let q : ℕ = c.q in
    let js : List ℕ = data_symbols c in
    let left : List ℕ = choose (is_idle q (checks_of c) js t p.state) (first_smaller t ths) ths in
    ap (λ (ts : List ℕ). ran c n ts p) (followed q (checks_of c) js t ths p.state)
    ∙ ran_cons c n t (thresholds_run q (checks_of c) js none left (after q (checks_of c) (pass js t) p.state)) p
    ∙ ap (λ (st : State). ran c (suc n) (thresholds_run q (checks_of c) js none left st) (visits c t (data_count c) p))
    (sym (ap (λ (x : Progress). x.state) (visits_pass c t (data_count c) p)))

module _ (c : Code) (n i j : ℕ) (ths : List ℕ) (p x : Progress) (h : i < length ths) (whole : j ≡ data_count c) (e : x ≡ visits c (get_or ths i 0) j p) where
  made : x ≡ visits c (get_or ths i 0) (data_count c) p
  made = e ∙ rw whole refl

  -- its changes
  changed : ℕ
  changed = change_count c.q (checks_of c) (pass (data_symbols c) (get_or ths i 0)) p.state

  counts : x.tally.changes ≡ p.tally.changes + changed
  unfolding changed
  counts = ap (λ (y : Progress). y.tally.changes) (made ∙ visits_pass c (get_or ths i 0) (data_count c) p)

  -- the passes that are left, where the test of its changes is b
  left : (b : Bool) → eqb changed 0 ≡ b
      → passes_from c n (drop i ths) p ≡ passes_from c (n + 1) (choose b (first_smaller (get_or ths i 0) (drop (i + 1) ths)) (drop (i + 1) ths)) x
  unfolding changed
  left b f =
      let t : ℕ = get_or ths i 0 in
      let ts : List ℕ = drop (i + 1) ths in
      ap (λ (us : List ℕ). passes_from c n us p) (drop_more ths i h)
      ∙ passes_cons c n t ts p
      ∙ ap (λ (b : Bool). passes_from c (suc n) (choose b (first_smaller t ts) ts) (visits c t (data_count c) p)) f
      ∙ rw (← made, add-one n) refl

  pub pass_idle : x.tally.changes ≡ p.tally.changes → passes_from c n (drop i ths) p ≡ passes_from c (n + 1) (first_smaller (get_or ths i 0) (drop (i + 1) ths)) x
  pass_idle same = left true (eqb_yes changed 0 (omega (arith, counts)))

  pub pass_changed : x.tally.changes ≢ p.tally.changes → passes_from c n (drop i ths) p ≡ passes_from c (n + 1) (drop (i + 1) ths) x
  pass_changed other = left false (eqb_no changed 0 (λ z. other (omega (arith, counts))))

-- ---- what visits keep

-- ready still, and at most n changes more
pub record KeptIn (w : ℕ) (c : Code) (n : ℕ) (p x : Progress) : Type 0 where
  pub ready : ReadyIn w c x.state
  pub few : x.tally.changes ≤ p.tally.changes + n

abbrev pub Kept : Code → ℕ → Progress → Progress → Type 0
Kept c n p x = KeptIn 256 c n p x

bit_le : (b : Bool) → bit b ≤ 1
bit_le true = omega arith
bit_le false = omega arith

visits_kept : {w : ℕ} (c : Code) (t n : ℕ) (p : Progress) → ReadyIn w c p.state → KeptIn w c n p (visits c t n p)
unfolding visits visit_of
visits_kept c t zero p r = record { ready = r; few = omega arith }
visits_kept c t (suc n) p r =
    let k = visits_kept c t n p r in
    let v : Visit = record { symbol = n; threshold = t } in
    record {
      ready = record {
        usable = r.usable;
        bytes = r.bytes;
        sized = visit_sized (code_incidence c r.usable) v (visits c t n p).state k.ready.sized;
      };
      few = omega (arith, k.few, bit_le (changes (checks_of c) v (visits c t n p).state));
    }

pub kept_by : {w : ℕ} (c : Code) (t n : ℕ) (p x : Progress) → ReadyIn w c p.state → x ≡ visits c t n p → KeptIn w c n p x
kept_by c t n p x r e = rw e (visits_kept c t n p r)
