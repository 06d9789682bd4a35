-- A decode under way: the state with its tally, and a visit on both.
use Rattle.std.specs.Prelude.{◌≡◌, ◌≢◌, Bool, List, ℕ, ◌+◌, ◌≤◌, ◌<◌, length, get_or, set}
use Rattle.std.proofs.Math.Path.{refl}
use Rattle.std.proofs.Common.{sym, ◌∙◌, arith}
use Rattle.std.proofs.Math.Bool.{true, false}
use Rattle.model.specs.Code.{Code, data_count, check_count, checks_of}
use Rattle.model.specs.Decoder.{State, Visit, estimates, change, changes, visit, state_by}
use Rattle.model.specs.Symbols.{sub, bit, subtract_at}
use Rattle.theory.specs.Codes.{Usable}
use Rattle.theory.specs.Falling.{visit_no, visit_yes}
use Rattle.theory.specs.Steps.{Sized, below_estimates}
use Rattle.checks.specs.Places.{AtTable}
use Rattle.checks.specs.Estimates.{estimates_at}
use Rattle.ones.specs.Pages.{InBits, bits_low}
use Rattle.visits.specs.Decisions.{to_subtract, subtract_zero, subtract_some, subtract_below}
use Rattle.tally.specs.declared.Tally.{Tally}

-- the state and the tally
pub record Progress : Type 0 where
  pub state : State
  pub tally : Tally

-- by the three buffers
abbrev pub progress : List ℕ → List ℕ → List ℕ → Tally → Progress
progress r s d t = record { state = state_by r s d; tally = t }

-- the tally with n changes more
abbrev pub counted : ℕ → Tally → Tally
counted n t = record { passes = t.passes; changes = t.changes + n; start = t.start; end = t.end }

-- "each visit hands it back with its change added"
unfoldable pub visit_of : Code → Visit → Progress → Progress
visit_of c v p = record { state = visit c.q (checks_of c) v p.state; tally = counted (bit (changes (checks_of c) v p.state)) p.tally }

pub both : {s t : State} {a b : Tally} → s ≡ t → a ≡ b → ◌≡◌ {A = Progress} (record { state = s; tally = a }) (record { state = t; tally = b })
both e f = λ i. record { state = e i; tally = f i }

pub with_changes : (t : Tally) {a b : ℕ} → a ≡ b → ◌≡◌ {A = Tally} (record { passes = t.passes; changes = a; start = t.start; end = t.end }) (record { passes = t.passes; changes = b; start = t.start; end = t.end })
with_changes t e = λ i. record { passes = t.passes; changes = e i; start = t.start; end = t.end }

-- ---- what a visit requires

-- a state that the decoder of a usable code works on, whose symbols have w values at most
pub record ReadyIn (w : ℕ) (c : Code) (st : State) : Type 0 where
  pub usable : Usable c
  pub bytes : c.q ≤ w
  pub sized : Sized c.q (data_count c) (check_count c) st

-- of bytes
abbrev pub Ready : Code → State → Type 0
Ready c st = ReadyIn 256 c st

pub at_table : {w : ℕ} (c : Code) (st : State) → ReadyIn w c st → AtTable c st.syndrome
at_table c st r = record { table = r.usable.table; len = r.sized.len_syndrome }

-- where q is 2 it is a state of bits
pub ready_bits : (c : Code) (st : State) → Ready c st → (bits : Bool) → (bits ≡ true → c.q ≤ 2) → (j : ℕ) → InBits bits (get_or st.difference j 0) st.syndrome
ready_bits c st r bits h j = bits_low bits c.q (get_or st.difference j 0) st.syndrome h (r.sized.in_difference j) r.sized.in_syndrome

-- what is subtracted is a symbol
pub ready_subtract : {w : ℕ} (c : Code) (st : State) → ReadyIn w c st → (t j : ℕ) → to_subtract t (estimates_at c j (get_or st.difference j 0) st.syndrome) < c.q
unfolding estimates
ready_subtract c st r t j =
    let pos : 0 < c.q = omega (arith, r.usable.q_low) in
    subtract_below c.q pos t (estimates (checks_of c j) j st) (below_estimates c.q pos (checks_of c j) j st r.sized.in_difference r.sized.in_syndrome)

-- what a subtraction of h from data symbol j asks
pub ready_symbol : {w : ℕ} (c : Code) (st : State) → ReadyIn w c st → (j h : ℕ) → j < data_count c → h < c.q
    → (c.q ≤ w) × (h < c.q) × (j < length st.result) × (j < length st.difference) × (get_or st.result j 0 < c.q) × (get_or st.difference j 0 < c.q)
ready_symbol c st r j h a b =
    let z = r.sized in
    (r.bytes, b, omega (arith, z.len_result), omega (arith, z.len_difference), z.in_result j, z.in_difference j)

-- ---- a change and a visit, by what they leave in the buffers

pub changed_state : (q : ℕ) (is : List ℕ) (j h : ℕ) (r s d : List ℕ) {x y z : List ℕ} → x ≡ set r j (sub q (get_or r j 0) h) → y ≡ subtract_at q h is s → z ≡ set d j (sub q (get_or d j 0) h)
    → state_by x y z ≡ change q is j h (state_by r s d)
unfolding change
changed_state q is j h r s d e f g = λ i. record { result = e i; syndrome = f i; difference = g i }

module _ (c : Code) (v : Visit) (r s d : List ℕ) (t : Tally) where
  -- no change, where nothing is to subtract
  pub visit_left : 0 ≡ to_subtract v.threshold (estimates_at c v.symbol (get_or d v.symbol 0) s) → progress r s d t ≡ visit_of c v (progress r s d t)
  unfolding visit_of changes estimates
  visit_left e =
      let st : State = state_by r s d in
      let n : changes (checks_of c) v st ≡ false = subtract_zero v.threshold (estimates (checks_of c v.symbol) v.symbol st) (sym e) in
      rw (n, visit_no c.q (checks_of c) v st n) (both refl (with_changes t (omega arith)))

  -- a change by h
  pub visit_made : (h : ℕ) → h ≡ to_subtract v.threshold (estimates_at c v.symbol (get_or d v.symbol 0) s) → h ≢ 0
      → record { state = change c.q (checks_of c v.symbol) v.symbol h (state_by r s d); tally = counted 1 t } ≡ visit_of c v (progress r s d t)
  unfolding visit_of changes estimates
  visit_made h e n =
      let st : State = state_by r s d in
      let f = subtract_some v.threshold (estimates (checks_of c v.symbol) v.symbol st) (λ z. n (e ∙ z)) in
      let y : changes (checks_of c) v st ≡ true = f.0 in
      rw (y, visit_yes c.q (checks_of c) v st y, ← (e ∙ f.1)) refl
