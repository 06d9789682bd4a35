-- Lists of visits: what one after another leaves, passes over a list of data symbols, and which symbols they visit.
use Rattle.std.specs.Prelude.{◌≡◌, refl, List, [], ◌∷◌, ◌++◌, ℕ, zero, suc, ◌+◌, ◌≤◌, ◌<◌}
use Rattle.std.proofs.Common.{sym, inl, inr, not-suc-le-zero, le_of_suc-le-suc, arith}
use Rattle.std.proofs.Math.Decide.{ℕ_discrete}
use Rattle.model.specs.Code.{Code, data_count}
use Rattle.model.specs.Decoder.{State, Visit, visit, after, change_count, pass, passes, data_symbols}
use Rattle.model.specs.Symbols.{count, tabulate}
use Rattle.theory.specs.Counting.{same_yes, same_no, count_nil, count_cons, All}
use Rattle.theory.specs.Falling.{InRange}
use Rattle.theory.specs.Recovery.{Covered}

pub after_append : (q : ℕ) (checks : ℕ → List ℕ) (vs ws : List Visit) (st : State) → after q checks (vs ++ ws) st ≡ after q checks ws (after q checks vs st)
unfolding after
after_append q checks [] ws st = refl
after_append q checks (v ∷ vs) ws st = after_append q checks vs ws (visit q checks v st)

pub changes_append : (q : ℕ) (checks : ℕ → List ℕ) (vs ws : List Visit) (st : State)
    → change_count q checks (vs ++ ws) st ≡ change_count q checks vs st + change_count q checks ws (after q checks vs st)
unfolding after change_count
changes_append q checks [] ws st = omega arith
changes_append q checks (v ∷ vs) ws st = omega (arith, changes_append q checks vs ws (visit q checks v st))

range_append : (m : ℕ) (vs ws : List Visit) → InRange m vs → InRange m ws → InRange m (vs ++ ws)
range_append m [] ws a b = b
range_append m (v ∷ vs) ws a b = (a.0, range_append m vs ws a.1 b)

pub range_pass : (m : ℕ) (js : List ℕ) (t : ℕ) → All (λ j. j < m) js → InRange m (pass js t)
unfolding pass
range_pass m [] t a = tt
range_pass m (j ∷ js) t a = (a.0, range_pass m js t a.1)

-- passes over symbols below m, with any thresholds
pub range_passes : (m : ℕ) (js : List ℕ) → All (λ j. j < m) js → (ts : List ℕ) → InRange m (passes js ts)
unfolding passes
range_passes m js a [] = tt
range_passes m js a (t ∷ ts) = range_append m (pass js t) (passes js ts) (range_pass m js t a) (range_passes m js a ts)

-- a pass covers the symbols of its list
covered_pass : (J t : ℕ) (js : List ℕ) (h : ℕ) → t + t + h ≤ J → (more : List Visit) (j : ℕ) → 0 < count j js → Covered J t (pass js h ++ more) j
unfolding pass
covered_pass J t [] h b more j l = absurd (omega (arith, count_nil j))
covered_pass J t (i ∷ js) h b more j l = elim (ℕ_discrete j i) as (λ o. Covered J t (pass (i ∷ js) h ++ more) j)
    [ yes e ↦ inl (sym e, b) | no n ↦ inr (covered_pass J t js h b more j (omega (arith, count_cons j i js, same_no j i n))) ]

all_tabulate : (P : ℕ → Type 0) (n : ℕ) (f : ℕ → ℕ) → ((i : ℕ) → i < n → P (f i)) → All P (tabulate n f)
unfolding tabulate
all_tabulate P zero f h = tt
all_tabulate P (suc n) f h = (h 0 (omega arith), all_tabulate P n (λ i. f (suc i)) (λ i l. h (suc i) (omega arith)))

count_tabulate : (n : ℕ) (f : ℕ → ℕ) (i : ℕ) → i < n → 0 < count (f i) (tabulate n f)
unfolding tabulate
count_tabulate zero f i h = absurd (not-suc-le-zero h)
count_tabulate (suc n) f zero h = omega (arith, count_cons (f 0) (f 0) (tabulate n (λ i. f (suc i))), same_yes (f 0) (f 0) refl)
count_tabulate (suc n) f (suc i) h = omega (arith, count_cons (f (suc i)) (f 0) (tabulate n (λ l. f (suc l))), count_tabulate n (λ l. f (suc l)) i (le_of_suc-le-suc h))

pub symbols_range : (c : Code) → All (λ j. j < data_count c) (data_symbols c)
symbols_range c = all_tabulate (λ j. j < data_count c) (data_count c) (λ j. j) (λ i h. h)

pub symbols_visited : (c : Code) (j : ℕ) → j < data_count c → 0 < count j (data_symbols c)
symbols_visited c j h = count_tabulate (data_count c) (λ i. i) j h

-- passes with a threshold within the bound among theirs cover every symbol of their list
covered_later : (J t : ℕ) (vs ws : List Visit) (j : ℕ) → Covered J t ws j → Covered J t (vs ++ ws) j
covered_later J t [] ws j c = c
covered_later J t (v ∷ vs) ws j c = inr (covered_later J t vs ws j c)

pub covered_passes : (J t : ℕ) (js ts : List ℕ) (h : ℕ) → t + t + h ≤ J → 0 < count h ts → (j : ℕ) → 0 < count j js → Covered J t (passes js ts) j
unfolding passes
covered_passes J t js [] h b n j l = absurd (omega (arith, count_nil h))
covered_passes J t js (s ∷ ts) h b n j l = elim (ℕ_discrete h s) as (λ o. Covered J t (pass js s ++ passes js ts) j) [
  | yes e ↦ covered_pass J t js s (rw (← e) b) (passes js ts) j l
  | no d ↦ covered_later J t (pass js s) (passes js ts) j (covered_passes J t js ts h b (omega (arith, count_cons h s ts, same_no h s d)) j l)
]
