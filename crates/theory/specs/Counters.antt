-- The vote by counters: when all estimates are counted, each counter holds how often its value occurs, and the vote read from them is the vote.
use Rattle.std.specs.Prelude.{◌≡◌, refl, true, List, [], ◌∷◌, eqb, length, take, drop, replicate}
use Rattle.std.proofs.Math.Path.{sym, ap}
use Rattle.std.proofs.Common.{◌∙◌, arith, length-take, ext_get_or, get_or-take, get_or-drop}
use Prim.Native.Nat.{ℕ, suc, ◌+◌, ◌≤◌, ◌<◌}
use Rattle.std.proofs.Math.Decide.{dec_lt}
use Rattle.std.proofs.Math.ListN.{get_or, get_or-eq_default}
use Rattle.std.proofs.lemmas.List.{length-replicate, get_or-replicate}
use Rattle.model.specs.Calls.{all_below, counters_fit}
use Rattle.model.specs.Symbols.{count, tabulate, Below}
use Rattle.model.specs.Vote.{leader, lead_count, next_count, votes, votes_by, votes_read, zero_counters, counted}
use Rattle.theory.specs.Answers.{and_true, eqb-true, all-below}
use Rattle.theory.specs.Counting.{same_no}
use Rattle.theory.specs.Distance.{length_tabulate, get_d_tabulate}

-- a value beyond all symbols does not occur
count_beyond : (n : ℕ) (es : List ℕ) → Below n es → (v : ℕ) → n ≤ v → count v es ≡ 0
unfolding count
count_beyond n [] low v h = refl
count_beyond n (e ∷ es) low v h = omega (arith, count_beyond n es (λ i. low (suc i)) v h, same_no v e (λ p. omega (arith, p, low 0)))

module _ (n : ℕ) (es : List ℕ) where
  pub length_counted : length (counted n es) ≡ n
  unfolding counted
  length_counted = length_tabulate n (λ v. count v es)

  -- each counter holds how often its value occurs
  pub counted-at : Below n es → (v : ℕ) → get_or (counted n es) v 0 ≡ count v es
  unfolding counted
  counted-at low v = elim (dec_lt v n) as (λ o. get_or (counted n es) v 0 ≡ count v es) [
    | yes h ↦ get_d_tabulate n (λ w. count w es) v h
    | no h ↦ get_or-eq_default (counted n es) 0 {n = v} (omega (arith, length_tabulate n (λ (w : ℕ). count w es))) ∙ sym (count_beyond n es low v (omega arith))
  ]

  -- and the vote read from them is the vote
  pub votes_counted : Below n es → votes_read (counted n es) es ≡ votes es
  unfolding votes_read votes_by leader lead_count next_count
  votes_counted low = ap (λ (m : ℕ → ℕ). votes_by m es) (λ i. λ v. counted-at low v i)

-- ---- counters that a call lends, or none: where they are 256 the vote is by them, else pair by pair

-- counters, however many, that are all zero
abbrev pub Clear : List ℕ → Type 0
Clear counters = counters ≡ zero_counters (length counters)

-- by each of them
clear_at : (xs : List ℕ) → Clear xs → (i : ℕ) → get_or xs i 0 ≡ 0
clear_at xs e i = elim (dec_lt i (length xs)) as (λ o. get_or xs i 0 ≡ 0) [
  | yes h ↦ ap (λ (l : List ℕ). get_or l i 0) e ∙ get_d_tabulate (length xs) (λ v. 0) i h
  | no h ↦ get_or-eq_default xs 0 {n = i} (omega arith)
]

clear_by : (xs : List ℕ) → ((i : ℕ) → i < length xs → get_or xs i 0 ≡ 0) → Clear xs
clear_by xs f =
    ext_get_or 0 xs (zero_counters (length xs)) (sym (length_tabulate (length xs) (λ v. 0))) (λ i h. f i h ∙ sym (get_d_tabulate (length xs) (λ v. 0) i h))

-- an array that was made of zeros, one that was cleared, and a part of what is all zero
pub clear_made : (n : ℕ) → Clear (replicate n 0)
clear_made n = clear_by (replicate n 0) (λ i h. get_or-replicate n i 0 0 (omega (arith, length-replicate {A = ℕ} n 0)))

pub clear_written : (n : ℕ) (xs : List ℕ) → xs ≡ zero_counters n → Clear xs
clear_written n xs e = e ∙ ap zero_counters (sym (ap length e ∙ length_tabulate n (λ v. 0)))

pub clear_part : (a n : ℕ) (xs : List ℕ) → Clear xs → Clear (take n (drop a xs))
clear_part a n xs e = clear_by (take n (drop a xs)) (λ i h. get_or-take n (drop a xs) i 0 (omega (arith, length-take n (drop a xs))) ∙ get_or-drop a xs i 0 ∙ clear_at xs e (a + i))

pub clear_front : (n : ℕ) (xs : List ℕ) → Clear xs → Clear (take n xs)
clear_front n xs e = clear_by (take n xs) (λ i h. get_or-take n xs i 0 (omega (arith, length-take n xs)) ∙ clear_at xs e i)

pub none_clear : Clear []
unfolding tabulate
none_clear = refl

-- counters that fit are 256 zeros
pub fit_zero : (counters : List ℕ) → counters_fit counters ≡ true → counters ≡ zero_counters 256
unfolding counters_fit
fit_zero counters e =
    let s = and_true (eqb (length counters) 256) (all_below 1 counters) e in
    let sized : length counters ≡ 256 = eqb-true (length counters) 256 s.0 in
    ext_get_or 0 counters (zero_counters 256) (sized ∙ sym (length_tabulate 256 (λ v. 0)))
    (λ v h.
    let low : get_or counters v 0 < 1 = all-below 1 (omega arith) counters s.1 v in
    let z : get_or counters v 0 ≡ 0 = omega arith in
    z ∙ sym (get_d_tabulate 256 (λ w. 0) v (omega arith)))

pub fit_clear : (counters : List ℕ) → counters_fit counters ≡ true → Clear counters
fit_clear counters e = clear_written 256 counters (fit_zero counters e)
