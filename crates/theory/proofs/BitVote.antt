-- The vote on bits: at q = 2 the number of ones in the gathered word tells all that the general vote does.
use Rattle.std.specs.Prelude.{◌≡◌, ◌≢◌, Bool, ◌&&◌, List, [], ◌∷◌, T, eqb, ◌-ℤ◌, length}
use Rattle.std.proofs.Math.Path.{refl, ap, sym}
use Rattle.std.proofs.Common.{◌∙◌, subst, pow-suc, arith, lt→ltb}
use Rattle.std.proofs.Math.Bool.{true, false, not}
use Prim.Native.Nat.{ℕ, suc, ◌+◌, ◌-◌, ◌^◌, ◌≤◌, ◌<◌, max, min}
use Rattle.std.proofs.Math.Decide.{ℕ_discrete, dec_lt}
use Rattle.std.specs.Int.Count.{ones}
use Rattle.std.proofs.Math.Dec.{ltb, ltb→lt}
use Rattle.std.proofs.Math.IntN.{pos}
use borrow.Author.Tests.{lt-ltb, le-ltb}
use Rattle.model.specs.Decoder.{State, Visit, estimates, is_change, change, changes, visit}
use Rattle.model.specs.Symbols.{choose, bit, count, Below}
use Rattle.model.specs.Vote.{votes, leader, lead_count, next_count, margin, equal_bits, gathered, zeros_in, ones_decide, bit_votes}
use Rattle.theory.specs.BitVote.{two_values}
use Rattle.theory.specs.Counting.{is_true, is_false, same_no, same_sym}
use Rattle.theory.specs.Explaining.{bits_cons, bits_nil, bits_ones}
use Rattle.theory.specs.Falling.{is_change_facts}
use Rattle.theory.specs.Margins.{other_zero}
use Rattle.theory.specs.Voting.{leader_ahead, leader_below, lead_max, next_max, next_least}

-- ---- counts of bits

pub bits_all : (es : List ℕ) → Below 2 es → count 0 es + count 1 es ≡ length es
unfolding count
bits_all [] low = refl
bits_all (e ∷ es) low = omega (arith, two_values e (low 0), bits_all es (λ i. low (suc i)))

no_others : (es : List ℕ) → Below 2 es → (v : ℕ) → 2 ≤ v → count v es ≡ 0
unfolding count
no_others [] low v h = refl
no_others (e ∷ es) low v h = omega (arith, same_no v e (λ x. absurd (omega (arith, low 0))), no_others es (λ i. low (suc i)) v h)

-- the bits that are 0 are the rest of the word
pub zero_bits : (es : List ℕ) → Below 2 es → equal_bits es 0 + gathered es + 1 ≡ 2 ^ length es
zero_bits [] low = omega (arith, bits_nil 0, bits_nil 1)
zero_bits (e ∷ es) low =
    rw (bits_cons e es 0, bits_cons e es 1, pow-suc 2 (length es))
    (omega (arith, zero_bits es (λ i. low (suc i)), two_values e (low 0), same_sym e 0, same_sym e 1))

-- ---- the vote

module _ (es : List ℕ) (low : Below 2 es) where
  pub word_ones : ones (gathered es) ≡ count 1 es
  word_ones = bits_ones es 1

  pub word_zeros : zeros_in (length es) (gathered es) ≡ count 0 es
  word_zeros = omega (arith, word_ones, bits_all es low)

  -- no value but 0 and 1 has a count
  other_than : (h b : ℕ) → ((v : ℕ) → v < 2 → v ≢ h → count v es ≤ b) → (v : ℕ) → v ≢ h → count v es ≤ b
  other_than h b f v n = elim (dec_lt v 2) as (λ o. count v es ≤ b)
      [ yes l ↦ f v l n | no m ↦ omega (arith, no_others es low v (omega arith)) ]

  module _ (some : 0 < length es) where
    -- 1 leads where the ones are more, else 0
    leader_one : count 0 es < count 1 es → leader es ≡ 1
    unfolding lead_count
    leader_one h = elim (ℕ_discrete (leader es) 0) as (λ o. leader es ≡ 1) [
      | yes e ↦ absurd (omega (arith, lead_max es 1, ap (λ (v : ℕ). count v es) e))
      | no n ↦ omega (arith, leader_below 2 es low)
    ]

    leader_zero : count 1 es ≤ count 0 es → leader es ≡ 0
    leader_zero h = elim (ℕ_discrete (leader es) 0) as (λ o. leader es ≡ 0) [
      | yes e ↦ e
      | no n ↦
          let one : leader es ≡ 1 = omega (arith, leader_below 2 es low) in
          let a = leader_ahead es 0 (omega (arith, bits_all es low)) in
          let c : count (leader es) es ≡ count 1 es = ap (λ (v : ℕ). count v es) one in
          absurd (omega (arith, a.0, a.1 (omega (arith, a.0))))
    ]

    -- m0 and m1
    counts_one : count 0 es < count 1 es → (lead_count es ≡ count 1 es) × (next_count es ≡ count 0 es)
    unfolding lead_count
    counts_one h =
        let e = leader_one h in
        let least : next_count es ≤ count 0 es =
        next_least es (count 0 es) (λ v n. other_than 1 (count 0 es) (λ u l m. omega (arith, ap (λ (x : ℕ). count x es) (let z : u ≡ 0 = omega (arith, m) in z))) v (λ x. n (x ∙ sym e))) in
        (ap (λ (v : ℕ). count v es) e, omega (arith, least, next_max es 0 (λ x. omega (arith, e))))

    counts_zero : count 1 es ≤ count 0 es → (lead_count es ≡ count 0 es) × (next_count es ≡ count 1 es)
    unfolding lead_count
    counts_zero h =
        let e = leader_zero h in
        let least : next_count es ≤ count 1 es =
        next_least es (count 1 es) (λ v n. other_than 0 (count 1 es) (λ u l m. omega (arith, ap (λ (x : ℕ). count x es) (let z : u ≡ 1 = omega (arith, m) in z))) v (λ x. n (x ∙ sym e))) in
        (ap (λ (v : ℕ). count v es) e, omega (arith, least, next_max es 1 (λ x. omega (arith, e))))

    -- all that the vote tells, by the ones of the word
    pub vote_bits : votes es ≡ bit_votes (length es) (gathered es)
    unfolding bit_votes
    vote_bits = rw (word_zeros, word_ones) (elim (dec_lt (count 0 es) (count 1 es)) as (λ o. votes es ≡ record {
      leader = bit (ltb (count 0 es) (count 1 es));
      lead = max (count 0 es) (count 1 es);
      next = min (count 0 es) (count 1 es);
      zeros = count 0 es;
    }) [
      | yes h ↦
          let c = counts_one h in
          rw (is_true (ltb (count 0 es) (count 1 es)) (lt→ltb (count 0 es) (count 1 es) h))
          (λ i. record {
            leader = leader_one h i;
            lead = (let e : lead_count es ≡ max (count 0 es) (count 1 es) = omega (arith, c.0) in e) i;
            next = (let e : next_count es ≡ min (count 0 es) (count 1 es) = omega (arith, c.1) in e) i;
            zeros = count 0 es;
          })
      | no n ↦
          let c = counts_zero (omega arith) in
          rw (is_false (ltb (count 0 es) (count 1 es)) (λ w. n (ltb→lt (count 0 es) (count 1 es) w)))
          (λ i. record {
            leader = leader_zero (omega arith) i;
            lead = (let e : lead_count es ≡ max (count 0 es) (count 1 es) = omega (arith, c.0) in e) i;
            next = (let e : next_count es ≡ min (count 0 es) (count 1 es) = omega (arith, c.1) in e) i;
            zeros = count 0 es;
          })
    ])

    -- "a change when ones minus zeros is above T"
    pub change_bits : (t : ℕ) → is_change t es ≡ ones_decide t (length es) (gathered es)
    unfolding is_change ones_decide
    change_bits t = rw (word_zeros, word_ones) (elim (dec_lt (count 0 es) (count 1 es))
        as (λ o. (ltb t (lead_count es - next_count es) && not (eqb (leader es) 0)) ≡ ltb t (count 1 es - count 0 es)) [
          | yes h ↦ rw ((counts_one h).0, (counts_one h).1, leader_one h) (and_right (ltb t (count 1 es - count 0 es)))
          | no n ↦ rw (leader_zero (omega arith), is_false (ltb t (count 1 es - count 0 es)) (λ w. absurd (omega (arith, ltb→lt t (count 1 es - count 0 es) w))))
              (and_false (ltb t (lead_count es - next_count es)))
        ])
      where
        and_right : (b : Bool) → (b && true) ≡ b
        and_right true = refl
        and_right false = refl

        and_false : (b : Bool) → (b && false) ≡ false
        and_false true = refl
        and_false false = refl

    -- the zeros alone tell it: counted twice, and with t, they are fewer than the bits
    pub change_zeros : (t : ℕ) → is_change t es ≡ ltb (count 0 es + count 0 es + t) (length es)
    unfolding ones_decide
    change_zeros t = change_bits t ∙ rw (word_zeros, word_ones) (elim (dec_lt (count 0 es + count 0 es + t) (length es))
        as (λ o. ltb t (count 1 es - count 0 es) ≡ ltb (count 0 es + count 0 es + t) (length es)) [
          | yes h ↦
              rw (lt-ltb t (count 1 es - count 0 es) (omega (arith, bits_all es low)), lt-ltb (count 0 es + count 0 es + t) (length es) h) refl
          | no n ↦
              rw (le-ltb t (count 1 es - count 0 es) (omega (arith, bits_all es low)), le-ltb (count 0 es + count 0 es + t) (length es) (omega arith)) refl
        ])

    -- and what is then subtracted is 1
    pub change_one : (t : ℕ) → is_change t es ≡ true → leader es ≡ 1
    change_one t e = elim (dec_lt (count 0 es) (count 1 es)) as (λ o. leader es ≡ 1) [
      | yes h ↦ leader_one h
      | no n ↦ absurd ((is_change_facts t es (subst T (sym e) tt)).1 (sym (leader_zero (omega arith))))
    ]

    -- the margin is zeros minus ones
    pub margin_bits : margin es ≡ pos (zeros_in (length es) (gathered es)) -ℤ pos (ones (gathered es))
    unfolding margin
    margin_bits = rw (word_zeros, word_ones) (ap (λ (n : ℕ). pos (count 0 es) -ℤ pos n) (other_zero es ∙ go))
      where
        go : choose (eqb (leader es) 0) (next_count es) (lead_count es) ≡ count 1 es
        go = elim (dec_lt (count 0 es) (count 1 es)) as (λ o. choose (eqb (leader es) 0) (next_count es) (lead_count es) ≡ count 1 es) [
          | yes h ↦ rw (leader_one h) (counts_one h).0
          | no n ↦ rw (leader_zero (omega arith)) (counts_zero (omega arith)).1
        ]

    -- the estimates that equal h0 are the word itself where 1 leads, else the rest of its bits
    pub equal-bits : equal_bits es (leader es) ≡ choose (eqb (leader es) 1) (gathered es) (2 ^ length es - 1 - gathered es)
    equal-bits = elim (dec_lt (count 0 es) (count 1 es)) as (λ o. equal_bits es (leader es) ≡ choose (eqb (leader es) 1) (gathered es) (2 ^ length es - 1 - gathered es)) [
      | yes h ↦ rw (leader_one h) refl
      | no n ↦ rw (leader_zero (omega arith)) (omega (arith, zero_bits es low))
    ]

-- ---- a visit

estimated : (is : List ℕ) (j : ℕ) (st : State) → 0 < length (estimates is j st)
unfolding estimates
estimated is j st = omega arith

-- it changes where the zeros, counted twice, and its threshold are fewer than its estimates
pub visit_zeros : (checks : ℕ → List ℕ) (v : Visit) (st : State) → let es = estimates (checks v.symbol) v.symbol st in Below 2 es
    → changes checks v st ≡ ltb (count 0 es + count 0 es + v.threshold) (length es)
unfolding changes
visit_zeros checks v st low = change_zeros (estimates (checks v.symbol) v.symbol st) low (estimated (checks v.symbol) v.symbol st) v.threshold

-- it changes where the ones decide so, and then subtracts 1
pub visit_bits : (checks : ℕ → List ℕ) (v : Visit) (st : State) → let es = estimates (checks v.symbol) v.symbol st in Below 2 es
    → visit 2 checks v st ≡ choose (ones_decide v.threshold (length es) (gathered es)) (change 2 (checks v.symbol) v.symbol 1 st) st
unfolding visit changes
visit_bits checks v st low =
    let es : List ℕ = estimates (checks v.symbol) v.symbol st in
    let some : 0 < length es = estimated (checks v.symbol) v.symbol st in
    rw (sym (change_bits es low some v.threshold)) (go es some low (is_change v.threshold es) refl)
  where
    go : (es : List ℕ) → 0 < length es → Below 2 es → (b : Bool) → is_change v.threshold es ≡ b
        → choose b (change 2 (checks v.symbol) v.symbol (leader es) st) st ≡ choose b (change 2 (checks v.symbol) v.symbol 1 st) st
    go es some low true e = ap (λ (h : ℕ). change 2 (checks v.symbol) v.symbol h st) (change_one es low some v.threshold e)
    go es some low false e = refl
