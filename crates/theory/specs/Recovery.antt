-- Demand 3, second half: no more estimates miss an error than symbols were replaced; proofs/Recovery has what follows.
use Rattle.std.specs.Prelude.{◌≡◌, refl, ◌≢◌, ◌⊎◌, Bool, false}
use Rattle.std.proofs.Math.Path.{ap, sym, subst}
use Rattle.std.proofs.Common.{◌∙◌, get_or-set_other}
use Rattle.std.proofs.Math.Logic.{inl, inr}
use mathlib.Core.List.{List, [], ◌∷◌}
use Prim.Native.Nat.{ℕ, ◌+◌, ◌*◌, ◌%◌, ◌≤◌, ◌<◌}
use Rattle.std.proofs.Math.Nat.{mul-le-mul_left, mod-lt, mod-add-mod, add-mod-mod}
use Rattle.std.proofs.Math.Decide.{ℕ_discrete}
use native.Mathlib.Omega.{arith}
use Rattle.std.proofs.Math.ListN.{get_or}
use Rattle.model.specs.Decoder.{State, Visit, estimates, is_change, change, changes, visit}
use Rattle.model.specs.Symbols.{choose, sub, differ, count, distance, sum_over, sum_of_first, tabulate}
use Rattle.model.specs.Vote.{leader}
use Rattle.theory.specs.Counting.{differ_no, differ_yes, sum_ext, sum_le, sum_off, sum_term, sum_over_le, sum_over_add, sum_over_swap, sum_over_scale, distance_sum, differ_le, distinct_count, sum_over_sub, all_of, all_at, misses, misses_symbols_at}
use Rattle.theory.specs.Distance.{length_tabulate, get_d_tabulate, check_symbols_of, Tied, Received}
use Rattle.theory.specs.Falling.{Incidence, choose_case}
use Rattle.theory.specs.Modulo.{by_eq, sub_cross}
use Rattle.theory.specs.Steps.{check_sum, SymbolsBelow, Sized}

-- each symbol of the result is the one sent or the one received
abbrev pub SentOrReceived : ℕ → List ℕ → List ℕ → List ℕ → Type 0
SentOrReceived m u x r = (l : ℕ) → l < m → (get_or r l 0 ≡ get_or u l 0) ⊎ (get_or r l 0 ≡ get_or x l 0)

-- how many symbols of the page were replaced: of the data u and of its checks
unfoldable pub error_count : ℕ → ℕ → ℕ → (ℕ → List ℕ) → List ℕ → List ℕ → List ℕ → ℕ
error_count q m k checks u x y = distance u x + distance (check_symbols_of q m k checks u) y

-- what symbol j of the result r is too large by
abbrev pub error_of : ℕ → List ℕ → List ℕ → ℕ → ℕ
error_of q u r j = sub q (get_or r j 0) (get_or u j 0)

-- 1 where data symbol l is not j and was replaced
abbrev other_error : List ℕ → List ℕ → ℕ → ℕ → ℕ
other_error u x j l = differ l j * differ (get_or u l 0) (get_or x l 0)

-- the setting: u is a code word's data, and x ++ y a received page
pub record Sent (q m k J : ℕ) (checks : ℕ → List ℕ) (u x y : List ℕ) : Type 0 where
  pub inc : Incidence q m k J checks
  pub word : SymbolsBelow q m u
  pub page : Received q m k x y

-- a state of that page
pub record Fits (q m k : ℕ) (checks : ℕ → List ℕ) (u x y : List ℕ) (st : State) : Type 0 where
  pub sized : Sized q m k st
  pub tied : Tied q m k checks x y st
  pub good : SentOrReceived m u x st.result

module _ {q m k J : ℕ} {checks : ℕ → List ℕ} {u x y : List ℕ} (sent : Sent q m k J checks u x y) (st : State) (fits : Fits q m k checks u x y st) (j : ℕ) (hj : j < m) where
  -- the error of symbol j
  err : ℕ
  err = error_of q u st.result j

  -- whether check i was replaced, and how many other replaced data symbols are in it
  abbrev replaced : ℕ → ℕ
  replaced i = differ (check_sum m checks u i % q) (get_or y i 0)

  abbrev others : ℕ → ℕ
  others i = sum_of_first m (λ l. other_error u x j l * count i (checks l))

  -- check i votes for it where check i was not replaced and no other replaced symbol is in it
  right : (i : ℕ) → i < k → count i (checks j) ≡ 1 → check_sum m checks u i % q ≡ get_or y i 0 → others i ≡ 0 → err ≡ get_or st.syndrome i 0
  unfolding err check_sum
  right i hi one e w =
      let r : List ℕ = st.result in
      let agree : (l : ℕ) → l < m → l ≢ j → count i (checks l) * get_or r l 0 ≡ count i (checks l) * get_or u l 0 =
      (λ l hl n. elim (ℕ_discrete (get_or u l 0) (get_or x l 0)) as (λ o. count i (checks l) * get_or r l 0 ≡ count i (checks l) * get_or u l 0) [
        | yes p ↦ ap (λ (z : ℕ). count i (checks l) * z) (elim (fits.good l hl) as (λ o. get_or r l 0 ≡ get_or u l 0) [ inl a ↦ a | inr b ↦ b ∙ sym p ])
        | no d ↦
            let z : count i (checks l) ≡ 0 =
            omega (
              arith,
              subst (λ (c : ℕ). 1 * c * count i (checks l) ≤ 0) (differ_yes (get_or u l 0) (get_or x l 0) d)
                  (subst (λ (c : ℕ). c * differ (get_or u l 0) (get_or x l 0) * count i (checks l) ≤ 0) (differ_yes l j n)
                  (subst (λ (c : ℕ). other_error u x j l * count i (checks l) ≤ c) w (sum_term m (λ o. other_error u x j o * count i (checks o)) l hl))),
            ) in
            rw z (omega arith)
      ]) in
      let off : sum_of_first m (λ l. count i (checks l) * get_or r l 0) + count i (checks j) * get_or u j 0
      ≡ sum_of_first m (λ l. count i (checks l) * get_or u l 0) + count i (checks j) * get_or r j 0 =
      sum_off m (λ l. count i (checks l) * get_or r l 0) (λ l. count i (checks l) * get_or u l 0) j hj agree in
      let s : ℕ = sum_of_first m (λ l. count i (checks l) * get_or r l 0) in
      let s' : ℕ = sum_of_first m (λ l. count i (checks l) * get_or u l 0) in
      let off1 : s + 1 * get_or u j 0 ≡ s' + 1 * get_or r j 0 = subst (λ (c : ℕ). s + c * get_or u j 0 ≡ s' + c * get_or r j 0) one off in
      sub_cross q sent.inc.pos (get_or r j 0) (get_or u j 0) (s % q) (s' % q) (omega (arith, sent.word.low j)) (omega (arith, mod-lt s' sent.inc.pos))
      (add-mod-mod (get_or r j 0) s' q ∙ by_eq q {x = get_or r j 0 + s'} {y = s + get_or u j 0} (omega arith) ∙ sym (mod-add-mod s q (get_or u j 0)))
      ∙ ap (λ (z : ℕ). sub q (s % q) z) e
      ∙ sym (fits.tied.syndrome_is i hi)

  vote_check : (i : ℕ) → i < k → count i (checks j) ≡ 1 → differ err (get_or st.syndrome i 0) ≤ replaced i + others i
  vote_check i hi one = elim (ℕ_discrete (check_sum m checks u i % q) (get_or y i 0)) as (λ o. differ err (get_or st.syndrome i 0) ≤ replaced i + others i) [
    | yes e ↦ elim (ℕ_discrete (others i) 0) as (λ o. differ err (get_or st.syndrome i 0) ≤ replaced i + others i) [
      | yes w ↦ omega (arith, differ_no err (get_or st.syndrome i 0) (right i hi one e w))
      | no n ↦ omega (arith, differ_le err (get_or st.syndrome i 0))
    ]
    | no n ↦ omega (arith, differ_le err (get_or st.syndrome i 0), differ_yes (check_sum m checks u i % q) (get_or y i 0) n)
  ]

  -- the counting lemma: no more estimates miss the error than symbols were replaced
  pub misses_errors : misses (error_of q u st.result j) (estimates (checks j) j st) ≤ error_count q m k checks u x y
  unfolding error_count estimates misses check_symbols_of err
  misses_errors =
      let is : List ℕ = checks j in
      let shared : (l : ℕ) → l < m → sum_over is (λ i. other_error u x j l * count i (checks l)) ≤ other_error u x j l =
      (λ l hl. rw (sum_over_scale is (other_error u x j l) (λ i. count i (checks l)))
      (elim (ℕ_discrete l j) as (λ o. other_error u x j l * sum_over is (λ i. count i (checks l)) ≤ other_error u x j l) [
        | yes p ↦ rw (differ_no l j p) (omega arith)
        | no n ↦ omega (arith, mul-le-mul_left (other_error u x j l) (sent.inc.cross j l hj hl n))
      ])) in
      let own : differ err (get_or st.difference j 0) ≤ differ (get_or u j 0) (get_or x j 0) =
      (elim (ℕ_discrete (get_or u j 0) (get_or x j 0)) as (λ o. differ err (get_or st.difference j 0) ≤ differ (get_or u j 0) (get_or x j 0)) [
        | yes p ↦ omega (arith, differ_no err (get_or st.difference j 0) (ap (λ (z : ℕ). sub q (get_or st.result j 0) z) p ∙ sym (fits.tied.difference_is j hj)))
        | no n ↦ omega (arith, differ_le err (get_or st.difference j 0), differ_yes (get_or u j 0) (get_or x j 0) n)
      ]) in
      let votes : sum_over is (λ i. differ err (get_or st.syndrome i 0)) ≤ sum_over is replaced + sum_over is others =
      omega (
        arith,
        sum_over_add is replaced others,
        sum_over_le is (λ i. differ err (get_or st.syndrome i 0)) (λ i. replaced i + others i)
            (all_of (λ i. differ err (get_or st.syndrome i 0) ≤ replaced i + others i) is
            (λ i h. vote_check i (all_at (λ o. o < k) is (sent.inc.inside j hj) i h) (omega (arith, distinct_count is (sent.inc.apart j hj) i)))),
      ) in
      let chk : sum_over is replaced ≤ distance (tabulate k (λ i. check_sum m checks u i % q)) y =
      omega (
        arith,
        sum_over_sub k is replaced (sent.inc.apart j hj) (sent.inc.inside j hj),
        distance_sum k (tabulate k (λ i. check_sum m checks u i % q)) y (length_tabulate k _) sent.page.len_y,
        sum_ext k (λ i. differ (get_or (tabulate k (λ o. check_sum m checks u o % q)) i 0) (get_or y i 0)) replaced
            (λ i l. ap (λ (z : ℕ). differ z (get_or y i 0)) (get_d_tabulate k (λ o. check_sum m checks u o % q) i l)),
      ) in
      let dat : sum_over is others + differ (get_or u j 0) (get_or x j 0) ≤ distance u x =
      omega (
        arith,
        sum_over_swap is m (λ i l. other_error u x j l * count i (checks l)),
        sum_le m (λ l. sum_over is (λ i. other_error u x j l * count i (checks l))) (λ l. other_error u x j l) shared,
        sum_off m (λ l. other_error u x j l) (λ l. differ (get_or u l 0) (get_or x l 0)) j hj
            (λ l hl n. rw (differ_yes l j n) (omega arith)),
        subst (λ (c : ℕ). c * differ (get_or u j 0) (get_or x j 0) ≤ 0) (sym (differ_no j j refl)) (omega arith),
        distance_sum m u x sent.word.len sent.page.len_x,
      ) in
      omega (arith, misses_symbols_at err st.syndrome is)

-- a visit leaves the other symbols
pub visit_other : (q : ℕ) (checks : ℕ → List ℕ) (v : Visit) (st : State) (l : ℕ) → l ≢ v.symbol → get_or (visit q checks v st).result l 0 ≡ get_or st.result l 0
unfolding visit changes change
visit_other q checks v st l n =
    let j : ℕ = v.symbol in
    let es : List ℕ = estimates (checks j) j st in
    choose_case (λ b s. get_or s.result l 0 ≡ get_or st.result l 0) (is_change v.threshold es) (change q (checks j) j (leader es) st) st
    (λ c. get_or-set_other st.result j l (sub q (get_or st.result j 0) (leader es)) 0 n) (λ c. refl)

pub same_visit : (b : Bool) {A : Type 0} (x y : A) → b ≡ false → choose b x y ≡ y
same_visit b x y e = rw e refl

-- j is visited at a threshold within the bound
abbrev pub Covered : ℕ → ℕ → List Visit → ℕ → Type 0
Covered J t [] j = ⊥
Covered J t (v ∷ vs) j = ((v.symbol ≡ j) × (t + t + v.threshold ≤ J)) ⊎ Covered J t vs j
