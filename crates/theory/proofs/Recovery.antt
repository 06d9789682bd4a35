-- Demand 3, second half: within the bound the decoder restores what was sent; a visit, a run, a page, and passes by a code.
use Rattle.std.specs.Prelude.{◌≡◌, refl, ◌≢◌, ◌⊎◌, false, T, length, ℕ, suc, ◌+◌, ◌≤◌, ◌<◌, get_or, List, [], ◌∷◌}
use Rattle.std.proofs.Math.Path.{ap, sym, subst}
use Rattle.std.proofs.Common.{◌∙◌, T_not, ext_get_or, arith}
use Rattle.std.proofs.Math.Logic.{inl, inr}
use Rattle.std.proofs.Math.Decide.{ℕ_discrete}
use Rattle.std.proofs.Math.Seq.{get_or-set_same}
use Rattle.model.specs.Code.{Code, data_count, page_length, checks_each, checks_of}
use Rattle.model.specs.Decoder.{State, Visit, estimates, is_change, change, changes, visit, after, passes, opened}
use Rattle.model.specs.Symbols.{sub, count, distance}
use Rattle.model.specs.Vote.{leader, lead_count, next_count}
use Rattle.model.specs.Demand.{Recovers}
use Rattle.theory.specs.Answers.{encoded_symbols, encoded_data}
use Rattle.theory.specs.Codes.{Usable, code_incidence, code-word, code_opened}
use Rattle.theory.specs.Counting.{length_symbols_at, misses, All, count_misses, count_other}
use Rattle.theory.specs.Distance.{word_of}
use Rattle.theory.specs.Falling.{Incidence, InRange, choose_case, is_change_make, is_change_zero, visit_sized, visit_tied}
use Rattle.theory.specs.Modulo.{sub_self, sub_zero_eq, sub_sub}
use Rattle.theory.specs.Page.{opened_by, sent, few_errors, opened_fits}
use Rattle.theory.specs.Recovery.{error_count, Sent, Fits, Covered, error_of, misses_errors, visit_other, same_visit}
use Rattle.theory.specs.Runs.{range_passes, covered_passes}
use Rattle.theory.specs.Steps.{SymbolsBelow}
use Rattle.theory.specs.Voting.{next_least}
use Rattle.theory.proofs.Voting.{majority}

-- ---- a clear majority

pub majority_next : (es : List ℕ) (e J t : ℕ) → length es ≡ suc J → misses e es ≤ t → t + t ≤ J → (next_count es ≤ t) × (suc J ≤ lead_count es + t)
unfolding lead_count
majority_next es e J t len few room =
    let p : leader es ≡ e = majority es e J t len few room in (
      next_least es t (λ v n. omega (arith, count_other v e es (λ z. n (z ∙ sym p)))),
      rw p (omega (arith, count_misses e es)),
    )

-- ---- one symbol

module _ {q m k J : ℕ} {checks : ℕ → List ℕ} {u x y : List ℕ} (sent : Sent q m k J checks u x y) (st : State) (fits : Fits q m k checks u x y st) (j : ℕ) (hj : j < m) where
  -- ---- within the bound: at most t replaced, and 2 t at most J

  module _ (t : ℕ) (few : error_count q m k checks u x y ≤ t) (room : t + t ≤ J) where
    es_len : length (estimates (checks j) j st) ≡ suc J
    unfolding estimates
    es_len = ap suc (length_symbols_at st.syndrome (checks j) ∙ sent.inc.size j hj)

    es_misses : misses (error_of q u st.result j) (estimates (checks j) j st) ≤ t
    es_misses = omega (arith, misses_errors sent st fits j hj)

    -- the vote finds the error
    pub leader_error : leader (estimates (checks j) j st) ≡ error_of q u st.result j
    leader_error = majority (estimates (checks j) j st) (error_of q u st.result j) J t es_len es_misses room

    -- a right symbol is left alone, at any threshold
    pub right_stays : get_or st.result j 0 ≡ get_or u j 0 → (h : ℕ) → is_change h (estimates (checks j) j st) ≡ false
    right_stays e h = is_change_zero h (estimates (checks j) j st)
        (leader_error ∙ ap (λ (z : ℕ). sub q z (get_or u j 0)) e ∙ sub_self q sent.inc.pos (get_or u j 0) (sent.word.low j))

    -- a wrong symbol is changed, at a threshold within the bound
    pub wrong_changes : get_or st.result j 0 ≢ get_or u j 0 → (h : ℕ) → t + t + h ≤ J → T (is_change h (estimates (checks j) j st))
    wrong_changes n h b =
        let p = majority_next (estimates (checks j) j st) (error_of q u st.result j) J t es_len es_misses room in
        is_change_make h (estimates (checks j) j st) (omega (arith, p.0, p.1))
        (λ e. n (sub_zero_eq q sent.inc.pos (get_or st.result j 0) (get_or u j 0) (fits.sized.in_result j) (sent.word.low j) (sym leader_error ∙ e)))

    -- any change restores
    pub change_restores : get_or (change q (checks j) j (leader (estimates (checks j) j st)) st).result j 0 ≡ get_or u j 0
    unfolding change
    change_restores =
        get_or-set_same st.result j (sub q (get_or st.result j 0) (leader (estimates (checks j) j st))) 0 (rw fits.sized.len_result hj)
        ∙ ap (λ (z : ℕ). sub q (get_or st.result j 0) z) leader_error
        ∙ sub_sub q sent.inc.pos (get_or st.result j 0) (get_or u j 0) (fits.sized.in_result j) (sent.word.low j)

module _ {q m k J : ℕ} {checks : ℕ → List ℕ} {u x y : List ℕ} (sent : Sent q m k J checks u x y) (t : ℕ) (few : error_count q m k checks u x y ≤ t) (room : t + t ≤ J) where
  -- ---- a visit

  -- a right symbol is not changed: the state stays as it is
  pub settled : (v : Visit) → v.symbol < m → (st : State) → Fits q m k checks u x y st → get_or st.result v.symbol 0 ≡ get_or u v.symbol 0 → visit q checks v st ≡ st
  unfolding visit changes
  settled v hj st f e =
      same_visit (is_change v.threshold (estimates (checks v.symbol) v.symbol st))
      (change q (checks v.symbol) v.symbol (leader (estimates (checks v.symbol) v.symbol st)) st) st
      (right_stays sent st f v.symbol hj t few room e v.threshold)

  -- what a visit leaves at its symbol: what was there, or what was sent
  pub visited : (v : Visit) → v.symbol < m → (st : State) → Fits q m k checks u x y st
      → (get_or (visit q checks v st).result v.symbol 0 ≡ get_or u v.symbol 0) ⊎ (visit q checks v st ≡ st)
  unfolding visit changes
  visited v hj st f =
      let j : ℕ = v.symbol in
      let es : List ℕ = estimates (checks j) j st in
      choose_case (λ b s. (get_or s.result j 0 ≡ get_or u j 0) ⊎ (s ≡ st)) (is_change v.threshold es) (change q (checks j) j (leader es) st) st
      (λ c. inl (change_restores sent st f j hj t few room))
      (λ c. inr refl)

  -- at a threshold within the bound it is what was sent
  pub restored : (v : Visit) → v.symbol < m → t + t + v.threshold ≤ J → (st : State) → Fits q m k checks u x y st
      → get_or (visit q checks v st).result v.symbol 0 ≡ get_or u v.symbol 0
  unfolding visit changes
  restored v hj b st f =
      let j : ℕ = v.symbol in
      let es : List ℕ = estimates (checks j) j st in
      choose_case (λ b s. get_or s.result j 0 ≡ get_or u j 0) (is_change v.threshold es) (change q (checks j) j (leader es) st) st
      (λ c. change_restores sent st f j hj t few room)
      (λ c. elim (ℕ_discrete (get_or st.result j 0) (get_or u j 0)) as (λ o. get_or st.result j 0 ≡ get_or u j 0) [
        | yes e ↦ e
        | no n ↦ absurd (T_not (is_change v.threshold es) c
            (wrong_changes sent st f j hj t few room n v.threshold b))
      ])

  -- a right symbol stays right
  pub keeps : (v : Visit) → v.symbol < m → (st : State) → Fits q m k checks u x y st → (l : ℕ) → get_or st.result l 0 ≡ get_or u l 0
      → get_or (visit q checks v st).result l 0 ≡ get_or u l 0
  keeps v hj st f l e = elim (ℕ_discrete l v.symbol) as (λ o. get_or (visit q checks v st).result l 0 ≡ get_or u l 0) [
    | yes p ↦ ap (λ (s : State). get_or s.result l 0) (settled v hj st f (subst (λ (i : ℕ). get_or st.result i 0 ≡ get_or u i 0) p e)) ∙ e
    | no n ↦ visit_other q checks v st l n ∙ e
  ]

  pub visit_fits : (v : Visit) → v.symbol < m → (st : State) → Fits q m k checks u x y st → Fits q m k checks u x y (visit q checks v st)
  visit_fits v hj st f = record {
    sized = visit_sized sent.inc v st f.sized;
    tied = visit_tied sent.inc sent.page v hj st f.sized f.tied;
    good = (λ l hl. elim (ℕ_discrete l v.symbol) as (λ o. (get_or (visit q checks v st).result l 0 ≡ get_or u l 0) ⊎ (get_or (visit q checks v st).result l 0 ≡ get_or x l 0)) [
      | yes p ↦ elim (visited v hj st f) as (λ o. (get_or (visit q checks v st).result l 0 ≡ get_or u l 0) ⊎ (get_or (visit q checks v st).result l 0 ≡ get_or x l 0))
          [ inl e ↦ inl (rw p e) | inr e ↦ rw e (f.good l hl) ]
      | no n ↦ rw (visit_other q checks v st l n) (f.good l hl)
    ]);
  }

  -- ---- a run

  pub after_fits : (vs : List Visit) → InRange m vs → (st : State) → Fits q m k checks u x y st → Fits q m k checks u x y (after q checks vs st)
  unfolding after
  after_fits [] r st f = f
  after_fits (v ∷ vs) r st f = after_fits vs r.1 (visit q checks v st) (visit_fits v r.0 st f)

  pub after_restores : (vs : List Visit) → InRange m vs → (st : State) → Fits q m k checks u x y st → (j : ℕ) → Covered J t vs j ⊎ (get_or st.result j 0 ≡ get_or u j 0)
      → get_or (after q checks vs st).result j 0 ≡ get_or u j 0
  unfolding after
  after_restores [] r st f j (inl c) = absurd c
  after_restores [] r st f j (inr e) = e
  after_restores (v ∷ vs) r st f j (inl (inl c)) =
      after_restores vs r.1 (visit q checks v st) (visit_fits v r.0 st f) j
      (inr (subst (λ (i : ℕ). get_or (visit q checks v st).result i 0 ≡ get_or u i 0) c.0 (restored v r.0 c.1 st f)))
  after_restores (v ∷ vs) r st f j (inl (inr c)) = after_restores vs r.1 (visit q checks v st) (visit_fits v r.0 st f) j (inl c)
  after_restores (v ∷ vs) r st f j (inr e) = after_restores vs r.1 (visit q checks v st) (visit_fits v r.0 st f) j (inr (keeps v r.0 st f j e))

  -- a run that visits each symbol at a threshold within the bound hands back what was sent
  pub recovers : (vs : List Visit) → InRange m vs → (st : State) → Fits q m k checks u x y st → ((j : ℕ) → j < m → Covered J t vs j) → (after q checks vs st).result ≡ u
  recovers vs r st f c =
      let g = after_fits vs r st f in
      ext_get_or 0 (after q checks vs st).result u (g.sized.len_result ∙ sym sent.word.len)
      (λ i l. after_restores vs r st f i (inl (c i (subst (λ (n : ℕ). i < n) g.sized.len_result l))))

-- ---- a page

module _ {q m k J : ℕ} {checks : ℕ → List ℕ} (inc : Incidence q m k J checks) {page : List ℕ} (whole : SymbolsBelow q (m + k) page) where
  module _ {u : List ℕ} (word : SymbolsBelow q m u) (t : ℕ) (few : distance (word_of q m k checks u) page ≤ t) (room : t + t ≤ J) where
    pub page_recovers : (vs : List Visit) → InRange m vs → ((j : ℕ) → j < m → Covered J t vs j) → (after q checks vs (opened_by q m k checks page)).result ≡ u
    page_recovers vs r c =
        recovers (sent inc whole word t few room) t (few_errors inc whole word t few room) room vs r (opened_by q m k checks page) (opened_fits inc whole word t few room) c

-- ---- passes by a code

module _ (c : Code) (l : Usable c) (page : List ℕ) (whole : SymbolsBelow c.q (page_length c) page) where
  -- demand 3, second half: passes over all data symbols, one of them with threshold h
  pub code_recovers : (js : List ℕ) → All (λ j. j < data_count c) js → ((j : ℕ) → j < data_count c → 0 < count j js) → (ts : List ℕ) (h : ℕ) → 0 < count h ts
      → Recovers c h page (after c.q (checks_of c) (passes js ts) (opened c page)).result
  code_recovers js a all ts h n u sent t taken few room =
      let vs : List Visit = passes js ts in
      ap (λ (s : State). (after c.q (checks_of c) vs s).result) (code_opened c l.table page)
      ∙ page_recovers (code_incidence c l) whole (encoded_symbols c u sent taken) t
      (subst (λ (p : List ℕ). distance p page ≤ t) (taken.1 ∙ code-word c l.table u) few) (omega arith) vs (range_passes (data_count c) js a ts)
      (λ j b. covered_passes (checks_each c) t js ts h room n j (all j b))
      ∙ sym (encoded_data c u sent taken)
