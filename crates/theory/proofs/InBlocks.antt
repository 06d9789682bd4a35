-- Every form of decode is decoding in blocks: how each call's outcome and demand 3 follow from the outcome that the functions below the calls share.
use Rattle.std.specs.Prelude.{◌≡◌, Bool, true, ◌&&◌, eqb, ℤ, length}
use Rattle.std.proofs.Math.Path.{refl, ap}
use Rattle.std.proofs.Common.{sym, ◌∙◌, subst}
use mathlib.Core.List.{List}
use Prim.Native.Nat.{ℕ, ◌*◌}
use Rattle.std.proofs.Math.Decide.{ℕ_discrete}
use Rattle.model.specs.Bytes.{c_decode_outcome, c_decode_outer_outcome}
use Rattle.model.specs.Calls.{decode_fits, decode_answer, decode_outer_answer, Outcome, outcome, Decoded, decode_outcome, decode_outer_outcome}
use Rattle.model.specs.Code.{Code, data_count}
use Rattle.model.specs.Decoder.{State, Counts, decoded_state, decoded_counts, margins_of}
use Rattle.model.specs.Demand.{DecodeFalls, DecodeRecovers, OuterFalls, OuterRecovers}
use Rattle.model.specs.Outer.{outer_state, outer_counts}
use Rattle.theory.specs.Counting.{eqb_no}
use Rattle.theory.specs.InBlocks.{length_of, one_answer, outer_answer, outer_length, form_outcome, decode_form, c_decode_form}
use Rattle.theory.specs.Outcomes.{outcome_number, outcome_done}
use Rattle.theory.proofs.Statements.{one_block, decode_falls, decode_recovers, outer_falls, outer_recovers}

-- ---- what is left

module _ {M N : Type 0} (as_margins : List ℤ → M) (as_counts : Counts → N) (c : Code) (fits : Bool) (page thresholds : List ℕ) (lent : Decoded M N) where
  -- in blocks of n
  abbrev done : ℕ → Decoded M N
  done n =
      record {
        state = outer_state c n thresholds page;
        margins = as_margins (margins_of c (outer_state c n thresholds page));
        counts = as_counts (outer_counts c n thresholds page);
      }

  form_one : form_outcome as_margins as_counts c 1 fits page thresholds lent
      ≡ outcome (decode_answer c fits page thresholds)
      (record {
        state = decoded_state c thresholds page;
        margins = as_margins (margins_of c (decoded_state c thresholds page));
        counts = as_counts (decoded_counts c thresholds page);
      })
      lent
  unfolding form_outcome
  form_one =
      let o = one_block c thresholds page in
      λ i. outcome (one_answer c fits page thresholds i) (record { state = o.0 i; margins = as_margins (margins_of c (o.0 i)); counts = as_counts (o.1 i) }) lent

  form_outer : (L : ℕ) → form_outcome as_margins as_counts c (length_of L) fits page thresholds lent ≡ outcome (decode_outer_answer c L fits page thresholds) (done L) lent
  unfolding form_outcome outcome
  form_outer L =
      let n : ℕ = decode_outer_answer c L fits page thresholds in
      ap (λ (m : ℕ). outcome m (done (length_of L)) lent) (outer_answer c fits page thresholds L)
      ∙ (elim (ℕ_discrete n 0) as (λ o. outcome n (done (length_of L)) lent ≡ outcome n (done L) lent) [
        | yes z ↦ ap (λ (m : ℕ). outcome n (done m) lent) (outer_length c fits page thresholds L z)
        | no z ↦ rw (eqb_no n 0 z) refl
      ])

-- decode and decode in blocks of L
decode-form : (c : Code) (others : Bool) (page thresholds : List ℕ) (lent : State) (margins : List ℤ)
    → decode_form c 1 others page thresholds lent margins ≡ decode_outcome c others page thresholds lent margins
unfolding decode_form decode_outcome
decode-form c others page thresholds lent margins = form_one _ _ c _ page thresholds _

decode_outer_form : (c : Code) (L : ℕ) (page thresholds : List ℕ) (lent : State) (margins : List ℤ)
    → decode_form c (length_of L) true page thresholds lent margins ≡ decode_outer_outcome c L page thresholds lent margins
unfolding decode_form decode_outer_outcome
decode_outer_form c L page thresholds lent margins = form_outer _ _ c _ page thresholds _ L

c-decode-form : (c : Code) (others : Bool) (page thresholds : List ℕ) (lent : State) (margins counts : List ℕ)
    → c_decode_form c 1 others page thresholds lent margins counts ≡ c_decode_outcome c others page thresholds lent margins counts
unfolding c_decode_form c_decode_outcome
c-decode-form c others page thresholds lent margins counts = form_one _ _ c _ page thresholds _

c_decode_outer_form : (c : Code) (L : ℕ) (page thresholds : List ℕ) (lent : State) (margins counts : List ℕ)
    → c_decode_form c (length_of L) true page thresholds lent margins counts ≡ c_decode_outer_outcome c L page thresholds lent margins counts
unfolding c_decode_form c_decode_outer_outcome
c_decode_outer_form c L page thresholds lent margins counts = form_outer _ _ c _ page thresholds _ L

-- ---- demand 3, of what a call with this outcome leaves

module _ {M N : Type 0} (c : Code) (others : Bool) (page thresholds : List ℕ) (lent : State) (m : M) (n : N) (before x : Decoded M N) (r : ℕ) (z : r ≡ 0) where
  decoded_demand : ◌≡◌ {A = Outcome (Decoded M N)} (record { number = r; left = x })
      (outcome (decode_answer c (others && decode_fits c page lent) page thresholds) (record { state = decoded_state c thresholds page; margins = m; counts = n }) before)
      → DecodeFalls c thresholds page (decoded_counts c thresholds page) × DecodeRecovers c thresholds page x.state.result
  decoded_demand e =
      let taken = sym (outcome_number _ _ _ r x e) ∙ z in (
        decode_falls c others page thresholds lent taken,
        subst (λ (y : Decoded M N). DecodeRecovers c thresholds page y.state.result) (sym (outcome_done _ _ _ r x e z)) (decode_recovers c others page thresholds lent taken),
      )

  outer_demand : (L : ℕ) → ◌≡◌ {A = Outcome (Decoded M N)} (record { number = r; left = x })
      (outcome (decode_outer_answer c L (others && decode_fits c page lent) page thresholds) (record { state = outer_state c L thresholds page; margins = m; counts = n }) before)
      → OuterFalls c L thresholds page (outer_counts c L thresholds page) × OuterRecovers c L thresholds page x.state.result (outer_counts c L thresholds page)
  outer_demand L e =
      let taken = sym (outcome_number _ _ _ r x e) ∙ z in (
        outer_falls c L others page thresholds lent taken,
        subst (λ (y : Decoded M N). OuterRecovers c L thresholds page y.state.result (outer_counts c L thresholds page)) (sym (outcome_done _ _ _ r x e z))
            (outer_recovers c L others page thresholds lent taken),
      )

decode_demand : (c : Code) (others : Bool) (page thresholds : List ℕ) (lent : State) (margins : List ℤ) (r : ℕ) (x : Decoded (List ℤ) Counts)
    → record { number = r; left = x } ≡ decode_outcome c others page thresholds lent margins → r ≡ 0
    → DecodeFalls c thresholds page x.counts × DecodeRecovers c thresholds page x.state.result
unfolding decode_outcome
decode_demand c others page thresholds lent margins r x e z =
    let d = decoded_demand c (others && eqb (length margins) (data_count c)) page thresholds lent _ _ _ x r z e in
    (subst (λ (y : Decoded (List ℤ) Counts). DecodeFalls c thresholds page y.counts) (sym (outcome_done _ _ _ r x e z)) d.0, d.1)

decode_outer_demand : (c : Code) (L : ℕ) (page thresholds : List ℕ) (lent : State) (margins : List ℤ) (r : ℕ) (x : Decoded (List ℤ) Counts)
    → record { number = r; left = x } ≡ decode_outer_outcome c L page thresholds lent margins → r ≡ 0
    → OuterFalls c L thresholds page x.counts × OuterRecovers c L thresholds page x.state.result x.counts
unfolding decode_outer_outcome
decode_outer_demand c L page thresholds lent margins r x e z =
    let d = outer_demand c (eqb (length margins) (data_count c)) page thresholds lent _ _ _ x r z L e in
    let n : outer_counts c L thresholds page ≡ x.counts = ap (λ (y : Decoded (List ℤ) Counts). y.counts) (sym (outcome_done _ _ _ r x e z)) in
    (subst (OuterFalls c L thresholds page) n d.0, subst (OuterRecovers c L thresholds page x.state.result) n d.1)

c_decode_demand : (c : Code) (others : Bool) (page thresholds : List ℕ) (lent : State) (margins counts : List ℕ) (r : ℕ) (x : Decoded (List ℕ) (List ℕ))
    → record { number = r; left = x } ≡ c_decode_outcome c others page thresholds lent margins counts → r ≡ 0
    → DecodeFalls c thresholds page (decoded_counts c thresholds page) × DecodeRecovers c thresholds page x.state.result
unfolding c_decode_outcome
c_decode_demand c others page thresholds lent margins counts r x e z =
    decoded_demand c (others && (eqb (length margins) (4 * data_count c) && eqb (length counts) 16)) page thresholds lent _ _ _ x r z e

c_decode_outer_demand : (c : Code) (L : ℕ) (page thresholds : List ℕ) (lent : State) (margins counts : List ℕ) (r : ℕ) (x : Decoded (List ℕ) (List ℕ))
    → record { number = r; left = x } ≡ c_decode_outer_outcome c L page thresholds lent margins counts → r ≡ 0
    → OuterFalls c L thresholds page (outer_counts c L thresholds page) × OuterRecovers c L thresholds page x.state.result (outer_counts c L thresholds page)
unfolding c_decode_outer_outcome
c_decode_outer_demand c L page thresholds lent margins counts r x e z =
    outer_demand c (eqb (length margins) (4 * data_count c) && eqb (length counts) 16) page thresholds lent _ _ _ x r z L e

-- ---- each call: its outcome, and demand 3 where it is done

pub decode_done : (c : Code) (others : Bool) (page thresholds : List ℕ) (lent : State) (margins : List ℤ) (r : ℕ) (x : Decoded (List ℤ) Counts)
    → record { number = r; left = x } ≡ decode_form c 1 others page thresholds lent margins
    → (record { number = r; left = x } ≡ decode_outcome c others page thresholds lent margins)
    × ((r ≡ 0 → DecodeFalls c thresholds page x.counts) × (r ≡ 0 → DecodeRecovers c thresholds page x.state.result))
decode_done c others page thresholds lent margins r x e =
    let o = e ∙ decode-form c others page thresholds lent margins in
    let d = decode_demand c others page thresholds lent margins r x o in
    (o, (λ z. (d z).0, λ z. (d z).1))

pub decode_outer_done : (c : Code) (L : ℕ) (page thresholds : List ℕ) (lent : State) (margins : List ℤ) (r : ℕ) (x : Decoded (List ℤ) Counts)
    → record { number = r; left = x } ≡ decode_form c (length_of L) true page thresholds lent margins
    → (record { number = r; left = x } ≡ decode_outer_outcome c L page thresholds lent margins)
    × ((r ≡ 0 → OuterFalls c L thresholds page x.counts) × (r ≡ 0 → OuterRecovers c L thresholds page x.state.result x.counts))
decode_outer_done c L page thresholds lent margins r x e =
    let o = e ∙ decode_outer_form c L page thresholds lent margins in
    let d = decode_outer_demand c L page thresholds lent margins r x o in
    (o, (λ z. (d z).0, λ z. (d z).1))

pub c_decode_done : (c : Code) (others : Bool) (page thresholds : List ℕ) (lent : State) (margins counts : List ℕ) (r : ℕ) (x : Decoded (List ℕ) (List ℕ))
    → record { number = r; left = x } ≡ c_decode_form c 1 others page thresholds lent margins counts
    → (record { number = r; left = x } ≡ c_decode_outcome c others page thresholds lent margins counts)
    × ((r ≡ 0 → DecodeFalls c thresholds page (decoded_counts c thresholds page)) × (r ≡ 0 → DecodeRecovers c thresholds page x.state.result))
c_decode_done c others page thresholds lent margins counts r x e =
    let o = e ∙ c-decode-form c others page thresholds lent margins counts in
    let d = c_decode_demand c others page thresholds lent margins counts r x o in
    (o, (λ z. (d z).0, λ z. (d z).1))

pub c_decode_outer_done : (c : Code) (L : ℕ) (page thresholds : List ℕ) (lent : State) (margins counts : List ℕ) (r : ℕ) (x : Decoded (List ℕ) (List ℕ))
    → record { number = r; left = x } ≡ c_decode_form c (length_of L) true page thresholds lent margins counts
    → (record { number = r; left = x } ≡ c_decode_outer_outcome c L page thresholds lent margins counts)
    × ((r ≡ 0 → OuterFalls c L thresholds page (outer_counts c L thresholds page))
    × (r ≡ 0 → OuterRecovers c L thresholds page x.state.result (outer_counts c L thresholds page)))
c_decode_outer_done c L page thresholds lent margins counts r x e =
    let o = e ∙ c_decode_outer_form c L page thresholds lent margins counts in
    let d = c_decode_outer_demand c L page thresholds lent margins counts r x o in
    (o, (λ z. (d z).0, λ z. (d z).1))
