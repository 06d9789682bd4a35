-- When a received page is a code word: its syndrome is 0, it is at distance 0, and encode writes it.
use Rattle.std.specs.Prelude.{◌≡◌, refl, ◌↔◌, ℕ, zero, suc, length}
use Rattle.std.proofs.Math.Path.{ap, sym}
use Rattle.std.proofs.Common.{◌∙◌, suc-ne-zero, arith}
use mathlib.Core.List.{List, [], ◌∷◌}
use Rattle.std.proofs.Math.Decide.{ℕ_discrete}
use Rattle.model.specs.Calls.{table_answer}
use Rattle.model.specs.Code.{Code, data_count, page_length, code_word, syndrome, data_of}
use Rattle.model.specs.Decoder.{opened, after, distance_to, state_weight}
use Rattle.model.specs.Demand.{Encodes}
use Rattle.model.specs.Symbols.{weight, distance, tabulate}
use Rattle.theory.specs.Answers.{encode_accepts, encoded_data}
use Rattle.theory.specs.Codes.{Usable}
use Rattle.theory.specs.Counting.{differ_yes, differ_no, All, zeros_weight}
use Rattle.theory.specs.Decoding.{code_received, code_distance}
use Rattle.theory.specs.Margins.{count_all, all_count}
use Rattle.theory.specs.Steps.{SymbolsBelow}

-- ---- distance 0 is equality, and weight 0 is all zeros

distance_self : (xs : List ℕ) → distance xs xs ≡ 0
unfolding distance
distance_self [] = refl
distance_self (x ∷ xs) = omega (arith, differ_no x x refl, distance_self xs)

distance_none : (xs ys : List ℕ) → distance xs ys ≡ 0 → xs ≡ ys
unfolding distance
distance_none [] [] e = refl
distance_none [] (y ∷ ys) e = absurd (suc-ne-zero (length ys) e)
distance_none (x ∷ xs) [] e = absurd (suc-ne-zero (length xs) e)
distance_none (x ∷ xs) (y ∷ ys) e = elim (ℕ_discrete x y) as (λ o. x ∷ xs ≡ y ∷ ys) [
  | yes p ↦ λ i. p i ∷ distance_none xs ys (omega arith) i
  | no n ↦ absurd (omega (arith, differ_yes x y n))
]

pub weight_none : (s : List ℕ) → (weight s ≡ 0) ↔ All (λ x. x ≡ 0) s
weight_none s = (λ e. count_all 0 s (omega (arith, zeros_weight s)), λ a. omega (arith, zeros_weight s, all_count 0 s a))

weight_zeros : (n : ℕ) → weight (tabulate n (λ i. 0)) ≡ 0
unfolding weight tabulate
weight_zeros zero = refl
weight_zeros (suc n) = omega (arith, weight_zeros n, differ_no 0 0 refl)

-- ---- of a received page

module _ (c : Code) (l : Usable c) (page : List ℕ) (whole : SymbolsBelow c.q (page_length c) page) where
  pub word_distance : (distance_to c page (opened c page) ≡ 0) ↔ (page ≡ code_word c (data_of c page))
  unfolding distance_to opened
  word_distance = (
    λ e. sym (distance_none (code_word c (data_of c page)) page e),
    λ e. ap (λ (p : List ℕ). distance (code_word c (data_of c page)) p) e ∙ distance_self (code_word c (data_of c page)),
  )

  -- the distance of an opened page is the number of nonzero symbols of S, as D is 0
  opened_weight : distance_to c page (opened c page) ≡ weight (syndrome c page)
  unfolding after opened state_weight
  opened_weight = omega (arith, code_distance c l page whole [] tt, weight_zeros (data_count c))

  pub word_syndrome : All (λ s. s ≡ 0) (syndrome c page) ↔ (page ≡ code_word c (data_of c page))
  word_syndrome = (
    λ a. word_distance.0 (opened_weight ∙ (weight_none (syndrome c page)).1 a),
    λ e. (weight_none (syndrome c page)).0 (sym opened_weight ∙ word_distance.1 e),
  )

  pub word_encoded : table_answer c ≡ 0 → (page ≡ code_word c (data_of c page)) ↔ ((u : List ℕ) × Encodes c u page)
  word_encoded taken =
      let got = code_received c l page whole in (
        λ e. (data_of c page, (encode_accepts c (data_of c page) taken (record { len = got.len_x; low = got.in_x }), e)),
        λ p. p.1.1 ∙ ap (code_word c) (sym (encoded_data c p.0 page p.1)),
      )
