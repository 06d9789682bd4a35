-- What a call leaves, by its number: the one pair of laws that every call's contract rests on.
use Rattle.std.specs.Prelude.{◌≡◌, ◌≢◌, ℕ}
use Rattle.std.proofs.Math.Path.{refl, ap}
use Rattle.std.proofs.Common.{sym, ◌∙◌}
use Rattle.model.specs.Calls.{Outcome, outcome}
use Rattle.theory.specs.Counting.{eqb_yes, eqb_no}

module _ {A : Type 0} (n : ℕ) (done lent : A) where
  -- refused: what was lent
  pub left_as_lent : (r : ℕ) → r ≡ n → r ≢ 0 → ◌≡◌ {A = Outcome A} (record { number = r; left = lent }) (outcome n done lent)
  unfolding outcome
  left_as_lent r e z = rw (eqb_no n 0 (λ y. z (e ∙ y))) (λ i. record { number = e i; left = lent })

  -- done: what is written
  pub left_as_done : (x : A) → 0 ≡ n → x ≡ done → ◌≡◌ {A = Outcome A} (record { number = 0; left = x }) (outcome n done lent)
  unfolding outcome
  left_as_done x e f = rw (eqb_yes n 0 (sym e)) (λ i. record { number = e i; left = f i })

  -- and back: what is left, from an outcome
  module _ (r : ℕ) (x : A) (e : ◌≡◌ {A = Outcome A} (record { number = r; left = x }) (outcome n done lent)) where
    pub outcome_number : r ≡ n
    unfolding outcome
    outcome_number = ap (λ (o : Outcome A). o.number) e

    pub outcome_lent : r ≢ 0 → x ≡ lent
    unfolding outcome
    outcome_lent z = ap (λ (o : Outcome A). o.left) e ∙ rw (eqb_no n 0 (λ y. z (outcome_number ∙ y))) refl

    pub outcome_done : r ≡ 0 → x ≡ done
    unfolding outcome
    outcome_done z = ap (λ (o : Outcome A). o.left) e ∙ rw (eqb_yes n 0 (sym outcome_number ∙ z)) refl
