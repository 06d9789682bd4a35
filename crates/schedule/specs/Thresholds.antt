-- The thresholds from a place of the list on: the first smaller one, and those run where every pass is idle.
use Rattle.std.specs.Prelude.{◌≡◌, List, ◌∷◌, ℕ, ◌+◌, ◌≤◌, ◌<◌, length, get_or, drop}
use Rattle.std.proofs.Math.Path.{refl}
use Rattle.std.proofs.Common.{ap, sym, ◌∙◌, add-one, drop_of_length-le, drop-cons, lt-ltb, le-ltb}
use Rattle.model.specs.Decoder.{none, first_smaller}
use Rattle.theory.specs.Schedule.{minima, minima_followed}

-- the list from place p on is its threshold and those after it
pub drop_more : (ths : List ℕ) (p : ℕ) → p < length ths → drop p ths ≡ get_or ths p 0 ∷ drop (p + 1) ths
drop_more ths p h = drop-cons ths p 0 h ∙ ap (λ (n : ℕ). get_or ths p 0 ∷ drop n ths) (sym (add-one p))

module _ (t : ℕ) (ths : List ℕ) (p : ℕ) where
  pub smaller_here : p < length ths → get_or ths p 0 < t → drop p ths ≡ first_smaller t (drop p ths)
  unfolding first_smaller
  smaller_here h l = rw (drop_more ths p h) (simp (lt-ltb _ _ l))

  pub smaller_later : p < length ths → t ≤ get_or ths p 0 → first_smaller t (drop (p + 1) ths) ≡ first_smaller t (drop p ths)
  unfolding first_smaller
  smaller_later h l = rw (drop_more ths p h) (simp (le-ltb _ _ l))

  pub smaller_none : length ths ≤ p → drop p ths ≡ first_smaller t (drop p ths)
  unfolding first_smaller
  smaller_none h = rw (drop_of_length-le ths h) refl

-- one pass, and those after it
pub minima_at : (ths : List ℕ) (p : ℕ) → p < length ths → minima none (drop p ths) ≡ get_or ths p 0 ∷ minima none (first_smaller (get_or ths p 0) (drop (p + 1) ths))
minima_at ths p h = ap (minima none) (drop_more ths p h) ∙ minima_followed (get_or ths p 0) (drop (p + 1) ths)

pub minima_end : (ths : List ℕ) (p : ℕ) → length ths ≤ p → length (minima none (drop p ths)) ≡ 0
unfolding minima
minima_end ths p h = rw (drop_of_length-le ths h) refl
