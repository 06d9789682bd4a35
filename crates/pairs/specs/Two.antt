-- The number of two bytes.
use Rattle.std.specs.Prelude.{◌≡◌, refl, List, [], ◌∷◌, ℕ, ◌+◌, ◌*◌, get_or, take, drop}
use Rattle.std.proofs.Common.{sym, ◌∙◌, arith, get_or-drop}
use Rattle.model.specs.Bytes.{number_of}

first_two : (t : List ℕ) → number_of (take 2 t) ≡ get_or t 0 0 + 256 * get_or t 1 0
unfolding number_of
first_two [] = refl
first_two (x ∷ []) = omega arith
first_two (x ∷ y ∷ t) = omega arith

pub two_at : (s : List ℕ) (at : ℕ) → get_or s at 0 + 256 * get_or s (at + 1) 0 ≡ number_of (take 2 (drop at s))
two_at s at = sym (first_two (drop at s) ∙ rw (get_or-drop at s 0 0, get_or-drop at s 1 0) (let e : at + 0 ≡ at = omega arith in rw e refl))
