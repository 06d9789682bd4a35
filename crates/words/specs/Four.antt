-- The number of four bytes.
use Rattle.std.specs.Prelude.{◌≡◌, refl, List, [], ◌∷◌, ℕ, ◌+◌, ◌*◌, get_or, take, drop}
use Rattle.std.proofs.Common.{sym, ◌∙◌, arith, get_or-drop}
use Rattle.model.specs.Bytes.{number_of}

first_four : (t : List ℕ) → number_of (take 4 t) ≡ get_or t 0 0 + 256 * (get_or t 1 0 + 256 * (get_or t 2 0 + 256 * get_or t 3 0))
unfolding number_of
first_four [] = refl
first_four (x ∷ []) = omega arith
first_four (x ∷ y ∷ []) = omega arith
first_four (x ∷ y ∷ z ∷ []) = omega arith
first_four (x ∷ y ∷ z ∷ v ∷ t) = omega arith

pub four-at : (s : List ℕ) (at : ℕ) → get_or s at 0 + 256 * (get_or s (at + 1) 0 + 256 * (get_or s (at + 2) 0 + 256 * get_or s (at + 3) 0)) ≡ number_of (take 4 (drop at s))
four-at s at =
    sym (first_four (drop at s) ∙ rw (get_or-drop at s 0 0, get_or-drop at s 1 0, get_or-drop at s 2 0, get_or-drop at s 3 0) (let e : at + 0 ≡ at = omega arith in rw e refl))
