-- The test of the lengths of the result, S and D, by the numbers of symbols and of data symbols that are counted.
use Rattle.std.specs.Prelude.{◌≡◌, refl, Bool, ◌&&◌, ℕ, eqb}

pub state_counted : (others : Bool) (k n m : ℕ) → n ≡ m → (r s d u v w : ℕ) → r ≡ u → s ≡ v → d ≡ w
    → (others && (eqb r n && (eqb s k && eqb d n))) ≡ (others && (eqb u m && (eqb v k && eqb w m)))
state_counted others k n m e r s d u v w f g h = rw (e, f, g, h) refl
