-- Sums, differences and words of bits; proofs/BitVote has the vote on bits.
use Rattle.std.specs.Prelude.{◌≡◌, List, ◌∷◌}
use Rattle.std.proofs.Math.Path.{refl, ap}
use Rattle.std.proofs.Common.{◌∙◌, arith}
use Prim.Native.Nat.{ℕ, zero, suc, ◌+◌, ◌-◌, ◌*◌, ◌<◌}
use Rattle.std.specs.Int.Bits.{bit_xor}
use Rattle.model.specs.Symbols.{add, sub, same}
use Rattle.model.specs.Vote.{gathered}
use Rattle.theory.specs.Explaining.{bits_cons}

-- ---- sums and differences of bits

-- modulo 2 they are the exclusive or
pub add-bits : (a b : ℕ) → a < 2 → b < 2 → add 2 a b ≡ bit_xor a b
unfolding add
add-bits zero zero h l = refl
add-bits zero (suc zero) h l = refl
add-bits (suc zero) zero h l = refl
add-bits (suc zero) (suc zero) h l = refl
add-bits zero (suc (suc b)) h l = absurd (omega arith)
add-bits (suc zero) (suc (suc b)) h l = absurd (omega arith)
add-bits (suc (suc a)) b h l = absurd (omega arith)

pub sub_bits : (a b : ℕ) → a < 2 → b < 2 → sub 2 a b ≡ bit_xor a b
unfolding sub
sub_bits zero zero h l = refl
sub_bits zero (suc zero) h l = refl
sub_bits (suc zero) zero h l = refl
sub_bits (suc zero) (suc zero) h l = refl
sub_bits zero (suc (suc b)) h l = absurd (omega arith)
sub_bits (suc zero) (suc (suc b)) h l = absurd (omega arith)
sub_bits (suc (suc a)) b h l = absurd (omega arith)

-- a change turns a bit over
pub turned_over : (a : ℕ) → a < 2 → sub 2 a 1 ≡ 1 - a
unfolding sub
turned_over zero h = refl
turned_over (suc zero) h = refl
turned_over (suc (suc a)) h = absurd (omega arith)

-- ---- counts of bits

-- a bit is 0 or 1, and nothing else
pub two_values : (e : ℕ) → e < 2 → same 0 e + same 1 e ≡ 1
unfolding same
two_values zero h = refl
two_values (suc zero) h = refl
two_values (suc (suc e)) h = absurd (omega arith)

-- the word, gathered from the last estimate on
one_itself : (e : ℕ) → e < 2 → same e 1 ≡ e
unfolding same
one_itself zero h = refl
one_itself (suc zero) h = refl
one_itself (suc (suc e)) h = absurd (omega arith)

pub gathered_cons : (e : ℕ) (es : List ℕ) → e < 2 → gathered (e ∷ es) ≡ gathered es * 2 + e
gathered_cons e es h = bits_cons e es 1 ∙ ap (λ (n : ℕ). gathered es * 2 + n) (one_itself e h)
