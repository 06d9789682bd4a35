-- The zeros of all data symbols, written branch by branch.
use Rattle.std.specs.Prelude.{◌≡◌, refl, List, ℕ, ◌+◌, ◌-◌, ◌<◌, ◌≤◌, length, take, drop}
use Rattle.std.proofs.Common.{ap, sym, ◌∙◌, subst, mul-le-mul_right, arith}
use Rattle.std.proofs.Math.Nat.{add-sub_cancel_left}
use borrow.Rule.Slice.PartMut.{put_mid}
use Rattle.model.specs.Code.{Code, data_count, checks_each, branch_at}
use Rattle.model.specs.Limits.{SizeLimits}
use Rattle.theory.specs.Branches.{Passed, passed_none, next-branch, passed_all}
use Rattle.theory.specs.Counters.{Clear, clear_part}
use Rattle.theory.specs.Parts.{part_length, partly, partly_rest, partly_length, partly_turn, partly_all}
use Rattle.zeros.specs.Counts.{run_zeros, zero_counts, length_zero_counts, zero_counts_part}

-- r branches are written: of a buffer that was zs₀, the zeros of s at the checks of their symbols stand in front
pub record Counting (c : Code) (s zs₀ : List ℕ) (from at r : ℕ) (zs : List ℕ) : Type 0 where
  pub sized : length zs₀ ≡ data_count c
  pub passed : Passed c from at r
  pub written : zs ≡ partly at (zero_counts c s) zs₀

-- before the first branch
pub counting_none : (c : Code) (s zs₀ : List ℕ) → length zs₀ ≡ data_count c → Counting c s zs₀ 0 0 0 zs₀
counting_none c s zs₀ e = record { sized = e; passed = passed_none c; written = refl }

module _ {c : Code} {s zs₀ : List ℕ} {from at r : ℕ} {zs : List ℕ} (l : SizeLimits c) (w : Counting c s zs₀ from at r zs) where
  inside : at ≤ length zs₀
  inside = omega (arith, w.sized, w.passed.data_at, mul-le-mul_right c.k w.passed.within)

  same : length (zero_counts c s) ≡ length zs₀
  same = length_zero_counts c s ∙ sym w.sized

  pub counting_length : length zs ≡ data_count c
  counting_length = ap length w.written ∙ partly_length (zero_counts c s) zs₀ same at inside ∙ w.sized

  -- the part of the next branch: its length, and what it holds still, where the buffer had the zeros of t
  pub counting_part_length : r < c.b → length (take (at + c.k - at) (drop at zs)) ≡ c.k
  counting_part_length h = part_length at c.k zs (omega (arith, counting_length, (next-branch l w.passed (checks_each c) refl h).data_in))

  -- and where it was all zero
  pub counting_part_clear : Clear zs₀ → Clear (take (at + c.k - at) (drop at zs))
  counting_part_clear e =
      subst (λ (z : List ℕ). Clear (take (at + c.k - at) z))
      (sym (ap (λ (z : List ℕ). drop at z) w.written ∙ partly_rest (zero_counts c s) zs₀ same at inside)) (clear_part at (at + c.k - at) zs₀ e)

  pub counting_part : (t : List ℕ) → zs₀ ≡ zero_counts c t → r < c.b → take (at + c.k - at) (drop at zs) ≡ run_zeros c.k (branch_at c r) t
  counting_part t e h =
      ap (λ (z : List ℕ). take (at + c.k - at) (drop at z)) w.written
      ∙ ap (λ (z : List ℕ). take (at + c.k - at) z) (partly_rest (zero_counts c s) zs₀ same at inside)
      ∙ ap (λ (z : List ℕ). take (at + c.k - at) (drop at z)) e
      ∙ ap (λ (n : ℕ). take n (drop at (zero_counts c t))) (add-sub_cancel_left at c.k)
      ∙ zero_counts_part c t r at w.passed.data_at (next-branch l w.passed (checks_each c) refl h).data_in

  -- one branch more
  pub counting_turn : (each : ℕ) → each ≡ checks_each c → r < c.b → (part : List ℕ) → part ≡ run_zeros c.k (branch_at c r) s
      → Counting c s zs₀ (from + each) (at + c.k) (r + 1) (put_mid at (at + c.k - at) zs part)
  counting_turn each e h part p =
      let b = next-branch l w.passed each e h in
      record {
        sized = w.sized;
        passed = b.next;
        written = ap (λ (z : List ℕ). put_mid at (at + c.k - at) z part) w.written
            ∙ partly_turn (zero_counts c s) zs₀ same at c.k part (omega (arith, b.data_in, w.sized)) (p ∙ sym (zero_counts_part c s r at w.passed.data_at b.data_in));
      }

  -- all branches
  pub counting_all : c.b ≤ r → zs ≡ zero_counts c s
  counting_all h = w.written ∙ partly_all (zero_counts c s) zs₀ same at (omega (arith, w.sized, passed_all l w.passed h))
