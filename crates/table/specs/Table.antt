-- Laws of the table check's tests.
use Rattle.std.specs.Prelude.{◌≡◌, refl, ◌≢◌, Bool, true, false, not, ◌&&◌, List, [], ◌∷◌, ℕ, ◌+◌, ◌≤◌, ◌<◌, T, ltb, leb, length, get_or, drop}
use Rattle.std.proofs.Common.{sym, ◌∙◌, subst, add-one, drop_of_length-le, drop-cons}
use Rattle.model.specs.Calls.{test, first_that_applies, within, positions_fit, size_tests, table_fits}
use Rattle.model.specs.Code.{Code, code_of, branch_at, every_below, self_orthogonal}
use Rattle.model.specs.Limits.{SizeLimits, TableLimits}
use Rattle.theory.specs.Answers.{passed_by, refused_first, passed_first, sizes_taken}
use Rattle.theory.specs.Counting.{is_true, is_false}
use Rattle.theory.specs.Profiles.{later_tests}
use Rattle.theory.specs.Tables.{fit_test, every_facts}
use Rattle.limits.specs.Sizes.{shape_tests}

-- within the limits of the sizes, tests 4 and 5 decide
pub sized_answer : (c : Code) → first_that_applies (shape_tests c) ≡ 0
    → first_that_applies (later_tests c) ≡ first_that_applies (test 4 (not (table_fits c)) ∷ test 5 (not (self_orthogonal c)) ∷ [])
sized_answer c e = passed_first (shape_tests c) (test 4 (not (table_fits c)) ∷ test 5 (not (self_orthogonal c)) ∷ []) refl e

pub unsized_answer : (c : Code) → first_that_applies (shape_tests c) ≢ 0 → first_that_applies (later_tests c) ≡ first_that_applies (shape_tests c)
unsized_answer c n = refused_first (shape_tests c) (test 4 (not (table_fits c)) ∷ test 5 (not (self_orthogonal c)) ∷ []) n

-- and so they are within them
pub shape_taken : (c : Code) → first_that_applies (shape_tests c) ≡ 0 → SizeLimits c
unfolding size_tests within
shape_taken c e =
    let z = sizes_taken (code_of 3 c.k c.b c.positions) (passed_by 1 true (shape_tests c) refl ∙ e) in
    record { k_low = z.k_low; k_high = z.k_high; b_low = z.b_low; b_high = z.b_high; data-high = z.data-high; runs = z.runs; J-low = z.J-low; J-high = z.J-high }

-- ---- the positions, the loop's way

pub fit_turn : (k least : ℕ) (ps : List ℕ) (i : ℕ) → i < length ps
    → positions_fit k least (drop i ps) ≡ (ltb (get_or ps i 0) k && (leb least (get_or ps i 0) && positions_fit k (get_or ps i 0 + 1) (drop (i + 1) ps)))
unfolding positions_fit
fit_turn k least ps i h = rw (add-one i, add-one (get_or ps i 0), drop-cons ps i 0)

pub fit_end : (k least : ℕ) (ps : List ℕ) (i : ℕ) → length ps ≤ i → positions_fit k least (drop i ps) ≡ true
unfolding positions_fit
fit_end k least ps i h = rw (drop_of_length-le ps h)

-- ---- all runs

-- a test of each run, the loop's way
pub every_go : (n : ℕ) (f : ℕ → Bool) → every_below n f ≡ true → f n ≡ true → every_below (n + 1) f ≡ true
unfolding every_below
every_go n f e t = rw (add-one n, t, e) refl

pub every_stop : (n : ℕ) (f : ℕ → Bool) (i : ℕ) → i < n → f i ≡ false → every_below n f ≡ false
every_stop n f i h e = is_false (every_below n f) (λ t. subst T e (every_facts n f t i h))

-- what test 4 leaves
pub fitting_limits : (c : Code) → SizeLimits c → table_fits c ≡ true → TableLimits c
fitting_limits c s t = record {
  sizes = s;
  ascending = (λ r h. (fit_test c.k (branch_at c r)).0 (is_true _ (every_facts c.b (λ r. positions_fit c.k 0 (branch_at c r)) (subst T (sym t) tt) r h)));
}
