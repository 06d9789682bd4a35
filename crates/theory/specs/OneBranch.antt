-- A code of one branch is the code of document 01.
use Rattle.std.specs.Prelude.{◌≡◌, Bool, not, ◌&&◌, ℕ, zero, ◌%◌, ◌<◌, leb, length, take, drop}
use Rattle.std.proofs.Math.Path.{refl, ap}
use Rattle.std.proofs.Math.Bool.{true, false}
use mathlib.Core.List.{List, [], ◌∷◌, ◌++◌}
use Rattle.std.proofs.Math.Nat.{mod-eq_of_lt, div-eq_of_lt, zero-mul}
use Rattle.std.proofs.Common.{div-one, one-mul, arith, le→leb}
use Rattle.std.proofs.Math.ListN.{get_or}
use Rattle.std.proofs.Math.Seq.{get_or-take, take-length}
use Rattle.model.specs.Calls.{Test, test, first_that_applies, within, positions_fit, branches_fit, runs_fit, table_fits, size_tests, table_tests, table_answer}
use Rattle.model.specs.Code.{Code, code_of, data_count, checks_each, branch_at, checks_by, checks_of, check_sum_by, check_symbol, syndrome, every_below, self_orthogonal, differences_by, differences}
use Rattle.model.specs.Symbols.{choose, sub, sum_of_first, tabulate, join_below}
use Rattle.theory.specs.Answers.{within_facts}
use Rattle.theory.specs.Counting.{is_true, eqb_yes, sum_over_ext}
use Rattle.theory.specs.Distance.{tabulate_ext}
use Rattle.theory.specs.Modulo.{sub_lt}

-- tests 1 to 5 as document 01 has them
abbrev pub first_tests : Code → List Test
first_tests c =
    test 1 (not (within 3 256 c.q))
    ∷ test 2 (not (within 1 4096 c.k))
    ∷ test 3 (not (within 1 32 (length c.positions)))
    ∷ test 4 (not (positions_fit c.k 0 c.positions))
    ∷ test 5 (not (self_orthogonal c))
    ∷ []

module _ (q k : ℕ) (ps : List ℕ) where
  pub run_all : checks_each (code_of q k 1 ps) ≡ length ps
  run_all = div-one (length ps)

  pub branch_all : branch_at (code_of q k 1 ps) 0 ≡ ps
  unfolding branch_at
  branch_all = rw (div-one (length ps), zero-mul (length ps)) (take-length ps)

  pub checks_all : (j : ℕ) → j < k → checks_of (code_of q k 1 ps) j ≡ checks_by k ps j
  unfolding checks_of
  checks_all j h = rw (div-eq_of_lt h, mod-eq_of_lt h, branch_all) refl

  pub check_all : zero < k → (u : List ℕ) (i : ℕ) → check_symbol (code_of q k 1 ps) u i ≡ check_sum_by k ps u i % q
  unfolding check_symbol sum_of_first check_sum_by
  check_all pos u i = rw (zero-mul k, branch_all) (ap (λ (s : ℕ). s % q)
      (let e = sum_over_ext ps (λ p. get_or (take k u) (sub k i p) 0) (λ p. get_or u (sub k i p) 0)
      (λ p. get_or-take k u (sub k i p) 0 (sub_lt k pos i p)) in omega (arith, e)))

  pub data_all : data_count (code_of q k 1 ps) ≡ k
  data_all = one-mul k

  pub syndrome_all : zero < k → (page : List ℕ)
      → syndrome (code_of q k 1 ps) page ≡ tabulate k (λ i. sub q (check_sum_by k ps (take k page) i % q) (get_or (drop k page) i 0))
  unfolding syndrome
  syndrome_all pos page = rw (one-mul k) (tabulate_ext k
      (λ i. sub q (check_symbol (code_of q k 1 ps) (take k page) i) (get_or (drop k page) i 0))
      (λ i. sub q (check_sum_by k ps (take k page) i % q) (get_or (drop k page) i 0))
      (λ i l. ap (λ (v : ℕ). sub q v (get_or (drop k page) i 0)) (check_all pos (take k page) i)))

  pub differences_all : differences (code_of q k 1 ps) ≡ differences_by k ps ps
  unfolding join_below
  differences_all = rw branch_all refl

  runs_all : runs_fit (code_of q k 1 ps) ≡ within 1 32 (length ps)
  runs_all = rw (run_all, one-mul (length ps), eqb_yes (length ps) (length ps) refl) refl

  table_all : table_fits (code_of q k 1 ps) ≡ positions_fit k 0 ps
  unfolding every_below
  table_all = rw branch_all (and_right (positions_fit k 0 ps))
    where
      and_right : (b : Bool) → (b && true) ≡ b
      and_right true = refl
      and_right false = refl

  -- where test 2 does not apply, test 10 does not
  branches_all : within 1 4096 k ≡ true → branches_fit (code_of q k 1 ps) ≡ true
  unfolding within
  branches_all e = rw (one-mul k) (is_true (leb k 4096) (le→leb k 4096 (within_facts 1 4096 k e).1))

  -- the tests of a table, with any that a call has after them
  pub answers_all : (later : List Test) → first_that_applies (table_tests (code_of q k 1 ps) ++ later) ≡ first_that_applies (first_tests (code_of q k 1 ps) ++ later)
  unfolding table_tests size_tests first_that_applies
  answers_all later = rw (runs_all, table_all) (ap (choose (not (within 3 256 q)) 1) (go _ (within 1 4096 k) (branches_fit (code_of q k 1 ps)) branches_all))
    where
      go : (x : ℕ) (w b : Bool) → (w ≡ true → b ≡ true) → choose (not w) 2 (choose (not b) 10 x) ≡ choose (not w) 2 x
      go x true b f = rw (f refl) refl
      go x false b f = refl

  pub answer_all : table_answer (code_of q k 1 ps) ≡ first_that_applies (first_tests (code_of q k 1 ps))
  unfolding table_answer table_tests size_tests
  answer_all = answers_all []
