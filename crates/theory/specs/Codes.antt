-- A code as an incidence of its data symbols and checks: its check symbols, code words and opened states.
use Rattle.std.specs.Prelude.{◌≡◌, ℕ, ◌/◌, ◌%◌, ◌≤◌, ◌<◌, get_or}
use Rattle.std.proofs.Math.Path.{ap}
use mathlib.Core.List.{List, ◌++◌}
use Rattle.std.proofs.Common.{mod-lt, arith}
use Rattle.model.specs.Code.{Profile, byte_pages, bit_pages, wide16, wide32, lowest, Code, data_count, check_count, checks_each, branch_at, checks_of, check_symbol, check_symbols, code_word, data_of, received_checks, syndrome, shared, SelfOrthogonal}
use Rattle.model.specs.Decoder.{opened}
use Rattle.model.specs.Limits.{TableLimits}
use Rattle.model.specs.Symbols.{sub, tabulate}
use Rattle.theory.specs.Branches.{checks_length, branch_low, branch_apart, branch-of, branch_sum}
use Rattle.theory.specs.Circulant.{inside_checks_by, apart_checks_by}
use Rattle.theory.specs.Distance.{tabulate_ext, check_symbols_of, word_of}
use Rattle.theory.specs.Falling.{Incidence}
use Rattle.theory.specs.Page.{opened_by}
use Rattle.theory.specs.Steps.{check_sum}

-- an alphabet has at least two symbols, whatever the profile
pub two_symbols : (p : Profile) → 2 ≤ lowest p
two_symbols byte_pages = omega arith
two_symbols bit_pages = omega arith
two_symbols wide16 = omega arith
two_symbols wide32 = omega arith

-- what the theorems, and the functions below the calls, ask of a code. The limits of q that its profile has stand in the tests alone.
pub record Usable (c : Code) : Type 0 where
  pub q_low : 2 ≤ c.q
  pub table : TableLimits c
  pub orthogonal : SelfOrthogonal c

-- what functions that write check symbols ask of a code whose symbols are bytes
pub record ByteCode (c : Code) : Type 0 where
  pub q_low : 2 ≤ c.q
  pub q_high : c.q ≤ 256
  pub table : TableLimits c

-- the checks of a code are an incidence of its data symbols
pub code_incidence : (c : Code) → Usable c → Incidence c.q (data_count c) (check_count c) (checks_each c) (checks_of c)
unfolding shared checks_of
code_incidence c l =
    let t = l.table in
    let run : ℕ → List ℕ = (λ j. branch_at c (j / c.k)) in
    record {
      pos = omega (arith, l.q_low);
      size = checks_length c t;
      inside = (λ j h. inside_checks_by c.k t.sizes.k_low (run j) (j % c.k));
      apart = (λ j h. apart_checks_by c.k t.sizes.k_low (run j) (branch_low c t (j / c.k) (branch-of c t j h)) (branch_apart c t (j / c.k) (branch-of c t j h)) (j % c.k)
          (mod-lt j t.sizes.k_low));
      cross = l.orthogonal;
    }

module _ (c : Code) (l : TableLimits c) where
  -- a check symbol, by positions, is the sum over the data symbols that have it among their checks
  pub check-symbol : (u : List ℕ) (i : ℕ) → i < check_count c → check_symbol c u i ≡ check_sum (data_count c) (checks_of c) u i % c.q
  unfolding check_symbol
  check-symbol u i h =
      ap (λ (s : ℕ). s % c.q) (branch_sum c l u i h)

  pub check-symbols : (u : List ℕ) → check_symbols c u ≡ check_symbols_of c.q (data_count c) (check_count c) (checks_of c) u
  unfolding check_symbols check_symbols_of
  check-symbols u = tabulate_ext (check_count c) (λ i. check_symbol c u i) (λ i. check_sum (data_count c) (checks_of c) u i % c.q) (check-symbol u)

  pub code-word : (u : List ℕ) → code_word c u ≡ word_of c.q (data_count c) (check_count c) (checks_of c) u
  unfolding code_word word_of
  code-word u = ap (λ (v : List ℕ). u ++ v) (check-symbols u)

  pub code_opened : (page : List ℕ) → opened c page ≡ opened_by c.q (data_count c) (check_count c) (checks_of c) page
  unfolding opened syndrome opened_by
  code_opened page = λ o. record {
    result = data_of c page;
    syndrome = tabulate_ext (check_count c)
        (λ i. sub c.q (check_symbol c (data_of c page) i) (get_or (received_checks c page) i 0))
        (λ i. sub c.q (check_sum (data_count c) (checks_of c) (data_of c page) i % c.q) (get_or (received_checks c page) i 0))
        (λ i h. ap (λ (s : ℕ). sub c.q s (get_or (received_checks c page) i 0)) (check-symbol (data_of c page) i h)) o;
    difference = tabulate (data_count c) (λ i. 0);
  }
