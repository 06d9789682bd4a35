-- Marks: a byte for each symbol, 0 where it is 0 and else 1. The zeros at the checks are those of the marks, and they depend on no q.
use Rattle.std.specs.Prelude.{◌≡◌, refl, List, [], ◌∷◌, ℕ, ◌≤◌, ◌<◌, length, get_or, set}
use Rattle.std.proofs.Common.{sym, ap, ◌∙◌, arith, length-set, get_or-set_same, get_or-set_other, ext_get_or}
use Rattle.std.proofs.Math.Decide.{ℕ_discrete, dec_lt}
use Rattle.std.proofs.Math.ListN.{get_or-eq_default}
use Rattle.model.specs.Code.{Profile, code_in, data_count, branch_at, checks_of, shared}
use Rattle.model.specs.Limits.{TableLimits}
use Rattle.model.specs.Symbols.{same, differ, count, tabulate, symbols_at}
use Rattle.theory.specs.Codes.{Usable}
use Rattle.theory.specs.Counting.{same_no, differ_yes, differ_no}
use Rattle.theory.specs.Distance.{length_tabulate, get_d_tabulate, tabulate_ext}
use Rattle.checks.specs.Places.{AtTable}
use Rattle.zeros.specs.Counts.{zero_counts}

unfoldable pub marks_of : List ℕ → List ℕ
marks_of s = tabulate (length s) (λ i. differ (get_or s i 0) 0)

pub marks_length : (s : List ℕ) → length (marks_of s) ≡ length s
unfolding marks_of
marks_length s = length_tabulate (length s) _

mark_at : (s : List ℕ) (i : ℕ) → i < length s → get_or (marks_of s) i 0 ≡ differ (get_or s i 0) 0
unfolding marks_of
mark_at s i h = get_d_tabulate (length s) _ i h

-- a mark is 0 where its symbol is
mark_same : (x : ℕ) → same 0 (differ x 0) ≡ same 0 x
mark_same x = elim (ℕ_discrete x 0) as (λ o. same 0 (differ x 0) ≡ same 0 x) [
  | yes e ↦ rw (differ_no x 0 e, e) refl
  | no n ↦ rw (differ_yes x 0 n, same_no 0 x (λ e. n (sym e))) (same_no 0 1 (omega arith))
]

-- so too the zeros of marks are those of their symbols
pub mark_zero : (s : List ℕ) (i : ℕ) → same 0 (get_or (marks_of s) i 0) ≡ same 0 (get_or s i 0)
mark_zero s i = elim (dec_lt i (length s)) as (λ o. same 0 (get_or (marks_of s) i 0) ≡ same 0 (get_or s i 0)) [
  | yes h ↦ ap (same 0) (mark_at s i h) ∙ mark_same (get_or s i 0)
  | no h ↦ ap (same 0) (get_or-eq_default (marks_of s) 0 {n = i} (omega (arith, marks_length s)) ∙ sym (get_or-eq_default s 0 {n = i} (omega arith)))
]

zeros_marked : (s is : List ℕ) → count 0 (symbols_at (marks_of s) is) ≡ count 0 (symbols_at s is)
unfolding symbols_at count
zeros_marked s [] = refl
zeros_marked s (i ∷ is) = omega (arith, mark_zero s i, zeros_marked s is)

-- the marks once v stands at place c
pub marks_set : (s : List ℕ) (c v : ℕ) → c < length s → set (marks_of s) c (differ v 0) ≡ marks_of (set s c v)
marks_set s c v h =
    let l : length (set (marks_of s) c (differ v 0)) ≡ length s = length-set (marks_of s) c (differ v 0) ∙ marks_length s in
    ext_get_or 0 _ _ (l ∙ sym (marks_length (set s c v) ∙ length-set s c v)) (λ i b.
    let w : i < length s = omega (arith, l) in
    let z : get_or (set (marks_of s) c (differ v 0)) i 0 ≡ differ (get_or (set s c v) i 0) 0 =
    elim (ℕ_discrete i c) as (λ o. get_or (set (marks_of s) c (differ v 0)) i 0 ≡ differ (get_or (set s c v) i 0) 0) [
      | yes e ↦ rw (e, get_or-set_same (marks_of s) c (differ v 0) 0 (omega (arith, marks_length s)), get_or-set_same s c v 0 h) refl
      | no n ↦ rw (get_or-set_other (marks_of s) c i (differ v 0) 0 n, get_or-set_other s c i v 0 n) (mark_at s i w)
    ] in
    z ∙ sym (mark_at (set s c v) i (omega (arith, length-set s c v))))

-- ---- the same table with another q and profile

module _ {f g : Profile} {q k b : ℕ} {ps : List ℕ} where
  pub table_any : (p : ℕ) → TableLimits (code_in f q k b ps) → TableLimits (code_in g p k b ps)
  unfolding branch_at
  table_any p t =
      let z = t.sizes in
      record {
        sizes = record { k_low = z.k_low; k_high = z.k_high; b_low = z.b_low; b_high = z.b_high; data-high = z.data-high; runs = z.runs; J-low = z.J-low; J-high = z.J-high };
        ascending = t.ascending;
      }

  -- a code that is usable with one q is with every other from 2 on, as the checks depend on none
  pub usable_any : (p : ℕ) → 2 ≤ p → Usable (code_in f q k b ps) → Usable (code_in g p k b ps)
  unfolding shared checks_of branch_at
  usable_any p h u = record { q_low = h; table = table_any p u.table; orthogonal = u.orthogonal }

  pub marks_at_table : (p : ℕ) {s m : List ℕ} → AtTable (code_in f q k b ps) s → m ≡ marks_of s → AtTable (code_in g p k b ps) m
  marks_at_table p {s} {m} t e = record { table = table_any p t.table; len = ap length e ∙ marks_length s ∙ t.len }

-- the zeros, by the marks and by the symbols
pub marks_zeros : (f g : Profile) (q p k b : ℕ) (ps s m : List ℕ) → m ≡ marks_of s → zero_counts (code_in g p k b ps) m ≡ zero_counts (code_in f q k b ps) s
unfolding zero_counts checks_of branch_at
marks_zeros f g q p k b ps s m e =
    ap (zero_counts (code_in g p k b ps)) e ∙ tabulate_ext (data_count (code_in f q k b ps)) _ _ (λ j h. zeros_marked s (checks_of (code_in f q k b ps) j))
