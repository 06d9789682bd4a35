-- Margins by the marks of D, which say of each symbol whether it is 0: the zeros by the marks are those by D.
use Rattle.std.specs.Prelude.{◌≡◌, List, map, ℕ, ◌+◌, length, get_or}
use Rattle.std.proofs.Common.{ap, subst, ◌∙◌}
use Rattle.model.specs.Bytes.{margin_bytes}
use Rattle.model.specs.Code.{Code, data_count, checks_each}
use Rattle.model.specs.Limits.{TableLimits}
use Rattle.model.specs.Symbols.{tabulate}
use Rattle.zeros.specs.Counts.{zero_counts}
use Rattle.firm_symbols.specs.Phases.{zeros_at, by_zeros, zeros_margin, PastFirm}
use Rattle.margin_bytes.specs.Phases.{HeldBytes, bytes_first}
use Rattle.wide.specs.Marks.{marks_of, marks_length, mark_zero}

module _ (zs d m : List ℕ) (e : m ≡ marks_of d) where
  zeros_marked : zeros_at zs m ≡ zeros_at zs d
  zeros_marked = ap (λ (l : List ℕ). zeros_at zs l) e ∙ (λ o i. get_or zs i 0 + mark_zero d i o)

  pub length_marked : length m ≡ length d
  length_marked = ap length e ∙ marks_length d

  -- firm symbols that are passed over
  pub past_marked : {bound a b r : ℕ} → PastFirm bound (zeros_at zs m) a b r → PastFirm bound (zeros_at zs d) a b r
  past_marked {bound} {a} {b} {r} p = subst (λ (n : ℕ → ℕ). PastFirm bound n a b r) zeros_marked p

  -- after the first phase
  pub first_marked : {c : Code} → TableLimits c → (s out : List ℕ) → zs ≡ zero_counts c s → length d ≡ data_count c → (J : ℕ) → J ≡ checks_each c
      → out ≡ margin_bytes (map (zeros_margin J zs m) (tabulate (length m) (λ i. i))) → HeldBytes c zs s d out 0
  first_marked t s out z l J f g =
      bytes_first t s d zs out z l J f (g ∙ (λ o. margin_bytes (map (λ i. by_zeros J (zeros_marked o i)) (tabulate (length_marked o) (λ i. i)))))
