-- The opened page: its parts, and its distance, which is the weight of the syndrome.
use Rattle.std.specs.Prelude.{◌≡◌, refl, ℕ, zero, suc, ◌≤◌}
use Rattle.std.proofs.Math.Path.{sym}
use Rattle.std.proofs.Common.{◌∙◌, arith}
use mathlib.Core.List.{List, []}
use Rattle.model.specs.Code.{highest, Code, data_count, page_length, data_of, syndrome}
use Rattle.model.specs.Decoder.{State, state_by, after, opened, distance_to, state_weight}
use Rattle.model.specs.Symbols.{weight, tabulate}
use Rattle.theory.specs.Answers.{Opens}
use Rattle.theory.specs.Codes.{Usable, ByteCode}
use Rattle.theory.specs.Counting.{differ_no}
use Rattle.theory.specs.Decoding.{code_distance}
use Rattle.theory.specs.Steps.{SymbolsBelow}

weight_zeros : (n : ℕ) → weight (tabulate n (λ i. 0)) ≡ 0
unfolding tabulate weight
weight_zeros zero = refl
weight_zeros (suc n) = omega (arith, weight_zeros n, differ_no 0 0 refl)

pub opened-by : (c : Code) (page r s d : List ℕ) → r ≡ data_of c page → s ≡ syndrome c page → d ≡ tabulate (data_count c) (λ i. 0) → state_by r s d ≡ opened c page
unfolding opened
opened-by c page r s d e f g = λ i. record { result = e i; syndrome = f i; difference = g i }

pub opens_bytes : (c : Code) (page : List ℕ) (lent : State) → Opens c page lent → highest c.profile ≤ 256 → ByteCode c
opens_bytes c page lent o h = record { q_low = o.usable.q_low; q_high = omega (arith, o.high); table = o.usable.table }

module _ (c : Code) (page : List ℕ) (u : Usable c) (whole : SymbolsBelow c.q (page_length c) page) where
  pub opened_weight : distance_to c page (opened c page) ≡ state_weight (opened c page)
  unfolding after
  opened_weight = code_distance c u page whole [] tt

  -- D is 0 at first
  pub opened_distance : weight (syndrome c page) ≡ distance_to c page (opened c page)
  unfolding state_weight opened
  opened_distance = sym (opened_weight ∙ omega (arith, weight_zeros (data_count c)))
