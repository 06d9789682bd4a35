-- The loop of a round: list i starts at i times the length of a list, and its vote is added.
use Rattle.std.specs.Prelude.{◌≡◌, ℕ, ◌+◌, ◌-◌, ◌*◌, ◌/◌, ◌%◌, ◌<◌, ◌≤◌, List, ◌++◌, length, take, drop}
use Rattle.std.proofs.Math.Path.{refl}
use Rattle.std.proofs.Common.{sym, ap, ◌∙◌, mul-le-mul_right, div-mul-le_self, add-one, arith}
use Rattle.std.proofs.lemmas.List.{take_at, drop_at, drop-drop}
use Rattle.std.proofs.Math.Nat.{add-sub_cancel_left}
use Rattle.vote.specs.Leading.{vote_of}
use Rattle.vote.specs.declared.Vote.{Vote}
use Rattle.votes.specs.Checksum.{packed, list_at, sum_of_votes}

module _ (each : ℕ) (lists : List ℕ) (i at : ℕ) (a : at ≡ i * each) where
  -- the part that is lent is within the lists,
  pub part_inside : i < length lists / each → at + each ≤ length lists
  part_inside h = omega (arith, a, mul-le-mul_right each h, div-mul-le_self (length lists) each)

  -- and is list i, whose vote v is added
  pub sum_more : (v : Vote ℕ) → v ≡ vote_of (take (at + each - at) (drop at lists)) → (sum_of_votes each lists i + packed v) % 4294967296 ≡ sum_of_votes each lists (i + 1)
  unfolding sum_of_votes
  sum_more v e = rw (add-one i, e, add-sub_cancel_left at each, a) refl

-- the next part of what is left after i lists is list i
pub list_next : (each : ℕ) (lists : List ℕ) (i : ℕ) (left part rest : List ℕ) → left ≡ drop (i * each) lists → (left ≡ part ++ rest) × (length part ≡ each)
    → (part ≡ list_at each lists i) × (rest ≡ drop ((i + 1) * each) lists)
list_next each lists i left part rest l (f, n) = (
  sym (take_at part rest each n) ∙ ap (take each) (sym f ∙ l),
  sym (drop_at part rest each n) ∙ ap (drop each) (sym f ∙ l) ∙ drop-drop each (i * each) lists ∙ ap (λ (m : ℕ). drop m lists) (omega arith),
)

-- and its vote v is added
pub sum_next : (each : ℕ) (lists : List ℕ) (i : ℕ) (v : Vote ℕ) → v ≡ vote_of (list_at each lists i)
    → (sum_of_votes each lists i + packed v) % 4294967296 ≡ sum_of_votes each lists (i + 1)
unfolding sum_of_votes
sum_next each lists i v e = rw (add-one i, e) refl
