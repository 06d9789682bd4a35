-- Symbol j of a branch, at a place of the branch or after it.
use Rattle.std.specs.Prelude.{◌≡◌, refl, List, ℕ, ◌≤◌, ◌<◌, length}
use Rattle.std.proofs.Common.{ap, ◌∙◌, arith}
use Rattle.model.specs.Code.{Code, data_count}
use Rattle.checks.specs.Places.{AtTable, AtBranch, InBranch, branch_next, onward_place, in_onward, Placed, in_placed, in_later, Found, found}
use Rattle.checks.specs.declared.Place.{Place}
use Rattle.zeros.specs.Counts.{zero_counts, length_zero_counts}

abbrev pub at_symbol : Place → ℕ → Place
at_symbol p j = record { symbol = j; start = p.start; end = p.end; first = p.first; last = p.last }

module _ {c : Code} {s : List ℕ} (t : AtTable c s) {o p : Place} (w : InBranch c o p) (j : ℕ) (low : p.symbol ≤ j) (high : j < p.end) where
  pub placed : Placed c (at_symbol p j)
  placed = in_placed t.table (in_later t.table w (at_symbol p j) refl low (omega arith)) high

  pub place : Found c s (at_symbol p j)
  place = found t placed

  -- it has zeros
  pub zeros_in : (zs : List ℕ) → zs ≡ zero_counts c s → j < length zs
  zeros_in zs z = omega (arith, placed.inside, ap length z, length_zero_counts c s)

-- the branch of a place that is the first of one, and the next: its symbols are passed
module _ {c : Code} {s : List ℕ} (t : AtTable c s) {p : Place} (b : AtBranch c p) (h : p.symbol < data_count c) where
  pub own : InBranch c p p
  own = branch_next t.table b h

  pub passed : (q r : Place) → q ≡ at_symbol p p.end → r ≡ onward_place c.k q → AtBranch c r × (r.symbol ≡ p.end)
  passed q r e f =
      let g : r ≡ onward_place c.k (at_symbol p p.end) = f ∙ ap (onward_place c.k) e in
      (in_onward t.table (in_later t.table own (at_symbol p p.end) refl own.high (omega arith)) (omega arith) r g, ap (λ (x : Place). x.symbol) g)
