-- Visits that the zeros at the checks settle: they change nothing, and can be passed over; on bits all others are changes.
use Rattle.std.specs.Prelude.{◌≡◌, ◌↔◌, true, List, ℕ, ◌+◌, ◌<◌, length, get_or}
use Rattle.std.proofs.Common.{ap, sym, ◌∙◌, arith, ltb-true, lt-ltb}
use Rattle.model.specs.Code.{Code, data_count, checks_each, checks_of}
use Rattle.model.specs.Decoder.{is_change}
use Rattle.model.specs.Symbols.{count, symbols_at, Below}
use Rattle.theory.proofs.BitVote.{change_zeros}
use Rattle.theory.specs.Codes.{Usable, code_incidence}
use Rattle.theory.specs.Counting.{count_cons, length_symbols_at}
use Rattle.checks.specs.Estimates.{estimates_at}
use Rattle.zeros.specs.Counts.{zero_counts, zero_counts_at}
use Rattle.open_symbols.specs.Settled.{Settled, Open}
use Rattle.visits.specs.Decisions.{subtract_by_zeros}
use Rattle.visits.specs.Progress.{progress, visit_of, visit_left}
use Rattle.tally.specs.declared.Tally.{Tally}

-- a visit that is settled changes nothing
pub settled_left : (c : Code) → Usable c → (r s d zs : List ℕ) (y : Tally) → zs ≡ zero_counts c s → (t j : ℕ) → j < data_count c → Settled (checks_each c) t d zs j
    → progress r s d y ≡ visit_of c (record { symbol = j; threshold = t }) (progress r s d y)
settled_left c u r s d zs y e t j h few =
    let own : ℕ = get_or d j 0 in
    let es : List ℕ = symbols_at s (checks_of c j) in
    let z : get_or zs j 0 ≡ count 0 es = ap (λ (l : List ℕ). get_or l j 0) e ∙ zero_counts_at c s j h in
    visit_left c (record { symbol = j; threshold = t }) r s d y
    (subtract_by_zeros t (estimates_at c j own s) (omega (arith, z, few, count_cons 0 own es, length_symbols_at s (checks_of c j), (code_incidence c u).size j h)))

-- on bits one that is not settled is a change: the zeros, counted twice, and t are at most J exactly where ones minus zeros is above t
pub open_changes : (c : Code) → Usable c → (s d zs : List ℕ) → zs ≡ zero_counts c s → (t j : ℕ) → j < data_count c → Below 2 (estimates_at c j (get_or d j 0) s)
    → Open (checks_each c) t d zs j ↔ (is_change t (estimates_at c j (get_or d j 0) s) ≡ true)
open_changes c u s d zs e t j h low =
    let es : List ℕ = estimates_at c j (get_or d j 0) s in
    let is : List ℕ = symbols_at s (checks_of c j) in
    let z : get_or zs j 0 ≡ count 0 is = ap (λ (l : List ℕ). get_or l j 0) e ∙ zero_counts_at c s j h in
    let n = count_cons 0 (get_or d j 0) is in
    let len = length_symbols_at s (checks_of c j) in
    let size = (code_incidence c u).size j h in
    let f = change_zeros es low (omega arith) t in (
      λ o. f ∙ lt-ltb (count 0 es + count 0 es + t) (length es) (omega (arith, o, z, n, len, size)),
      λ y. omega (arith, ltb-true (count 0 es + count 0 es + t) (length es) (sym f ∙ y), z, n, len, size),
    )
