-- `add_rows`: what the rows left at n make of the sums is what all make of them at the start.
use mathlib.Core.Path.{◌≡◌, refl, sym, ap, subst, ◌∙◌}
use mathlib.Core.List.{List}
use Prim.Native.Nat.{ℕ, ◌+◌, ◌≤◌, ◌<◌, ◌-◌}
use native.Mathlib.Numerals.{add-one}
use native.Mathlib.Omega.{arith}
use lib.ListN.{length, get_or, drop}
use Rattle.model.specs.Code.{check_sum_by}
use Rattle.model.specs.Symbols.{add_each}
use Rattle.theory.specs.Steps.{SymbolsBelow}
use Rattle.rows.specs.Rows.{row, each_length}
use Rattle.codeword.specs.Sums.{added, rows_turn, rows_two, rows_end, each_below}
use Rattle.codeword.proofs.add_rows.Statement.{statement}
use Rattle.codeword.proofs.add_rows.Tie as tie

abbrev invariant-loop : tie.invariant-loop-n
invariant-loop q positions «data» sums₀ n₀ sums n =
    (n ≤ length positions)
    × SymbolsBelow q (length «data») sums
    × (added q (check_sum_by (length «data») (drop n positions) «data») sums ≡ added q (check_sum_by (length «data») positions «data») sums₀)

abbrev decreases-loop : tie.decreases-loop-n
decreases-loop q positions «data» sums₀ n₀ sums n = length positions - n

loop-holds : tie.Need-loop-n-init invariant-loop decreases-loop
loop-holds c = let b = c.before.before.before in (omega arith, b.requires.4, refl)

add-loop : tie.Need-overflow_add-n invariant-loop decreases-loop
add-loop c = omega arith

mul-p : tie.Need-offset_bounds-positions-n invariant-loop decreases-loop
mul-p c = omega arith

shared-slice-read-p : tie.Need-bounds-positions-n invariant-loop decreases-loop
shared-slice-read-p c = omega arith

cast-p : tie.Need-overflow_cast-p invariant-loop decreases-loop
cast-p c = omega (arith, c.shared_slice_known-in-loop-n-1.given c.before.before.loop-n.n)

add_r : tie.Need-overflow_add-r invariant-loop decreases-loop
add_r c = omega arith

mul-r : tie.Need-offset_bounds-positions-n-in-loop-n invariant-loop decreases-loop
mul-r c = omega arith

shared-slice-read-r : tie.Need-bounds-positions-n-in-loop-n invariant-loop decreases-loop
shared-slice-read-r c = omega arith

cast-r : tie.Need-overflow_cast-r invariant-loop decreases-loop
cast-r c = omega (arith, c.shared_slice_known-in-loop-n-2-1.given (c.before.before.before.loop-n.n + 1))

add-two-rows-requires : tie.Need-add_two_rows-requires invariant-loop decreases-loop
add-two-rows-requires c κs =
    let i = c.before.before.before.before.loop-n in
    let b = c.before.before.before.before.before.before.before.before in
    let ps : List ℕ = b.args.positions.now in
    let up : get_or ps i.n 0 < get_or ps (i.n + 1) 0 = rw (add-one i.n) (b.requires.2.above i.n (omega arith)) in (
      b.requires.0,
      b.requires.1,
      i.invariant.1.len,
      omega (arith, up),
      omega (arith, up, b.requires.2.below (i.n + 1) (omega arith)),
      i.invariant.1.low,
      b.requires.3,
    )

add-n : tie.Need-overflow_add-n-in-loop-n invariant-loop decreases-loop
add-n c = omega arith

loop-less : tie.Need-loop-n-smaller invariant-loop decreases-loop
loop-less c = omega arith

loop-again : tie.Need-loop-n-preserved invariant-loop decreases-loop
loop-again c =
    let i = c.before.before.before.before.before.before.before.loop-n in
    let b = c.before.before.before.before.before.before.before.before.before.before.before in
    let q : ℕ = b.args.q in
    let ps : List ℕ = b.args.positions.now in
    let u : List ℕ = b.args.«data».now in
    let first : List ℕ = row (get_or ps i.n 0) u in
    let second : List ℕ = row (get_or ps (i.n + 1) 0) u in
    let e = c.before.before.add_two_rows.ensures in (
      omega arith,
      subst (SymbolsBelow q (length u)) (sym e)
          (each_below q (omega (arith, b.requires.0)) (length u) (add_each q i.sums first) second (each_length q i.sums first ∙ i.invariant.1.len)),
      ap (λ (s : List ℕ). added q (check_sum_by (length u) (drop (i.n + 2) ps) u) s) e
          ∙ sym (rows_two q ps u i.sums i.n i.invariant.1.len (omega arith)) ∙ i.invariant.2,
    )

mul-p-2 : tie.Need-offset_bounds-positions-n-then-n-positions invariant-loop decreases-loop
mul-p-2 c = omega arith

shared-slice-read-p-2 : tie.Need-bounds-positions-n-then-n-positions invariant-loop decreases-loop
shared-slice-read-p-2 c = omega arith

cast-p-2 : tie.Need-overflow_cast-p-then-n-positions invariant-loop decreases-loop
cast-p-2 c = omega (arith, c.shared_slice_known-then-n-positions-1.given c.before.before.before.loop-n.n)

add-row-requires : tie.Need-add_row-requires invariant-loop decreases-loop
add-row-requires c κs =
    let i = c.before.before.before.before.loop-n in
    let b = c.before.before.before.before.before.before.before.before in
    (b.requires.0, b.requires.1, i.invariant.1.len, b.requires.2.below i.n (omega arith), i.invariant.1.low, b.requires.3)

same_length : tie.Need-shape_of-sums-then-n-positions invariant-loop decreases-loop
same_length c = omega arith

returns : tie.Need-returns-then-n-positions invariant-loop decreases-loop
returns c =
    let i = c.before.before.before.before.before.before.before.loop-n in
    let b = c.before.before.before.before.before.before.before.before.before.before.before in
    let q : ℕ = b.args.q in
    let ps : List ℕ = b.args.positions.now in
    let u : List ℕ = b.args.«data».now in
    let last : List ℕ = row (get_or ps i.n 0) u in
    c.before.before.add_row.ensures
    ∙ rows_end q ps u (add_each q i.sums last) (i.n + 1) (each_below q (omega (arith, b.requires.0)) (length u) i.sums last i.invariant.1.len) (omega arith)
    ∙ sym (rows_turn q ps u i.sums i.n i.invariant.1.len (omega arith)) ∙ i.invariant.2

same-length-2 : tie.Need-shape_of-sums-else-n-positions invariant-loop decreases-loop
same-length-2 c = omega arith

returns-2 : tie.Need-returns-else-n-positions invariant-loop decreases-loop
returns-2 c =
    let i = c.before.before.loop-n in
    let x = c.before.before.before.before.before.before.args in
    rows_end x.q x.positions.now x.«data».now i.sums i.n i.invariant.1 (omega arith) ∙ i.invariant.2

pub add_rows_spec : {M : Type 1} → statement M
add_rows_spec =
    tie.close
    (tie.spec
    invariant-loop
    decreases-loop
    loop-holds
    add-loop
    mul-p
    shared-slice-read-p
    cast-p
    add_r
    mul-r
    shared-slice-read-r
    cast-r
    add-two-rows-requires
    add-n
    loop-less
    loop-again
    mul-p-2
    shared-slice-read-p-2
    cast-p-2
    add-row-requires
    same_length
    returns
    same-length-2
    returns-2)
