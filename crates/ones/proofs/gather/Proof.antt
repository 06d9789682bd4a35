-- `gather`: the bits at the checks from position i on stand in the word; one check more doubles them and adds its own.
use borrow.Author.Rules.{rules}
use Prim.Native.Nat.{◌≤◌}
use native.Mathlib.Omega.{arith}
use Rattle.checks.specs.Checks.{by_position, check_inside}
use Rattle.ones.specs.Words.{FromWord, word_end, word_turn, word_small, word_all}
use Rattle.ones.proofs.gather.Statement.{statement}
use Rattle.ones.proofs.gather.Tie as tie

abbrev invariant-loop : tie.invariant-loop-i
invariant-loop code positions j own s word₀ i₀ word i = FromWord code.k positions j s i word

abbrev decreases-loop : tie.decreases-loop-i
decreases-loop code positions j own s word₀ i₀ word i = i

-- the start, seen from the loop
abbrev start : tie.At-loop-i invariant-loop decreases-loop → tie.Start invariant-loop decreases-loop
start c = c.before.before.before

-- what stands is small
small : (c : tie.At-loop-i invariant-loop decreases-loop) → c.loop-i.word ≤ 8589934591
small c = word_small _ _ _ _ _ _ (start c).requires.0.J-high c.loop-i.invariant

loop-holds : tie.Need-loop-i-init invariant-loop decreases-loop
loop-holds c = word_end _ _ _ _ _ (omega arith)

sub-i : tie.Need-overflow_sub-i invariant-loop decreases-loop
sub-i c = search rules

mul-check-of : tie.Need-offset_bounds-positions-i invariant-loop decreases-loop
mul-check-of c = search rules

shared-slice-read-check-of : tie.Need-bounds-positions-i invariant-loop decreases-loop
shared-slice-read-check-of c = omega (arith, c.before.before.loop-i.invariant.inside)

check-of-requires : tie.Need-check_of-c-requires invariant-loop decreases-loop
check-of-requires c κs =
    let l = c.before.before in
    let p = (start l).requires in
    by_position p.0 _ _ p.1 (omega (arith, l.loop-i.invariant.inside))

add-word : tie.Need-overflow_add-word invariant-loop decreases-loop
add-word c = omega (arith, small c.before.before.before)

shared-slice-read-word : tie.Need-bounds-s-c invariant-loop decreases-loop
shared-slice-read-word c = check_inside (start c.before.before.before.before).requires.0 _ _ c.before.check_of-c.ensures

cast-word : tie.Need-overflow_cast-word invariant-loop decreases-loop
cast-word c = omega (arith, (start c.before.before.before.before).requires.3 c.before.check_of-c.result)

add-word-2 : tie.Need-overflow_add-word-in-loop-i invariant-loop decreases-loop
add-word-2 c = let l = c.before.before.before.before in omega (arith, small l, (start l).requires.3 c.before.check_of-c.result)

loop-less : tie.Need-loop-i-smaller invariant-loop decreases-loop
loop-less c = omega arith

loop-again : tie.Need-loop-i-preserved invariant-loop decreases-loop
loop-again c =
    let l = c.before.before.before.before in
    word_turn _ _ _ _ _ _ _ _ (start l).requires.3 l.loop-i.invariant (omega arith) c.before.check_of-c.ensures

add-result : tie.Need-overflow_add-result invariant-loop decreases-loop
add-result c = omega (arith, small c.before)

add-result-2 : tie.Need-overflow_add-result-2 invariant-loop decreases-loop
add-result-2 c = let l = c.before in omega (arith, small l, (start l).requires.2)

returns : tie.Need-returns invariant-loop decreases-loop
returns c = let l = c.before in word_all _ _ _ _ _ _ _ (start l).requires.2 (omega arith) l.loop-i.invariant

pub gather_spec : {M : Type 1} → statement M
gather_spec =
    tie.close
    (tie.spec
    invariant-loop
    decreases-loop
    loop-holds
    sub-i
    mul-check-of
    shared-slice-read-check-of
    check-of-requires
    add-word
    shared-slice-read-word
    cast-word
    add-word-2
    loop-less
    loop-again
    add-result
    add-result-2
    returns)
