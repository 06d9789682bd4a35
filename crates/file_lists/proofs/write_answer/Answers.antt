use Rattle.std.proofs.Common.{◌≡◌, Bool, true, false, List, ℕ, ◌+◌, eqb, leb, length, sym, ◌∙◌, eqb-true, leb-true, leb-false, arith}
use Rattle.std.proofs.lemmas.Bool.{eqb-false}
use Rattle.model.specs.Files.{contents_end, listing, total}
use Rattle.file_lists.specs.Steps.{Agrees, Limits, write_6, write_13, write_14, write_15, write_0}
use Rattle.file_lists.proofs.write_answer.Goals as goal

-- what the tests of 6 tell, of the sum's test and the room's
module _ (ns ts ss bs : List ℕ) (room : ℕ) {s h : Bool} (e : s ≡ eqb (total ss) (length bs)) (sums : s ≡ true)
    (f : h ≡ leb (contents_end (length ns) + length bs) room) where
  summed : total ss ≡ length bs
  summed = eqb-true (total ss) (length bs) (sym e ∙ sums)

  cramped : h ≡ false → Agrees (listing ns ts ss bs) room → ⊥
  cramped k a = let r = leb-false (contents_end (length ns) + length bs) room (sym f ∙ k) in let t = summed in omega (arith, a.room)

  agreed : h ≡ true → length ts ≡ length ns → length ss ≡ length ns → Agrees (listing ns ts ss bs) room
  agreed k a b =
      let t = summed in
      let r = leb-true (contents_end (length ns) + length bs) room (sym f ∙ k) in
      record { tops_agree = a; sizes_agree = b; bodies_agree = t; room = omega arith }

pub returns-then-tops-count : goal.returns-then-tops-count
returns-then-tops-count c = sym (write_6 _ c.args.room (λ g. c.if-tops-count.true g.tops_agree))

pub returns-then-sizes-count : goal.returns-then-sizes-count
returns-then-sizes-count c = sym (write_6 _ c.args.room (λ g. c.if-sizes-count.true g.sizes_agree))

pub returns-then-not-sums_to : goal.returns-then-not-sums_to
returns-then-not-sums_to c =
    sym (write_6 _ c.args.room (λ g. eqb-false (total c.args.sizes.now) (length c.args.bodies.now) (sym c.sums_to.ensures ∙ c.if-not-sums_to.true) g.bodies_agree))

pub returns-then-not-has_room : goal.returns-then-not-has_room
returns-then-not-has_room c =
    sym (write_6 _ c.args.room
    (cramped c.args.numbers.now c.args.tops.now c.args.sizes.now c.args.bodies.now c.args.room c.sums_to.ensures c.if-not-sums_to.false c.has_room.ensures c.if-not-has_room.true))

pub returns-then-count-lt-FEWEST_PAGES : goal.returns-then-count-lt-FEWEST_PAGES
returns-then-count-lt-FEWEST_PAGES c =
    let g = agreed c.args.numbers.now c.args.tops.now c.args.sizes.now c.args.bodies.now c.args.room c.sums_to.ensures c.if-not-sums_to.false c.has_room.ensures c.if-not-has_room.false
    c.if-tops-count.false c.if-sizes-count.false in
    sym (write_13 _ c.args.room g (λ m. omega (arith, m.some)))

pub returns-then-count-gt-MOST_PAGES : goal.returns-then-count-gt-MOST_PAGES
returns-then-count-gt-MOST_PAGES c =
    let g = agreed c.args.numbers.now c.args.tops.now c.args.sizes.now c.args.bodies.now c.args.room c.sums_to.ensures c.if-not-sums_to.false c.has_room.ensures c.if-not-has_room.false
    c.if-tops-count.false c.if-sizes-count.false in
    sym (write_13 _ c.args.room g (λ m. omega (arith, m.few)))

pub returns-then-bodies-gt-MOST_BYTES : goal.returns-then-bodies-gt-MOST_BYTES
returns-then-bodies-gt-MOST_BYTES c =
    let g = agreed c.args.numbers.now c.args.tops.now c.args.sizes.now c.args.bodies.now c.args.room c.sums_to.ensures c.if-not-sums_to.false c.has_room.ensures c.if-not-has_room.false
    c.if-tops-count.false c.if-sizes-count.false in
    sym (write_13 _ c.args.room g (λ m. omega (arith, m.short, g.bodies_agree)))

pub returns-then-end-gt-MOST_BYTES : goal.returns-then-end-gt-MOST_BYTES
returns-then-end-gt-MOST_BYTES c =
    let g = agreed c.args.numbers.now c.args.tops.now c.args.sizes.now c.args.bodies.now c.args.room c.sums_to.ensures c.if-not-sums_to.false c.has_room.ensures c.if-not-has_room.false
    c.if-tops-count.false c.if-sizes-count.false in
    sym (write_13 _ c.args.room g (λ m. omega (arith, m.short, g.bodies_agree)))

pub returns-then-not-lists_fit : goal.returns-then-not-lists_fit
returns-then-not-lists_fit c =
    let g = agreed c.args.numbers.now c.args.tops.now c.args.sizes.now c.args.bodies.now c.args.room c.sums_to.ensures c.if-not-sums_to.false c.has_room.ensures c.if-not-has_room.false
    c.if-tops-count.false c.if-sizes-count.false in
    let m : Limits (listing c.args.numbers.now c.args.tops.now c.args.sizes.now c.args.bodies.now) = record { short = omega (arith, g.bodies_agree); some = omega arith; few = omega arith } in
    sym (write_14 _ c.args.room _ g m (omega (arith, g.bodies_agree)) (sym c.lists_fit.ensures ∙ c.if-not-lists_fit.true))

pub returns-then-not-bodies_fit : goal.returns-then-not-bodies_fit
returns-then-not-bodies_fit c =
    let g = agreed c.args.numbers.now c.args.tops.now c.args.sizes.now c.args.bodies.now c.args.room c.sums_to.ensures c.if-not-sums_to.false c.has_room.ensures c.if-not-has_room.false
    c.if-tops-count.false c.if-sizes-count.false in
    let m : Limits (listing c.args.numbers.now c.args.tops.now c.args.sizes.now c.args.bodies.now) = record { short = omega (arith, g.bodies_agree); some = omega arith; few = omega arith } in
    sym (write_15 _ c.args.room _ g m (omega (arith, g.bodies_agree)) (sym c.lists_fit.ensures ∙ c.if-not-lists_fit.false) (sym c.bodies_fit.ensures ∙ c.if-not-bodies_fit.true))

pub returns : goal.returns
returns c =
    let g = agreed c.args.numbers.now c.args.tops.now c.args.sizes.now c.args.bodies.now c.args.room c.sums_to.ensures c.if-not-sums_to.false c.has_room.ensures c.if-not-has_room.false
    c.if-tops-count.false c.if-sizes-count.false in
    let m : Limits (listing c.args.numbers.now c.args.tops.now c.args.sizes.now c.args.bodies.now) = record { short = omega (arith, g.bodies_agree); some = omega arith; few = omega arith } in
    sym (write_0 _ c.args.room _ g m (omega (arith, g.bodies_agree)) (sym c.lists_fit.ensures ∙ c.if-not-lists_fit.false) (sym c.bodies_fit.ensures ∙ c.if-not-bodies_fit.false))
