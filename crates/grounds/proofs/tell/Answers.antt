-- On bit pages the ground, the numbers and the bits are by the vote that the word of the estimates tells.
use Rattle.std.proofs.Common.{◌≡◌, List, ℕ, ◌-◌, ◌^◌, ◌≤◌, eqb, length, refl, ap, ◌∙◌, arith}
use Rattle.model.specs.Symbols.{choose, Below}
use Rattle.model.specs.Vote.{ground_of, equal_bits}
use Rattle.theory.specs.Voting.{next_le_lead}
use Rattle.vote.specs.declared.Vote.{Vote}
use Rattle.ones.specs.Words.{InWord, in_word, word_votes, word_equal}
use Rattle.grounds.proofs.tell.Goals as goal

-- the word of the estimates that are 1 holds them all
word : (es : List ℕ) {w : ℕ} → Below 2 es → 2 ≤ length es → length es ≤ 33 → w ≡ equal_bits es 1 → InWord es (length es) w
word es low few many e = in_word es low (omega arith) many _ _ refl e

pub vote_in-v-requires : goal.vote_in-v-requires
vote_in-v-requires c =
    let w = word c.args.es.now (c.requires.2 c.if-bits.true) c.requires.0 c.requires.1 c.bits_of-word.ensures in
    (w.few, w.set)

pub equal_in-requires : goal.equal_in-requires
equal_in-requires c =
    let w = word c.args.es.now (c.requires.2 c.if-bits.true) c.requires.0 c.requires.1 c.bits_of-word.ensures in
    (w.few, w.room)

pub told_by-requires : goal.told_by-requires
told_by-requires c =
    let es = c.args.es.now in
    let e = c.vote_in-v.ensures ∙ word_votes (word es (c.requires.2 c.if-bits.true) c.requires.0 c.requires.1 c.bits_of-word.ensures) in
    omega (arith, ap (λ (x : Vote ℕ). x.lead) e, ap (λ (x : Vote ℕ). x.next) e, next_le_lead es)

pub returns-then-bits : goal.returns-then-bits
unfolding ground_of
returns-then-bits c =
    let es = c.args.es.now in
    let w = word es (c.requires.2 c.if-bits.true) c.requires.0 c.requires.1 c.bits_of-word.ensures in
    let n : ℕ = c.bits_of-word.result in
    let e = c.vote_in-v.ensures ∙ word_votes w in
    let bits = c.equal_in.ensures ∙ ap (λ (x : Vote ℕ). choose (eqb x.leader 1) n (2 ^ length es - 1 - n)) e ∙ word_equal w in
    rw (c.told_by.ensures, bits, e) refl
