use Rattle.std.proofs.Common.{ℕ, refl, ap, ◌∙◌, arith}
use Rattle.model.specs.Vote.{ground_of, equal_bits}
use Rattle.theory.specs.Voting.{next_le_lead}
use Rattle.vote.specs.declared.Vote.{Vote}
use Rattle.grounds.proofs.tell_pairs.Goals as goal

pub told_by-requires : goal.told_by-requires
told_by-requires g c =
    let e = c.vote_over-v.ensures in
    omega (arith, ap (λ (x : Vote ℕ). x.lead) e, ap (λ (x : Vote ℕ). x.next) e, next_le_lead (g.E.Symbol.numbers c.args.es.now))

pub returns : goal.returns
unfolding ground_of
returns g c =
    let e = c.vote_over-v.ensures in
    let es = g.E.Symbol.numbers c.args.es.now in
    let bits = c.bits_of.ensures ∙ ap (λ (x : Vote ℕ). equal_bits es x.leader) e in
    let leader = ap (λ (x : Vote ℕ). x.leader) e in
    let lead = ap (λ (x : Vote ℕ). x.lead) e in
    let next = ap (λ (x : Vote ℕ). x.next) e in
    rw (c.told_by.ensures, bits, leader, lead, next) refl
