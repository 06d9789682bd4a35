use Rattle.std.proofs.Common.{ℕ, refl, ap, ◌∙◌}
use Rattle.model.specs.Symbols.{count}
use Rattle.model.specs.Vote.{lead_count, next_count, other_count}
use Rattle.vote.specs.declared.Commonest.{Commonest}
use Rattle.vote.proofs.vote_over.Goals as goal

pub returns : goal.returns
unfolding lead_count next_count
returns g c =
    let es = g.E.Symbol.numbers c.args.es.now in
    let e = c.leader_of-best.ensures in
    let value = ap (λ (l : Commonest ℕ). l.value) e in
    let lead = ap (λ (l : Commonest ℕ). l.count) e in
    let next = c.next_count-next.ensures ∙ ap (λ (h : ℕ). other_count es h es) value in
    let zeros = c.count_equal-zeros.ensures ∙ ap (λ (v : ℕ). count v es) c.counted.ensures in
    rw (value, lead, next, zeros) refl
