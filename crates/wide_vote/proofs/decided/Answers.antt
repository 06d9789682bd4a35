use Rattle.std.proofs.Common.{◌≡◌, List, ℕ, ap, ◌∙◌, arith}
use Rattle.model.specs.Vote.{leader, lead_count, next_count, other_count}
use Rattle.theory.specs.Voting.{next_le_lead}
use Rattle.visits.specs.Decisions.{subtract_by_lead, subtract_behind, subtract_leader}
use Rattle.vote.specs.declared.Commonest.{Commonest}
use Rattle.vote.specs.Leading.{lead_of}
use Rattle.wide_vote.proofs.decided.Goals as goal

-- the count of the leader
lead : (es : List ℕ) (best : Commonest ℕ) → best ≡ lead_of es (leader es) → best.count ≡ lead_count es
unfolding lead_count
lead es best e = ap (λ (l : Commonest ℕ). l.count) e

-- that of the others
next : (es : List ℕ) (best : Commonest ℕ) (n : ℕ) → best ≡ lead_of es (leader es) → n ≡ other_count es best.value es → n ≡ next_count es
unfolding next_count
next es best n e f = f ∙ ap (λ (l : Commonest ℕ). other_count es l.value es) e

pub returns-then-not-may_lead : goal.returns-then-not-may_lead
returns-then-not-may_lead c =
    subtract_by_lead c.args.threshold c.args.es.now (omega (arith, c.may_lead.ensures c.if-not-may_lead.true, c.requires.2))

pub returns-then-best-zeros : goal.returns-then-best-zeros
returns-then-best-zeros c =
    let es = c.args.es.now in
    subtract_by_lead c.args.threshold es (omega (arith, lead es _ c.leader_of-best.ensures, c.requires.2, c.if-best-zeros.true))

pub overflow_sub-best : goal.overflow_sub-best
overflow_sub-best c =
    let es = c.args.es.now in
    let e = c.leader_of-best.ensures in
    omega (arith, next es _ _ e c.next_count-next.ensures, lead es _ e, next_le_lead es)

pub returns-then-best-next : goal.returns-then-best-next
returns-then-best-next c =
    let es = c.args.es.now in
    let e = c.leader_of-best.ensures in
    subtract_behind c.args.threshold es (omega (arith, next es _ _ e c.next_count-next.ensures, lead es _ e, c.if-best-next.true))

pub returns : goal.returns
returns c =
    let es = c.args.es.now in
    let e = c.leader_of-best.ensures in
    ap (λ (l : Commonest ℕ). l.value) e
    ∙ subtract_leader c.args.threshold es (omega (arith, next es _ _ e c.next_count-next.ensures, lead es _ e, c.if-best-next.false))
