use Rattle.std.proofs.Common.{◌≡◌, ℕ, ◌+◌, sym, ap, ◌∙◌, subst, get_or, set, arith}
use Rattle.vote.specs.Counters.{Counted, counted_none, counted_few, counted_more, counted_within}
use Rattle.wide_vote.specs.Lows.{lows, lows_length, lows_at, lead_low}
use Rattle.wide_vote.proofs.may_lead.Goals as goal

pub loop-e-init : goal.loop-e-init
loop-e-init c = counted_none 256 c.args.bound (lows c.args.es.now)

pub overflow_add-n : goal.overflow_add-n
overflow_add-n c =
    omega (arith, c.requires, counted_few 256 c.args.bound (lows c.args.es.now) c.loop-e.e-index c.loop-e.counters c.loop-e.invariant c.low_byte-low.result)

pub loop-e-preserved : goal.loop-e-preserved
loop-e-preserved c =
    let es = c.args.es.now in
    let i = c.loop-e.e-index in
    let cs = c.loop-e.counters in
    let low : c.low_byte-low.result ≡ get_or (lows es) i 0 = c.low_byte-low.ensures ∙ sym (lows_at es i) in
    subst (λ (e : ℕ). Counted 256 c.args.bound (lows es) (i + 1) (set cs e (get_or cs e 0 + 1))) (sym low)
    (counted_more 256 c.args.bound (lows es) i cs c.loop-e.invariant (omega (arith, lows_length es)) (omega (arith, lows_at es i))
    (omega (arith, c.if-bound-n.false, ap (λ (e : ℕ). get_or cs e 0) low)))

pub returns : goal.returns
returns c _ =
    let es = c.args.es.now in
    lead_low es c.args.bound (counted_within 256 c.args.bound (lows es) c.loop-e.e-index c.loop-e.counters c.loop-e.invariant (omega (arith, lows_length es)))
