use Rattle.std.proofs.Common.{◌≡◌, ℕ, ◌+◌, ◌-◌, ◌%◌, ◌<◌, ◌≤◌, List, length, get_or, take, drop, ap, sym, ◌∙◌, add-one, arith, refl, length-take, length-drop, mod-eq_of_lt, get_or-take, get_or-drop}
use Rattle.model.specs.Limits.{Ascending}
use Rattle.quick_tests.specs.Counting.{turned_at, above_none, counted_own, few_at, more-at, above_at, within_at}
use Rattle.quick_tests.proofs.lead_above.Goals as goal
use Rattle.quick_tests.proofs.lead_above.Goals.{else-loop-i-test, then-loop-i-test+then-p-room}

-- a position of the second loop, number n of those from b on: it is room or more, and its check is past the turn
late : (b : ℕ) {k j n : ℕ} {ps : List ℕ} → Ascending k ps → j < k → n < length (take (length ps - b) (drop b ps))
    → (b + n < length ps → k - j ≤ get_or ps (b + n) 0)
    → let p = get_or (take (length ps - b) (drop b ps)) n 0 in (b + n < length ps) × (k - j ≤ p) × (p - (k - j) ≡ (j + get_or ps (b + n) 0) % k) × (p < k)
late b {k} {j} {n} {ps} f h l m =
    let i : b + n < length ps = omega (arith, length-take (length ps - b) (drop b ps), length-drop b ps) in
    let e : get_or (take (length ps - b) (drop b ps)) n 0 ≡ get_or ps (b + n) 0 =
    get_or-take (length ps - b) (drop b ps) n 0 (omega (arith, length-drop b ps)) ∙ get_or-drop b ps n 0 in
    let z : j + (k - j) ≡ k = omega arith in
    rw e (i, m i, turned_at j (get_or ps (b + n) 0) (k - j) (m i) (omega (arith, f.below (b + n) i)) ∙ ap (λ (x : ℕ). (j + get_or ps (b + n) 0) % x) z, f.below (b + n) i)

pub returns-then-bound-eq0 : goal.returns-then-bound-eq0
returns-then-bound-eq0 c =
    let a = c.args in
    above_none a.code.k a.positions.now a.j a.own a.s.now a.bound (omega arith)

pub loop-i-init : goal.loop-i-init
loop-i-init c =
    let a = c.args in
    (refl, counted_own a.code.k a.positions.now a.j a.own a.s.now a.bound (omega arith) (omega arith))

pub overflow_add-c : goal.overflow_add-c
overflow_add-c c =
    let a = c.args in
    omega (arith, c.requires.0.J-high, few_at a.code.k a.positions.now a.j a.own a.s.now a.bound c.loop-i.i c.loop-i.counters c.loop-i.invariant.1)

pub returns-then-bound-c : goal.returns-then-bound-c
returns-then-bound-c c =
    let a = c.args in
    above_at a.code.k a.positions.now a.j a.own a.s.now a.bound c.loop-i.i c.loop-i.counters c.loop-i.invariant.1
    _ (omega arith) (sym (mod-eq_of_lt (omega arith))) (omega arith)

pub loop-i-preserved : goal.loop-i-preserved
loop-i-preserved c =
    let a = c.args in (
      c.loop-i.invariant.0,
      more-at a.code.k a.positions.now a.j a.own a.s.now a.bound c.loop-i.i c.loop-i.counters c.loop-i.invariant.1
          (a.j + get_or a.positions.now c.loop-i.i 0) (omega arith) (sym (mod-eq_of_lt (omega arith))) (omega (arith, c.type_inv.s (a.j + get_or a.positions.now c.loop-i.i 0))) (omega arith),
    )

pub loop-p-init : goal.loop-p-init
loop-p-init c =
    let l = c.loop-i.invariant in
    elim c.loop-i-test.branch [
      | else-loop-i-test w ↦ let e : c.loop-i-test.straight + 0 ≡ c.loop-i.i = omega arith in rw e (l.1, λ h. absurd (omega arith))
      | then-loop-i-test+then-p-room w ↦ let e : c.loop-i-test.straight + 0 ≡ c.loop-i.i = omega arith in rw e (l.1, λ h. w.if-p-room.true)
    ]

pub overflow_sub-e : goal.overflow_sub-e
overflow_sub-e c = (late c.loop-i-test.straight c.requires.0.ascending c.requires.1 c.loop-p-test.true c.loop-p.invariant.1).1

pub overflow_add-c-in-loop-p : goal.overflow_add-c-in-loop-p
overflow_add-c-in-loop-p c =
    let a = c.args in
    let n = c.loop-i-test.straight + c.loop-p.p-index in
    let f = late c.loop-i-test.straight c.requires.0.ascending c.requires.1 c.loop-p-test.true c.loop-p.invariant.1 in
    omega (arith, c.requires.0.J-high, f.0, few_at a.code.k a.positions.now a.j a.own a.s.now a.bound n c.loop-p.counters c.loop-p.invariant.0)

pub returns-then-bound-c-2 : goal.returns-then-bound-c-2
returns-then-bound-c-2 c =
    let a = c.args in
    let n = c.loop-i-test.straight + c.loop-p.p-index in
    let f = late c.loop-i-test.straight c.requires.0.ascending c.requires.1 c.loop-p-test.true c.loop-p.invariant.1 in
    above_at a.code.k a.positions.now a.j a.own a.s.now a.bound n c.loop-p.counters c.loop-p.invariant.0 _ f.0 f.2 c.if-bound-c-2.true

pub loop-p-preserved : goal.loop-p-preserved
loop-p-preserved c =
    let a = c.args in
    let n = c.loop-i-test.straight + c.loop-p.p-index in
    let f = late c.loop-i-test.straight c.requires.0.ascending c.requires.1 c.loop-p-test.true c.loop-p.invariant.1 in
    let e : n + 1 ≡ c.loop-i-test.straight + (c.loop-p.p-index + 1) = omega arith in (
      rw (← e) (more-at a.code.k a.positions.now a.j a.own a.s.now a.bound n c.loop-p.counters c.loop-p.invariant.0 _ f.0 f.2 (omega arith) (omega arith)),
      λ h. rw (sym e, add-one n) (omega (arith, c.loop-p.invariant.1 f.0, c.requires.0.ascending.above n (omega (arith, h)))),
    )

pub returns : goal.returns
returns c =
    let a = c.args in
    within_at a.code.k a.positions.now a.j a.own a.s.now a.bound _ c.loop-p.counters c.loop-p.invariant.0 (omega arith)
