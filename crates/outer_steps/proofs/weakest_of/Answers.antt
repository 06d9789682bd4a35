use Rattle.std.proofs.Common.{◌≡◌, ℕ, ◌+◌, ◌-◌, sym, ap, subst, ◌∙◌, arith}
use mir.Syntax.{w32}
use mir.Val.{to_z}
use lib.IntN.{ℤ}
use Rattle.model.specs.Decoder.{state_by, estimates}
use Rattle.model.specs.Outer.{reliability_of, least_below}
use Rattle.params.specs.Codes.{code_by}
use Rattle.margins.specs.Margins.{read_back}
use Rattle.outer_steps.specs.Weakest.{LeastTo, least_first, least_less, least_same}
use Rattle.outer_steps.proofs.weakest_of.Goals as goal
use Rattle.outer_steps.proofs.weakest_of.Goals.{then-r-least, else-r-least}

pub loop-j-init : goal.loop-j-init
unfolding estimates
loop-j-init c =
    let a = c.args in
    least_first (reliability_of (code_by a.code a.positions.now) a.e (state_by a.d.now a.s.now a.d.now)) a.first a.last _ c.requires.2
    (read_back _ c.reliability_at-least.type_inv ∙ c.reliability_at-least.ensures)

pub loop-j-preserved : goal.loop-j-preserved
unfolding estimates
loop-j-preserved c =
    let a = c.args in
    let r = reliability_of (code_by a.code a.positions.now) a.e (state_by a.d.now a.s.now a.d.now) in
    let l = c.loop-j in
    let v = read_back _ c.reliability_at-r.type_inv ∙ c.reliability_at-r.ensures in
    elim c.if-r-least.branch [
      | then-r-least w ↦ subst (λ (n : ℕ). LeastTo r a.first a.last (l.j + 1) n (to_z w32 c.if-r-least.least-bits)) (sym w.best-is)
          (subst (λ (m : ℤ). LeastTo r a.first a.last (l.j + 1) l.j m) (sym w.least-is)
          (least_less r a.first a.last l.j l.best _ _ l.invariant c.loop-j-test.true v w.if-r-least.true))
      | else-r-least w ↦ subst (λ (n : ℕ). LeastTo r a.first a.last (l.j + 1) n (to_z w32 c.if-r-least.least-bits)) (sym w.best-is)
          (subst (λ (m : ℤ). LeastTo r a.first a.last (l.j + 1) l.best m) (sym w.least-is)
          (least_same r a.first a.last l.j l.best _ _ l.invariant c.loop-j-test.true v w.if-r-least.false))
    ]

pub returns : goal.returns
unfolding estimates
returns c u =
    let l = c.loop-j.invariant in
    let a = c.args in
    l.place ∙ ap (λ (n : ℕ). a.first + least_below (n - a.first) (λ p. reliability_of (code_by a.code a.positions.now) a.e (state_by a.d.now a.s.now a.d.now) (a.first + p)))
    (let z : c.loop-j.j ≡ a.last = omega (arith, l.high) in z)
