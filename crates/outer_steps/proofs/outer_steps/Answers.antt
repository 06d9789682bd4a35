use Rattle.std.proofs.Common.{◌≡◌, ℕ, ◌+◌, ◌*◌, ◌/◌, ◌≤◌, ap, sym, subst, ◌∙◌, arith, zero-mul, length}
use Rattle.model.specs.Code.{Code, data_count}
use Rattle.model.specs.Decoder.{State, state_by}
use Rattle.model.specs.Symbols.{Below}
use Rattle.params.specs.Codes.{code_by}
use Rattle.theory.specs.Answers.{BlockFits}
use Rattle.visits.specs.Progress.{Ready}
use Rattle.blocks.specs.Blocks.{Doubled, WholeFrom, block_small}
use Rattle.outer_steps.specs.Blocks.{BlockAt, Stepped, stepped_by, steps_to, steps_none, steps_more, steps_ready, steps_fit, blocks_few, block-end, at_block, at_end, at_first, at_next, whole_from, walked}
use Rattle.outer_steps.proofs.outer_steps.Goals as goal

-- what so many blocks leave is ready
ready : (c : Code) (L n : ℕ) (st : State) → Ready c st → (x : Stepped) → x ≡ steps_to c L n st → Ready c x.state
unfolding steps_to
ready c L n st r x e = subst (λ (y : Stepped). Ready c y.state) (sym e) (steps_ready c L n st r)

-- the sums of the blocks of a ready state are asked for from a on
asked : (c : Code) (L bound a : ℕ) → BlockFits c L → (st : State) → Ready c st → Doubled c.q bound → L * c.q ≤ bound → a ≡ a / L * L → a ≤ data_count c
    → (1 ≤ c.q)
    × (c.q ≤ 256)
    × Below c.q st.result
    × (length st.result ≤ 4096)
    × (1 ≤ L)
    × Doubled c.q bound
    × (L * c.q ≤ bound)
    × WholeFrom L (length st.result) a
asked c L bound a f st r d h w l =
    let z = r.sized in (
      omega (arith, r.usable.q_low),
      r.bytes,
      z.in_result,
      omega (arith, z.len_result, r.usable.table.sizes.data-high),
      omega (arith, f.low),
      d,
      h,
      whole_from c L f a (length st.result) w l z.len_result,
    )

zero-whole : (c : Code) (L : ℕ) → BlockFits c L → 0 ≡ 0 / L * L
zero-whole c L f = (let m : 0 ≡ 0 * L = omega (arith, zero-mul L) in m) ∙ ap (λ (n : ℕ). n * L) (sym (at_first c L f))

-- a block in its turn, which starts at `at`; y is what its step leaves
record Turn (c : Code) (L at : ℕ) (st : State) (steps : ℕ) (y : Stepped) : Type 0 where
  next : (at + L) / L ≡ at / L + 1
  whole : at + L ≡ (at + L) / L * L
  high : at + L ≤ data_count c
  left : record { state = y.state; steps = steps + y.steps } ≡ steps_to c L ((at + L) / L) st
  few : steps + y.steps ≤ 4096

turn : (c : Code) (L bound at : ℕ) → (f : BlockFits c L) (st : State) → Ready c st → (b : BlockAt c L bound at) (x y : Stepped) → x ≡ steps_to c L (at / L) st → y ≡ stepped_by c L (at / L) x.state
    → Turn c L at st x.steps y
turn c L bound at f st r b x y e g =
    let n = at_next c L f at b.whole in
    let i = at_block c L f at b.whole b.inside in
    let m : (at / L + 1) * L ≡ at / L * L + L = omega arith in
    let all = steps_more c L (at / L) st x y e g ∙ ap (λ (k : ℕ). steps_to c L k st) (sym n) in
    record {
      next = n;
      whole = (let z : at + L ≡ (at / L + 1) * L = omega (arith, m, b.whole) in z) ∙ ap (λ (k : ℕ). k * L) (sym n);
      high = omega (arith, b.whole, block-end c L f _ i);
      left = all;
      few = omega (arith, steps_fit c L _ st (record { state = y.state; steps = x.steps + y.steps }) all, n, i, blocks_few c L f, r.usable.table.sizes.data-high);
    }

pub data_count-n-requires : goal.data_count-n-requires
data_count-n-requires c = omega (arith, c.requires.0.usable.table.sizes.data-high)

pub bound_of-bound-requires : goal.bound_of-bound-requires
bound_of-bound-requires c =
    let a = c.args in
    let r = c.requires.0 in
    (omega (arith, r.usable.q_low), r.bytes, block_small (code_by a.code a.positions.now) a.block r.usable.table.sizes c.requires.1)

pub first_broken-at-requires : goal.first_broken-at-requires
first_broken-at-requires c =
    let a = c.args in
    let code = code_by a.code a.positions.now in
    let d = c.bound_of-bound.ensures in
    asked code a.block _ 0 c.requires.1 (state_by a.res.now a.syndrome.now a.difference.now) c.requires.0 d.doubled d.high (zero-whole code a.block c.requires.1) (omega arith)

pub loop-at-init : goal.loop-at-init
loop-at-init c =
    let a = c.args in
    let code = code_by a.code a.positions.now in
    let f = c.requires.1 in
    let st : State = state_by a.res.now a.syndrome.now a.difference.now in
    let w = walked code a.block f st (record { state = st; steps = 0 }) 0 _ c.requires.0.sized.len_result (zero-whole code a.block f)
    (steps_none code a.block st ∙ ap (λ (n : ℕ). steps_to code a.block n st) (sym (at_first code a.block f))) c.first_broken-at.ensures in
    record { stepped = w.0; whole = w.1; inside = w.2 }

pub outer_step-steps-requires : goal.outer_step-steps-requires
outer_step-steps-requires c =
    let a = c.args in
    let l = c.loop-at in
    let d = c.bound_of-bound.ensures in
    let b : BlockAt (code_by a.code a.positions.now) a.block c.bound_of-bound.result l.at =
    record { fits = c.requires.1; whole = l.invariant.whole; inside = omega (arith, c.data_count-n.ensures); doubled = d.doubled; high = d.high } in
    (ready _ _ _ _ c.requires.0 _ l.invariant.stepped, b)

pub overflow_add-steps : goal.overflow_add-steps
overflow_add-steps c =
    let a = c.args in
    let l = c.loop-at in
    let d = c.bound_of-bound.ensures in
    let b : BlockAt (code_by a.code a.positions.now) a.block c.bound_of-bound.result l.at =
    record { fits = c.requires.1; whole = l.invariant.whole; inside = omega (arith, c.data_count-n.ensures); doubled = d.doubled; high = d.high } in
    omega (arith, (turn _ _ _ _ c.requires.1 _ c.requires.0 b _ _ l.invariant.stepped c.outer_step-steps.ensures).few)

pub overflow_add-at : goal.overflow_add-at
overflow_add-at c =
    let a = c.args in
    let l = c.loop-at in
    let d = c.bound_of-bound.ensures in
    let b : BlockAt (code_by a.code a.positions.now) a.block c.bound_of-bound.result l.at =
    record { fits = c.requires.1; whole = l.invariant.whole; inside = omega (arith, c.data_count-n.ensures); doubled = d.doubled; high = d.high } in
    omega (arith, (turn _ _ _ _ c.requires.1 _ c.requires.0 b _ _ l.invariant.stepped c.outer_step-steps.ensures).high, c.requires.0.usable.table.sizes.data-high)

pub first_broken-at-requires-in-loop-at : goal.first_broken-at-requires-in-loop-at
first_broken-at-requires-in-loop-at c =
    let a = c.args in
    let l = c.loop-at in
    let d = c.bound_of-bound.ensures in
    let b : BlockAt (code_by a.code a.positions.now) a.block c.bound_of-bound.result l.at =
    record { fits = c.requires.1; whole = l.invariant.whole; inside = omega (arith, c.data_count-n.ensures); doubled = d.doubled; high = d.high } in
    let t = turn _ _ _ _ c.requires.1 _ c.requires.0 b _ _ l.invariant.stepped c.outer_step-steps.ensures in
    asked _ _ _ _ c.requires.1 _ (ready _ _ _ _ c.requires.0 _ t.left) d.doubled d.high t.whole t.high

pub loop-at-smaller : goal.loop-at-smaller
loop-at-smaller c = omega (arith, c.requires.1.low, c.first_broken-at-in-loop-at.ensures.passed)

pub loop-at-preserved : goal.loop-at-preserved
loop-at-preserved c =
    let a = c.args in
    let l = c.loop-at in
    let d = c.bound_of-bound.ensures in
    let b : BlockAt (code_by a.code a.positions.now) a.block c.bound_of-bound.result l.at =
    record { fits = c.requires.1; whole = l.invariant.whole; inside = omega (arith, c.data_count-n.ensures); doubled = d.doubled; high = d.high } in
    let t = turn _ _ _ _ c.requires.1 _ c.requires.0 b _ _ l.invariant.stepped c.outer_step-steps.ensures in
    let w = walked _ _ c.requires.1 _ _ _ _ (ready _ _ _ _ c.requires.0 _ t.left).sized.len_result t.whole t.left c.first_broken-at-in-loop-at.ensures in
    record { stepped = w.0; whole = w.1; inside = w.2 }

pub returns : goal.returns
returns c =
    let a = c.args in
    let l = c.loop-at.invariant in
    let code = code_by a.code a.positions.now in
    l.stepped ∙ ap (λ (n : ℕ). steps_to code a.block n (state_by a.res.now a.syndrome.now a.difference.now))
    (at_end code a.block c.requires.1 c.loop-at.at (omega (arith, l.inside, c.data_count-n.ensures)))
