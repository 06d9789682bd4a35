use Rattle.std.proofs.Common.{◌≡◌, ◌<◌, ◌++◌, ℕ, ◌+◌, ◌-◌, ◌%◌, List, length, get_or, take, drop, ap, sym, ◌∙◌, subst, arith, length-drop, take_at, drop_at, drop-drop}
use Rattle.std.proofs.Math.Nat.{mod-lt}
use Rattle.model.specs.Symbols.{sum_of_first}
use Rattle.params.specs.Codes.{code_by}
use Rattle.outer_page.specs.OuterChecks.{checked_none, checked-inside, checked-turn, checked_all}
use Rattle.blocks.specs.Blocks.{block_small}
use Rattle.blocks.specs.Blocks.{part_summed}
use Rattle.outer_page.proofs.write_outer_checks.Goals as goal

-- the next block of w symbols, of those from j on, and what is left
next : (w j : ℕ) (ds part left : List ℕ) {rest : List ℕ} → rest ≡ drop j ds → rest ≡ part ++ left → length part ≡ w
    → (left ≡ drop (j + w) ds) × (part ≡ take (j + w - j) (drop j ds))
next w j ds part left r b n = (
  sym (drop_at part left w n) ∙ ap (drop w) (sym b ∙ r) ∙ drop-drop w j ds,
  sym (take_at part left w n) ∙ ap (take w) (sym b ∙ r) ∙ ap (λ (x : ℕ). take x (drop j ds)) (let z : w ≡ j + w - j = omega arith in z),
)

pub loop-part-init : goal.loop-part-init
loop-part-init c =
    let q = c.requires in
    let e : c.into_iter-part-iterator.result.rest.now ≡ c.args.«data».now = cc in
    let f : c.into_iter-part-iterator.result.size ≡ c.args.block = cc in
    (checked_none _ (omega (arith, q.0.q_low)) c.args.block q.2 c.args.«data».now q.3 c.args.page.now q.4, e, f)

pub sum_of-sum-requires : goal.sum_of-sum-requires
sum_of-sum-requires c =
    let a = c.args in
    let q = c.requires in
    let l = c.loop-part.invariant in
    let s = c.in-Some.ensures.steps in
    let pos : 0 < a.code.q = omega (arith, q.0.q_low) in
    let h : c.loop-part.at < length a.«data».now = omega (arith, s.1.2, ap length l.1, length-drop c.loop-part.at a.«data».now) in
    let i = checked-inside (code_by a.code a.positions.now) pos a.block q.2 a.«data».now q.3 l.0 h in
    let m : length c.in-Some.part.now ≡ a.block = omega (arith, s.1.1, l.2, ap length l.1, length-drop c.loop-part.at a.«data».now, i, q.3.len) in
    let p = next a.block c.loop-part.at a.«data».now _ _ l.1 s.1.0 m in
    rw p.1 (part_summed a.code.q a.block c.loop-part.at c.bound_of-bound.result a.«data».now pos q.1 q.3.low
    (omega (arith, i, q.3.len)) (block_small _ a.block q.0.table.sizes q.2) c.bound_of-bound.ensures.doubled c.bound_of-bound.ensures.high)

pub overflow_add-at : goal.overflow_add-at
overflow_add-at c =
    let a = c.args in
    let q = c.requires in
    let l = c.loop-part.invariant in
    let s = c.in-Some.ensures.steps in
    let h : c.loop-part.at < length a.«data».now = omega (arith, s.1.2, ap length l.1, length-drop c.loop-part.at a.«data».now) in
    omega (arith, checked-inside (code_by a.code a.positions.now) (omega (arith, q.0.q_low)) a.block q.2 a.«data».now q.3 l.0 h, q.0.table.sizes.data-high)

pub subtract_symbol-requires : goal.subtract_symbol-requires
subtract_symbol-requires c =
    let a = c.args in
    let q = c.requires in
    let l = c.loop-part.invariant in
    let s = c.in-Some.ensures.steps in
    let pos : 0 < a.code.q = omega (arith, q.0.q_low) in
    let h : c.loop-part.at < length a.«data».now = omega (arith, s.1.2, ap length l.1, length-drop c.loop-part.at a.«data».now) in (
      q.0,
      q.1,
      l.0.page_word,
      omega (arith, checked-inside (code_by a.code a.positions.now) pos a.block q.2 a.«data».now q.3 l.0 h, q.2.low),
      subst (λ (e : ℕ). e < a.code.q) (sym c.sum_of-sum.ensures) (mod-lt _ pos),
    )

pub loop-part-preserved : goal.loop-part-preserved
loop-part-preserved c =
    let a = c.args in
    let q = c.requires in
    let l = c.loop-part.invariant in
    let s = c.in-Some.ensures.steps in
    let pos : 0 < a.code.q = omega (arith, q.0.q_low) in
    let h : c.loop-part.at < length a.«data».now = omega (arith, s.1.2, ap length l.1, length-drop c.loop-part.at a.«data».now) in
    let i = checked-inside (code_by a.code a.positions.now) pos a.block q.2 a.«data».now q.3 l.0 h in
    let m : length c.in-Some.part.now ≡ a.block = omega (arith, s.1.1, l.2, ap length l.1, length-drop c.loop-part.at a.«data».now, i, q.3.len) in
    let p = next a.block c.loop-part.at a.«data».now _ _ l.1 s.1.0 m in
    let e = subst (λ (x : List ℕ). c.sum_of-sum.result ≡ sum_of_first (length x) (λ n. get_or x n 0) % a.code.q) p.1 c.sum_of-sum.ensures in (
      checked-turn (code_by a.code a.positions.now) pos a.block q.2 a.«data».now q.3 l.0 h _ e _ c.subtract_symbol.ensures,
      p.0,
      s.0 ∙ l.2,
    )

pub returns : goal.returns
returns c =
    let a = c.args in
    let q = c.requires in
    let l = c.loop-part.invariant in
    checked_all (code_by a.code a.positions.now) (omega (arith, q.0.q_low)) a.block q.2 a.«data».now q.3 l.0
    (omega (arith, c.in-None.ensures.steps.1, ap length l.1, length-drop c.loop-part.at a.«data».now))
