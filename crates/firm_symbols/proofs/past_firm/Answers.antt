use Rattle.std.proofs.Common.{◌≡◌, ◌≤◌, ◌++◌, ℕ, ◌+◌, ◌-◌, List, length, take, drop, ap, sym, ◌∙◌, arith, length-append, length-take, take_at, drop_at, drop-drop}
use Rattle.std.proofs.lemmas.List.{take-take, drop-take}
use Rattle.firm_symbols.specs.Phases.{past_block}
use Rattle.firm_symbols.proofs.past_firm.Goals as goal

-- the next block of w symbols, of those from j to before e, and what is left
next : (w j e : ℕ) (zs : List ℕ) {rest block left : List ℕ} → rest ≡ take (e - j) (drop j zs) → rest ≡ block ++ left → length block ≡ w
    → (left ≡ take (e - (j + w)) (drop (j + w) zs)) × (block ≡ take (j + w - j) (drop j zs)) × (w ≤ e - j)
next w j e zs {rest} {block} {left} r b n =
    let h : w ≤ e - j = omega (arith, length-append block left, ap length (sym b ∙ r), length-take (e - j) (drop j zs)) in
    let m : e - j ≡ w + (e - (j + w)) = omega arith in (
      sym (drop_at block left w n) ∙ ap (drop w) (sym b ∙ r) ∙ ap (λ (x : ℕ). drop w (take x (drop j zs))) m
          ∙ drop-take w (e - (j + w)) (drop j zs) ∙ ap (take (e - (j + w))) (drop-drop w j zs),
      sym (take_at block left w n) ∙ ap (take w) (sym b ∙ r) ∙ take-take w (e - j) (drop j zs) h
          ∙ ap (λ (x : ℕ). take x (drop j zs)) (let z : w ≡ j + w - j = omega arith in z),
      h,
    )

pub loop-n-preserved : goal.loop-n-preserved
loop-n-preserved c =
    let a = c.args in
    let l = c.loop-n.invariant in
    let s = c.in-Some.ensures.steps in
    let n = next 32 c.loop-n.j a.end a.zeros.now l.0 s.0.1.0 (s.0.1.1 ∙ l.2) in
    let m : length c.in-Some.own.now ≡ 32 = s.1.1.1 ∙ l.3 in
    let d = next 32 c.loop-n.j a.end a.d.now l.1 s.1.1.0 m in (
      n.0,
      d.0,
      s.0.0 ∙ l.2,
      s.1.0 ∙ l.3,
      past_block {v = c.least_zeros.result} a.zeros.now a.d.now 32 l.4 (omega (arith, n.2, l.4.high)) (λ i h. rw (sym n.1, sym d.1) (c.least_zeros.ensures i (omega (arith, m)))) (omega arith),
    )
