use Rattle.std.proofs.Common.{◌≡◌, ◌≤◌, ◌<◌, get_or, ◌++◌, ℕ, ◌+◌, ◌-◌, List, length, take, drop, ap, sym, ◌∙◌, subst, arith, length-append, length-take, take_at, drop_at, drop-drop}
use Rattle.std.proofs.lemmas.List.{take-take, drop-take}
use Rattle.open_symbols.specs.Settled.{past_block}
use Rattle.open_symbols.proofs.past_blocks.Goals as goal

-- the next block of w symbols, of those from j to before e, and what is left
next : (w j e : ℕ) (zs : List ℕ) {rest block left : List ℕ} → rest ≡ take (e - j) (drop j zs) → rest ≡ block ++ left → length block ≡ w
    → (left ≡ take (e - (j + w)) (drop (j + w) zs)) × (block ≡ take (j + w - j) (drop j zs)) × (w ≤ e - j)
next w j e zs {rest} {block} {left} r b n =
    let h : w ≤ e - j = omega (arith, length-append block left, ap length (sym b ∙ r), length-take (e - j) (drop j zs)) in
    let m : e - j ≡ w + (e - (j + w)) = omega arith in (
      sym (drop_at block left w n) ∙ ap (drop w) (sym b ∙ r) ∙ ap (λ (x : ℕ). drop w (take x (drop j zs))) m
          ∙ drop-take w (e - (j + w)) (drop j zs) ∙ ap (take (e - (j + w))) (drop-drop w j zs),
      sym (take_at block left w n) ∙ ap (take w) (sym b ∙ r) ∙ take-take w (e - j) (drop j zs) h
          ∙ ap (λ (x : ℕ). take x (drop j zs)) (let z : w ≡ j + w - j = omega arith in z),
      h,
    )

pub loop-block-preserved : goal.loop-block-preserved
loop-block-preserved c =
    let l = c.loop-block.invariant in
    let s = c.in-Some.ensures.steps in
    let f = next 64 c.loop-block.j c.args.end c.args.zeros.now l.0 s.1.0 (s.1.1 ∙ l.1) in (
      f.0,
      s.0 ∙ l.1,
      past_block 64 l.2 (omega (arith, f.2, l.2.high)) c.requires.1
          (subst (λ (b : List ℕ). (i : ℕ) → i < length b → c.least_of.result ≤ get_or b i 0) f.1 c.least_of.ensures) (omega arith),
    )
