use Rattle.std.proofs.Common.{◌≡◌, ℕ, ◌+◌, ◌-◌, ◌<◌, List, ◌∷◌, length, get_or, drop, sym, ap, ◌∙◌, arith}
use Rattle.differences.specs.Marks.{mark, mark_new, mark_again}
use Rattle.differences.specs.Positions.{fit_at}
use Rattle.differences.specs.Folded.{fold, folded_from, from_turn, from_end}
use Rattle.differences.proofs.mark_from.Goals as goal

-- v is the first value of those that are left
first : (k b : ℕ) (later : List ℕ) (i v : ℕ) (seen : List ℕ) → i < length later → v ≡ fold k (get_or later i 0 - b)
    → mark (folded_from k b (drop i later)) seen ≡ mark (v ∷ folded_from k b (drop (i + 1) later)) seen
first k b later i v seen h e =
    ap (λ (vs : List ℕ). mark vs seen) (from_turn k b later i h) ∙ ap (λ (x : ℕ). mark (x ∷ folded_from k b (drop (i + 1) later)) seen) (sym e)

pub overflow_sub-a : goal.overflow_sub-a
overflow_sub-a c = omega (arith, fit_at _ _ _ c.requires.0 c.loop-a.a-index (omega arith))

pub folded-v-requires : goal.folded-v-requires
folded-v-requires c = omega (arith, fit_at _ _ _ c.requires.0 c.loop-a.a-index (omega arith))

pub returns-then-seen-v-ne0 : goal.returns-then-seen-v-ne0
returns-then-seen-v-ne0 c =
    sym (first _ _ _ c.loop-a.a-index _ _ (omega arith) c.folded-v.ensures ∙ mark_again _ _ _ c.if-seen-v-ne0.true) ∙ c.loop-a.invariant

pub loop-a-preserved : goal.loop-a-preserved
loop-a-preserved c =
    sym (first _ _ _ c.loop-a.a-index _ _ (omega arith) c.folded-v.ensures ∙ mark_new _ _ _ _ (omega arith) c.if-seen-v-ne0.false) ∙ c.loop-a.invariant

pub returns : goal.returns
returns c = sym (from_end c.args.k c.args.b c.args.later.now c.loop-a.a-index c.loop-a.seen (omega arith)) ∙ c.loop-a.invariant
