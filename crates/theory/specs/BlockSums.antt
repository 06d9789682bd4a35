-- The sums of the blocks of the result, while the outer steps are made: a step alters its own block alone, and makes it sum to 0.
use Rattle.std.specs.Prelude.{◌≡◌, ◌≢◌, Bool, true, false, List, length, get_or, set}
use Rattle.std.proofs.Math.Path.{refl}
use Rattle.std.proofs.Common.{sym, ap, ◌∙◌, mod-lt, mod-eq_of_lt, arith, get_or-set_same, get_or-set_other}
use Prim.Native.Nat.{ℕ, zero, suc, ◌+◌, ◌-◌, ◌*◌, ◌/◌, ◌%◌, ◌≤◌, ◌<◌}
use Rattle.std.proofs.Math.Nat.{mod-add-mod}
use Rattle.std.proofs.Math.Decide.{ℕ_discrete}
use Rattle.std.proofs.Math.Arith.{digits_div}
use Rattle.model.specs.Code.{Code, data_count, check_count}
use Rattle.model.specs.Decoder.{State, change}
use Rattle.model.specs.Outer.{part_sum, block_sum, block_count, reliability_of, least_below, weakest, is_step, outer_step, outer_steps}
use Rattle.model.specs.Symbols.{sub, sum_of_first}
use Rattle.theory.specs.Answers.{BlockFits}
use Rattle.theory.specs.Counting.{sum_ext, sum_off}
use Rattle.theory.specs.Modulo.{by_eq, cong_cancel, sub_add}
use Rattle.theory.specs.OuterCheck.{step_no, step_yes, weakest_least, place_below}
use Rattle.theory.specs.Steps.{Sized, change_sized}

-- one symbol of a block replaced by itself minus the block's sum: the block sums to 0
pub closed_sum : (q L : ℕ) → zero < q → (u : List ℕ) (i p : ℕ) → p < L → i * L + p < length u → get_or u (i * L + p) 0 < q
    → block_sum q L (set u (i * L + p) (sub q (get_or u (i * L + p) 0) (block_sum q L u i))) i ≡ 0
unfolding part_sum
closed_sum q L some u i p hp inside low =
    let e : ℕ = block_sum q L u i in
    let r : ℕ = get_or u (i * L + p) 0 in
    let v : ℕ = sub q r e in
    let f : ℕ → ℕ = (λ o. get_or (set u (i * L + p) v) (i * L + o) 0) in
    let g : ℕ → ℕ = (λ o. get_or u (i * L + o) 0) in
    let off : sum_of_first L f + r ≡ sum_of_first L g + f p = sum_off L f g p hp (λ o l n. get_or-set_other u (i * L + p) (i * L + o) v 0 (λ x. n (omega arith))) in
    let at : f p ≡ v = get_or-set_same u (i * L + p) v 0 inside in
    cong_cancel q (sum_of_first L f) 0 r (omega arith)
    (by_eq q {x = sum_of_first L f + r} {y = sum_of_first L g + v} (omega arith)
    ∙ sym (mod-add-mod (sum_of_first L g) q v)
    ∙ by_eq q {x = sum_of_first L g % q + v} {y = v + e} (omega arith)
    ∙ sub_add q some r e (omega (arith, mod-lt (sum_of_first L g) some))
    ∙ by_eq q {x = r} {y = 0 + r} (omega arith))
    ∙ mod-eq_of_lt some

module _ (c : Code) (L : ℕ) (fits : BlockFits c L) where
  -- a step leaves the symbols, and so the sums, of all blocks but its own
  step_other : (i n : ℕ) → n ≢ i → (st : State) (p : ℕ) → p < L → get_or (outer_step c L i st).result (n * L + p) 0 ≡ get_or st.result (n * L + p) 0
  unfolding change weakest
  step_other i n d st p hp = go (is_step c L i st) refl
    where
      e : ℕ
      e = block_sum c.q L st.result i

      at : ℕ
      at = least_below (L - 1) (λ o. reliability_of c e st (i * L + o))

      apart : n * L + p ≢ i * L + at
      apart x =
          d (sym (digits_div n {m = L} hp) ∙ ap (λ (o : ℕ). o / L) x ∙ digits_div i {m = L} (omega (arith, (weakest_least c L fits i e st).below)))

      go : (b : Bool) → is_step c L i st ≡ b → get_or (outer_step c L i st).result (n * L + p) 0 ≡ get_or st.result (n * L + p) 0
      go true y = rw (step_yes c L i st y) (get_or-set_other st.result (i * L + at) (n * L + p) (sub c.q (get_or st.result (i * L + at) 0) e) 0 apart)
      go false y = rw (step_no c L i st y) refl

  other_sum : (i n : ℕ) → n ≢ i → (st : State) → block_sum c.q L (outer_step c L i st).result n ≡ block_sum c.q L st.result n
  unfolding part_sum
  other_sum i n d st = by_eq c.q (sum_ext L _ _ (λ p l. step_other i n d st p l))

  -- before its turn a block sums to what it did,
  pub sum_before : (st : State) (i n : ℕ) → n ≤ i → block_sum c.q L (outer_steps c L n st).result i ≡ block_sum c.q L st.result i
  unfolding outer_steps
  sum_before st i zero h = refl
  sum_before st i (suc n) h = other_sum n i (omega arith) (outer_steps c L n st) ∙ sum_before st i n (omega arith)

  -- and after it to what it did in it
  pub sum_after : (st : State) (i n : ℕ) → i < n → block_sum c.q L (outer_steps c L n st).result i ≡ block_sum c.q L (outer_step c L i (outer_steps c L i st)).result i
  unfolding outer_steps
  sum_after st i zero h = absurd (omega arith)
  sum_after st i (suc n) h =
      elim (ℕ_discrete i n) as (λ o. block_sum c.q L (outer_step c L n (outer_steps c L n st)).result i ≡ block_sum c.q L (outer_step c L i (outer_steps c L i st)).result i)
      [ yes e ↦ rw e refl | no d ↦ other_sum n i d (outer_steps c L n st) ∙ sum_after st i n (omega arith) ]

  -- without a step it is left
  pub sum_left : (st : State) (i : ℕ) → is_step c L i (outer_steps c L i st) ≡ false → (n : ℕ) → i < n
      → block_sum c.q L (outer_steps c L n st).result i ≡ block_sum c.q L st.result i
  sum_left st i e n h =
      sum_after st i n h
      ∙ ap (λ (s : State). block_sum c.q L s.result i) (step_no c L i (outer_steps c L i st) e)
      ∙ sum_before st i i (omega arith)

  module _ (some : zero < c.q) where
    step_sized : (i : ℕ) (st : State) → Sized c.q (data_count c) (check_count c) st → Sized c.q (data_count c) (check_count c) (outer_step c L i st)
    step_sized i st z = go (is_step c L i st) refl
      where
        go : (b : Bool) → is_step c L i st ≡ b → Sized c.q (data_count c) (check_count c) (outer_step c L i st)
        go true e = rw (step_yes c L i st e) (change_sized c.q (data_count c) (check_count c) some _ _ _ st z)
        go false e = rw (step_no c L i st e) z

    steps_sized : (n : ℕ) (st : State) → Sized c.q (data_count c) (check_count c) st → Sized c.q (data_count c) (check_count c) (outer_steps c L n st)
    unfolding outer_steps
    steps_sized zero st z = z
    steps_sized (suc n) st z = step_sized n (outer_steps c L n st) (steps_sized n st z)

    -- a step makes its block sum to 0
    step_zero : (i : ℕ) → i < block_count c L → (st : State) → Sized c.q (data_count c) (check_count c) st → is_step c L i st ≡ true
        → block_sum c.q L (outer_step c L i st).result i ≡ 0
    unfolding change weakest
    step_zero i h st z y =
        let e : ℕ = block_sum c.q L st.result i in
        let at : ℕ = least_below (L - 1) (λ o. reliability_of c e st (i * L + o)) in
        let inside : at < L = omega (arith, (weakest_least c L fits i e st).below) in
        rw (step_yes c L i st y) (closed_sum c.q L some st.result i at inside (rw z.len_result (place_below c L fits i at h inside)) (z.in_result (i * L + at)))

    pub sum_made : (st : State) → Sized c.q (data_count c) (check_count c) st → (i : ℕ) → i < block_count c L → is_step c L i (outer_steps c L i st) ≡ true
        → (n : ℕ) → i < n → block_sum c.q L (outer_steps c L n st).result i ≡ 0
    sum_made st z i h e n l = sum_after st i n l ∙ step_zero i h (outer_steps c L i st) (steps_sized i st z) e
