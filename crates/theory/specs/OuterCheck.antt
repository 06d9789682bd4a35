-- The outer check: what its steps leave, when there are none, and the word that keeps its rule. proofs/OuterCheck has what they do to the distance.
use Rattle.std.specs.Prelude.{◌≡◌, ◌≢◌, Bool, true, false, not, ◌&&◌, eqb, ltb}
use Rattle.std.proofs.Math.Path.{refl, sym, ap}
use Rattle.std.proofs.Common.{◌∙◌, subst}
use mathlib.Core.List.{List}
use Prim.Native.Nat.{ℕ, zero, suc, ◌+◌, ◌-◌, ◌*◌, ◌/◌, ◌%◌, ◌≤◌, ◌<◌}
use Rattle.std.proofs.Math.Nat.{mod-lt, add-mod-mod, mod-eq_of_lt}
use native.Mathlib.Omega.{arith}
use Rattle.std.proofs.Math.Arith.{digits_lt, digits_div, digits_mod}
use Rattle.std.proofs.Math.Dec.{ltb→lt}
use Rattle.std.proofs.Math.ListN.{get_or}
use Rattle.model.specs.Code.{Code, data_count, page_length, checks_of}
use Rattle.model.specs.Decoder.{State, estimates, change}
use Rattle.model.specs.Demand.{KeepsOuter}
use Rattle.model.specs.Outer.{part_sum, block_sum, block_count, outer_word, reliability, reliability_of, least_below, weakest, is_step, outer_step, outer_steps, step_count}
use Rattle.model.specs.Symbols.{choose, bit, sub, count, Below, sum_of_first}
use Rattle.theory.specs.Answers.{BlockFits}
use Rattle.theory.specs.Codes.{Usable}
use Rattle.theory.specs.Counting.{is_false, eqb_yes, eqb_no, sum_ext}
use Rattle.theory.specs.Decoding.{OnPage, change_on}
use Rattle.theory.specs.Distance.{length_tabulate, get_d_tabulate, below_tabulate}
use Rattle.theory.specs.Falling.{choose_case}
use Rattle.theory.specs.Integers.{minus_lt_z, Least, least_is}
use Rattle.theory.specs.Modulo.{by_eq, sub_lt, sub_add}
use Rattle.theory.specs.Steps.{SymbolsBelow}

and_false : (b : Bool) → (b && false) ≡ false
and_false true = refl
and_false false = refl

-- where a block has no step the state is left, and where it has one it is a change by the block's sum
pub step_no : (c : Code) (L i : ℕ) (st : State) → is_step c L i st ≡ false → outer_step c L i st ≡ st
unfolding outer_step
step_no c L i st e = rw e refl

pub step_yes : (c : Code) (L i : ℕ) (st : State) → is_step c L i st ≡ true
    → outer_step c L i st
    ≡ change c.q (checks_of c (weakest c L i (block_sum c.q L st.result i) st)) (weakest c L i (block_sum c.q L st.result i) st) (block_sum c.q L st.result i) st
unfolding outer_step
step_yes c L i st e = rw e refl

-- ---- no steps

-- a block that sums to 0 has none
pub zero_no_step : (c : Code) (L i : ℕ) (st : State) → block_sum c.q L st.result i ≡ 0 → is_step c L i st ≡ false
unfolding is_step
zero_no_step c L i st e = rw (eqb_yes (block_sum c.q L st.result i) 0 e) refl

-- where no block has one from a state, the state stays
pub no_steps : (c : Code) (L : ℕ) (st : State) (n : ℕ) → ((i : ℕ) → i < n → is_step c L i st ≡ false) → (outer_steps c L n st ≡ st) × (step_count c L n st ≡ 0)
unfolding outer_steps step_count
no_steps c L st zero f = (refl, refl)
no_steps c L st (suc n) f =
    let ih = no_steps c L st n (λ i h. f i (omega arith)) in
    let z : is_step c L n st ≡ false = f n (omega arith) in
    rw (ih.0, ih.1, z) (step_no c L n st z, refl)

-- a block of 1 has none: its first and its last symbol are the same, and no reliability is below itself
pub one_no_step : (c : Code) (i : ℕ) (st : State) → is_step c 1 i st ≡ false
unfolding is_step weakest least_below reliability
one_no_step c i st =
    let es : List ℕ = estimates (checks_of c (i * 1 + 0)) (i * 1 + 0) st in
    let e : ℕ = block_sum c.q 1 st.result i in
    rw (minus_lt_z (count 0 es) (count e es) (count 0 es) (count e es), is_false (ltb (count 0 es + count e es) (count 0 es + count e es)) (λ t. absurd (omega (arith, ltb→lt (count 0 es + count e es) (count 0 es + count e es) t))))
    (and_false (not (eqb e 0)))

-- ---- steps

module _ (c : Code) (L : ℕ) (fits : BlockFits c L) where
  -- the first of least reliability among the first L − 1 symbols of a block
  pub weakest_least : (i e : ℕ) (st : State) → Least (L - 1) (λ p. reliability_of c e st (i * L + p)) (least_below (L - 1) (λ p. reliability_of c e st (i * L + p)))
  weakest_least i e st = least_is (L - 1) (λ p. reliability_of c e st (i * L + p)) (omega (arith, fits.low))

  pub place_below : (i p : ℕ) → i < block_count c L → p < L → i * L + p < data_count c
  place_below i p hi hp = subst (λ (n : ℕ). i * L + p < n) fits.divides (digits_lt hi hp)

  pub weakest_below : (i e : ℕ) (st : State) → i < block_count c L → weakest c L i e st < data_count c
  unfolding weakest
  weakest_below i e st h = place_below i _ h (omega (arith, (weakest_least i e st).below))

  module _ (l : Usable c) (page : List ℕ) (whole : SymbolsBelow c.q (page_length c) page) where
    pub sum_below : (u : List ℕ) (i : ℕ) → block_sum c.q L u i < c.q
    unfolding part_sum
    sum_below u i = mod-lt (sum_of_first L (λ p. get_or u (i * L + p) 0)) (omega (arith, l.q_low))

    step_on : (i : ℕ) → i < block_count c L → (st : State) → OnPage c page st → OnPage c page (outer_step c L i st)
    step_on i h st p = go (is_step c L i st) refl
      where
        go : (b : Bool) → is_step c L i st ≡ b → OnPage c page (outer_step c L i st)
        go true e = rw (step_yes c L i st e)
            (change_on c l page whole (weakest c L i (block_sum c.q L st.result i) st) (block_sum c.q L st.result i)
            (weakest_below i (block_sum c.q L st.result i) st h) (sum_below st.result i) st p)
        go false e = rw (step_no c L i st e) p

    pub steps_on : (n : ℕ) → n ≤ block_count c L → (st : State) → OnPage c page st → OnPage c page (outer_steps c L n st)
    unfolding outer_steps
    steps_on zero h st p = p
    steps_on (suc n) h st p = step_on n h (outer_steps c L n st) (steps_on n (omega arith) st p)

pub steps_few : (c : Code) (L n : ℕ) (st : State) → step_count c L n st ≤ n
unfolding step_count
steps_few c L zero st = omega arith
steps_few c L (suc n) st = omega (arith, steps_few c L n st, bit_le (is_step c L n (outer_steps c L n st)))
  where
    bit_le : (b : Bool) → bit b ≤ 1
    bit_le true = omega arith
    bit_le false = omega arith

-- ---- the word that keeps the rule

module _ (c : Code) (L : ℕ) (fits : BlockFits c L) (some : 0 < c.q) (u : List ℕ) where
  -- the symbol at the last place of block i
  abbrev closing : ℕ → ℕ
  closing i = sub c.q 0 (part_sum c.q L (L - 1) u i)

  -- it agrees with u but at last places
  pub outer_other : (j : ℕ) → j < data_count c → j % L ≢ L - 1 → get_or (outer_word c L u) j 0 ≡ get_or u j 0
  unfolding outer_word
  outer_other j h n =
      get_d_tabulate (data_count c) (λ i. choose (eqb (i % L) (L - 1)) (closing (i / L)) (get_or u i 0)) j h ∙ rw (eqb_no (j % L) (L - 1) n) refl

  outer_last : (i : ℕ) → i < block_count c L → get_or (outer_word c L u) (i * L + (L - 1)) 0 ≡ closing i
  unfolding outer_word
  outer_last i h =
      let last : L - 1 < L = omega (arith, fits.low) in
      get_d_tabulate (data_count c) (λ j. choose (eqb (j % L) (L - 1)) (closing (j / L)) (get_or u j 0)) (i * L + (L - 1)) (place_below c L fits i (L - 1) h last)
      ∙ rw (digits_mod i {m = L} last, digits_div i {m = L} last, eqb_yes (L - 1) (L - 1) refl) refl

  -- it is data symbols below q
  pub outer_symbols : Below c.q u → SymbolsBelow c.q (data_count c) (outer_word c L u)
  unfolding outer_word
  outer_symbols low = record {
    len = length_tabulate (data_count c) (λ j. choose (eqb (j % L) (L - 1)) (closing (j / L)) (get_or u j 0));
    low = below_tabulate c.q some (data_count c) (λ j. choose (eqb (j % L) (L - 1)) (closing (j / L)) (get_or u j 0))
        (λ j. choose_case (λ b x. x < c.q) (eqb (j % L) (L - 1)) (closing (j / L)) (get_or u j 0)
        (λ t. sub_lt c.q some 0 (part_sum c.q L (L - 1) u (j / L))) (λ t. low j));
  }

  -- and every block of it sums to 0
  pub outer_keeps : KeepsOuter c L (outer_word c L u)
  unfolding part_sum sum_of_first
  outer_keeps i h =
      let w : List ℕ = outer_word c L u in
      let f : ℕ → ℕ = (λ p. get_or w (i * L + p) 0) in
      let g : ℕ → ℕ = (λ p. get_or u (i * L + p) 0) in
      let q : ℕ = c.q in
      let head : sum_of_first (L - 1) f ≡ sum_of_first (L - 1) g =
      sum_ext (L - 1) f g (λ p l.
      let inside : p < L = omega arith in
      outer_other (i * L + p) (place_below c L fits i p h inside) (λ e. absurd (omega (arith, sym (digits_mod i {m = L} inside) ∙ e)))) in
      let whole : sum_of_first L f ≡ closing i + sum_of_first (L - 1) g =
      ap (λ (n : ℕ). sum_of_first n f) (let e : L ≡ suc (L - 1) = omega (arith, fits.low) in e) ∙ omega (arith, head, outer_last i h) in
      by_eq q whole
      ∙ sym (add-mod-mod (closing i) (sum_of_first (L - 1) g) q)
      ∙ sub_add q some 0 (sum_of_first (L - 1) g % q) (omega (arith, mod-lt (sum_of_first (L - 1) g) some))
      ∙ mod-eq_of_lt some
