-- The step of a block, and blocks one after the other.
use Rattle.std.specs.Prelude.{◌≡◌, refl, Option, Some, None, Bool, true, false, ◌≢◌, List, ℕ, zero, suc, ◌+◌, ◌-◌, ◌*◌, ◌/◌, ◌%◌, ◌≤◌, ◌<◌, length, get_or, take, drop}
use Rattle.std.proofs.Math.Path.{ap, sym}
use Rattle.std.proofs.Common.{◌∙◌, zero-mul, add-mul, mod-lt, mul-le-mul_right, mul-le-mul_left, add-one}
use Rattle.std.proofs.Math.Decide.{dec_lt}
use native.Mathlib.Omega.{arith}
use Rattle.std.proofs.Math.Arith.{digits_div}
use Rattle.std.specs.Int.Signed.{lt_z}
use Rattle.model.specs.Code.{Code, data_count, check_count, checks_of}
use Rattle.model.specs.Decoder.{State, change}
use Rattle.model.specs.Outer.{part_sum, block_sum, block_count, reliability_of, least_below, weakest, is_step, outer_step, outer_steps, step_count}
use Rattle.model.specs.Symbols.{bit, sum_of_first}
use Rattle.theory.specs.Answers.{BlockFits}
use Rattle.theory.specs.Counting.{eqb_no}
use Rattle.theory.specs.OuterCheck.{step_no, step_yes, zero_no_step, weakest_least, place_below, steps_few}
use Rattle.theory.specs.Steps.{change_sized}
use Rattle.blocks.specs.Blocks.{Doubled, WholeFrom, BrokenFrom, part-sum}
use Rattle.visits.specs.Progress.{Ready}
use Rattle.outer_steps.specs.declared.Step.{Step}

-- a step, or none
abbrev pub step_if : Bool → ℕ → ℕ → Option Step
step_if true j e = Some (record { symbol = j; sum = e })
step_if false j e = None

-- that of block i
unfoldable pub step_of : Code → ℕ → ℕ → State → Option Step
step_of c L i st = let e = block_sum c.q L st.result i in step_if (is_step c L i st) (weakest c L i e st) e

-- a state, and the number of steps that led to it
pub record Stepped : Type 0 where
  pub state : State
  pub steps : ℕ

-- by block i alone, and by the first n blocks
unfoldable pub stepped_by : Code → ℕ → ℕ → State → Stepped
stepped_by c L i st = record { state = outer_step c L i st; steps = bit (is_step c L i st) }

unfoldable pub steps_to : Code → ℕ → ℕ → State → Stepped
steps_to c L n st = record { state = outer_steps c L n st; steps = step_count c L n st }

-- ---- block i, as it lies in the data

-- the block that starts at a, and a bound of its sum
pub record BlockAt (c : Code) (L bound a : ℕ) : Type 0 where
  pub fits : BlockFits c L
  pub whole : a ≡ a / L * L
  pub inside : a < data_count c
  pub doubled : Doubled c.q bound
  pub high : L * c.q ≤ bound

-- what L symbols from a on sum to
pub sum_lent : (q L i a : ℕ) (u : List ℕ) → a ≡ i * L → a + L ≤ length u
    → sum_of_first (length (take (a + L - a) (drop a u))) (λ p. get_or (take (a + L - a) (drop a u)) p 0) % q ≡ block_sum q L u i
unfolding part_sum
sum_lent q L i a u e h = part-sum q L a u h ∙ ap (λ (x : ℕ). sum_of_first L (λ p. get_or u (x + p) 0) % q) e

pub sum_in : (q L i : ℕ) (u : List ℕ) → 0 < q → block_sum q L u i < q
unfolding part_sum
sum_in q L i u h = mod-lt _ h

module _ (c : Code) (L : ℕ) (fits : BlockFits c L) (i : ℕ) (h : i < block_count c L) where
  pub block-end : i * L + L ≤ data_count c
  block-end = omega (arith, place_below c L fits i (L - 1) h (omega (arith, fits.low)), fits.low)

  pub weakest_in : (e : ℕ) (st : State) → weakest c L i e st < data_count c
  unfolding weakest
  weakest_in e st = omega (arith, block-end, (weakest_least c L fits i e st).below)

pub blocks_few : (c : Code) (L : ℕ) → BlockFits c L → block_count c L ≤ data_count c
blocks_few c L fits = omega (arith, fits.divides, mul-le-mul_left (block_count c L) (let z : 1 ≤ L = omega (arith, fits.low) in z))

module _ (c : Code) (L : ℕ) (fits : BlockFits c L) where
  -- the number of a block that starts at a; where the data ends it is the number of blocks
  pub at_block : (a : ℕ) → a ≡ a / L * L → a < data_count c → a / L < block_count c L
  at_block a w h = elim (dec_lt (a / L) (block_count c L)) as (λ x. a / L < block_count c L)
      [ yes l ↦ l | no l ↦ absurd (omega (arith, h, w, fits.divides, mul-le-mul_right L (let z : block_count c L ≤ a / L = omega arith in z))) ]

  pub at_end : (a : ℕ) → a ≡ data_count c → a / L ≡ block_count c L
  at_end a h = ap (λ (n : ℕ). n / L) h

  -- so many blocks on
  pub at_later : (a m : ℕ) → a ≡ a / L * L → (a + m * L) / L ≡ a / L + m
  at_later a m w =
      ap (λ (n : ℕ). n / L) (let d : (a / L + m) * L ≡ a / L * L + m * L = add-mul (a / L) m L in let z : a + m * L ≡ (a / L + m) * L + 0 = omega (arith, w, d) in z)
      ∙ digits_div (a / L + m) {m = L} (omega (arith, fits.low))

  pub at_next : (a : ℕ) → a ≡ a / L * L → (a + L) / L ≡ a / L + 1
  at_next a w = ap (λ (n : ℕ). n / L) (let z : a + L ≡ a + 1 * L = omega arith in z) ∙ at_later a 1 w

  -- only whole blocks follow
  pub whole_from : (a n : ℕ) → a ≡ a / L * L → a ≤ data_count c → n ≡ data_count c → WholeFrom L n a
  whole_from a n w h e =
      let few : a / L ≤ block_count c L = elim (dec_lt (block_count c L) (a / L)) as (λ x. a / L ≤ block_count c L) [
        | yes l ↦ absurd (omega (arith, w, h, fits.divides, fits.low, mul-le-mul_right L (let z : block_count c L + 1 ≤ a / L = omega arith in z), (let d : (block_count c L + 1) * L ≡ block_count c L * L + L = omega arith in d)))
        | no l ↦ omega arith
      ] in
      let t : ℕ = block_count c L - a / L in
      let d : block_count c L * L ≡ a / L * L + t * L = ap (λ (x : ℕ). x * L) (let z : block_count c L ≡ a / L + t = omega arith in z) ∙ add-mul (a / L) t L in
      record { times = t; whole = omega (arith, e, fits.divides, w, d) }

  -- the first
  pub at_first : 0 / L ≡ 0
  at_first = ap (λ (n : ℕ). n / L) (let z : 0 ≡ 0 * L + 0 = omega (arith, zero-mul L) in z) ∙ digits_div 0 {m = L} (omega (arith, fits.low))

-- ---- the step of block i, from its sum e

module _ (c : Code) (L i : ℕ) (st : State) (e : ℕ) (sum : e ≡ block_sum c.q L st.result i) where
  pub step_zero : e ≡ 0 → None ≡ step_of c L i st
  unfolding step_of
  step_zero z = ap (λ (b : Bool). step_if b (weakest c L i (block_sum c.q L st.result i) st) (block_sum c.q L st.result i)) (sym (zero_no_step c L i st (sym sum ∙ z)))

  -- it starts at a, j is its least reliable symbol, and m its last
  module _ (some : e ≢ 0) (a j m : ℕ) (start : a ≡ i * L) (last : m ≡ i * L + (L - 1)) (weak : j ≡ a + least_below (m - a) (λ p. reliability_of c e st (a + p))) where
    abbrev here : ℕ
    here = block_sum c.q L st.result i

    weakest_is : j ≡ weakest c L i here st
    unfolding weakest
    weakest_is = weak ∙ ap (λ (x : ℕ). x + least_below (m - x) (λ p. reliability_of c e st (x + p))) start
        ∙ ap (λ (n : ℕ). i * L + least_below n (λ p. reliability_of c e st (i * L + p))) (let z : m - i * L ≡ L - 1 = omega arith in z)
        ∙ ap (λ (x : ℕ). i * L + least_below (L - 1) (λ p. reliability_of c x st (i * L + p))) sum

    test : is_step c L i st ≡ lt_z (reliability_of c e st j) (reliability_of c e st m)
    unfolding is_step
    test = rw (eqb_no here 0 (λ z. some (sum ∙ z)))
        (ap (λ (x : ℕ). lt_z (reliability_of c here st x) (reliability_of c here st (i * L + (L - 1)))) (sym weakest_is)
        ∙ ap (λ (x : ℕ). lt_z (reliability_of c here st j) (reliability_of c here st x)) (sym last)
        ∙ ap (λ (x : ℕ). lt_z (reliability_of c x st j) (reliability_of c x st m)) (sym sum))

    pub step_made : lt_z (reliability_of c e st j) (reliability_of c e st m) ≡ true → Some (record { symbol = j; sum = e }) ≡ step_of c L i st
    unfolding step_of
    step_made y = (λ o. Some (record { symbol = weakest_is o; sum = sum o })) ∙ ap (λ (b : Bool). step_if b (weakest c L i here st) here) (sym (test ∙ y))

    pub step_left : lt_z (reliability_of c e st j) (reliability_of c e st m) ≡ false → None ≡ step_of c L i st
    unfolding step_of
    step_left y = ap (λ (b : Bool). step_if b (weakest c L i here st) here) (sym (test ∙ y))

-- ---- what is left of the state

-- a block without a step
no_step : (c : Code) (L i : ℕ) (st : State) → is_step c L i st ≡ false → record { state = st; steps = 0 } ≡ stepped_by c L i st
unfolding stepped_by
no_step c L i st n = λ o. record { state = sym (step_no c L i st n) o; steps = ap bit (sym n) o }

module _ (c : Code) (L i : ℕ) (st : State) where
  abbrev sum_here : ℕ
  sum_here = block_sum c.q L st.result i

  by_case : (b : Bool) → is_step c L i st ≡ b → step_of c L i st ≡ step_if b (weakest c L i sum_here st) sum_here
  unfolding step_of
  by_case b e = ap (λ (y : Bool). step_if y (weakest c L i sum_here st) sum_here) e

  -- none is made
  pub not_made : None ≡ step_of c L i st → record { state = st; steps = 0 } ≡ stepped_by c L i st
  not_made is = no_step c L i st (no (is_step c L i st) refl)
    where
      no : (b : Bool) → is_step c L i st ≡ b → is_step c L i st ≡ false
      no true e = let z = is ∙ by_case true e in cc
      no false e = e

module _ (c : Code) (L i : ℕ) (st : State) (x : Step) (is : Some x ≡ step_of c L i st) where
  -- one is made
  pub record Made : Type 0 where
    pub yes : is_step c L i st ≡ true
    pub symbol_is : x.symbol ≡ weakest c L i (sum_here c L i st) st
    pub sum_is : x.sum ≡ sum_here c L i st

  pub made : Made
  made = go (is_step c L i st) refl
    where
      go : (b : Bool) → is_step c L i st ≡ b → Made
      go true e =
          let z = is ∙ by_case c L i st true e in
          let w : x ≡ record { symbol = weakest c L i (sum_here c L i st) st; sum = sum_here c L i st } = cc in
          record { yes = e; symbol_is = ap (λ (y : Step). y.symbol) w; sum_is = ap (λ (y : Step). y.sum) w }
      go false e = let z = is ∙ by_case c L i st false e in absurd (let w : ⊥ = cc in w)

  pub stepped_made : Made → (st' : State) → st' ≡ change c.q (checks_of c x.symbol) x.symbol x.sum st → record { state = st'; steps = 1 } ≡ stepped_by c L i st
  unfolding stepped_by
  stepped_made m st' e = λ o. record {
    state = (e ∙ ap (λ (j : ℕ). change c.q (checks_of c j) j x.sum st) m.symbol_is
        ∙ ap (λ (h : ℕ). change c.q (checks_of c (weakest c L i (sum_here c L i st) st)) (weakest c L i (sum_here c L i st) st) h st) m.sum_is ∙ sym (step_yes c L i st m.yes)) o;
    steps = ap bit (sym m.yes) o;
  }

-- ---- blocks in order

-- a state stays ready
step_ready : (c : Code) (L i : ℕ) (st : State) → Ready c st → Ready c (outer_step c L i st)
step_ready c L i st r = go (is_step c L i st) refl
  where
    go : (b : Bool) → is_step c L i st ≡ b → Ready c (outer_step c L i st)
    go true e = rw (step_yes c L i st e) (record {
      usable = r.usable;
      bytes = r.bytes;
      sized = change_sized c.q (data_count c) (check_count c) (omega (arith, r.usable.q_low)) _ _ _ st r.sized;
    })
    go false e = rw (step_no c L i st e) r

pub steps_ready : (c : Code) (L n : ℕ) (st : State) → Ready c st → Ready c (outer_steps c L n st)
unfolding outer_steps
steps_ready c L zero st r = r
steps_ready c L (suc n) st r = step_ready c L n (outer_steps c L n st) (steps_ready c L n st r)

-- no block yet, and one block more
pub steps_none : (c : Code) (L : ℕ) (st : State) → record { state = st; steps = 0 } ≡ steps_to c L 0 st
unfolding steps_to outer_steps step_count
steps_none c L st = refl

pub steps_more : (c : Code) (L n : ℕ) (st : State) (x y : Stepped) → x ≡ steps_to c L n st → y ≡ stepped_by c L n x.state
    → record { state = y.state; steps = x.steps + y.steps } ≡ steps_to c L (n + 1) st
unfolding steps_to outer_steps step_count stepped_by
steps_more c L n st x y e f =
    let g : y ≡ stepped_by c L n (outer_steps c L n st) = f ∙ ap (λ (z : Stepped). stepped_by c L n z.state) e in
    (λ o. record { state = (g o).state; steps = (e o).steps + (g o).steps }) ∙ ap (λ (m : ℕ). steps_to c L m st) (sym (add-one n))

-- where no step is made the state is left
pub none_made : (c : Code) (L n : ℕ) (st : State) → step_count c L n st ≡ 0 → outer_steps c L n st ≡ st
unfolding outer_steps step_count
none_made c L zero st z = refl
none_made c L (suc n) st z = step_no c L n (outer_steps c L n st) (none (is_step c L n (outer_steps c L n st)) refl) ∙ none_made c L n st (omega arith)
  where
    none : (b : Bool) → is_step c L n (outer_steps c L n st) ≡ b → is_step c L n (outer_steps c L n st) ≡ false
    none true e = absurd (omega (arith, z, ap bit e))
    none false e = e

-- m blocks that sum to 0 have no step
pub steps_skip : (c : Code) (L : ℕ) (st : State) (x : Stepped) (i m : ℕ) → x ≡ steps_to c L i st → ((t : ℕ) → t < m → block_sum c.q L x.state.result (i + t) ≡ 0)
    → x ≡ steps_to c L (i + m) st
steps_skip c L st x i zero e z = e ∙ ap (λ (n : ℕ). steps_to c L n st) (let y : i ≡ i + 0 = omega arith in y)
steps_skip c L st x i (suc m) e z =
    let ih = steps_skip c L st x i m e (λ t h. z t (omega arith)) in
    (λ o. record { state = x.state; steps = (let y : x.steps ≡ x.steps + 0 = omega arith in y) o })
    ∙ steps_more c L (i + m) st x (record { state = x.state; steps = 0 }) ih (no_step c L (i + m) x.state (zero_no_step c L (i + m) x.state (z m (omega arith))))
    ∙ ap (λ (n : ℕ). steps_to c L n st) (let y : i + m + 1 ≡ i + suc m = omega arith in y)

-- a walk over such blocks, from a to r, in a state with so many data symbols
pub walked : (c : Code) (L : ℕ) → BlockFits c L → (st : State) (x : Stepped) (a r : ℕ) → length x.state.result ≡ data_count c → a ≡ a / L * L → x ≡ steps_to c L (a / L) st
    → BrokenFrom c.q L x.state.result a r → (x ≡ steps_to c L (r / L) st) × (r ≡ r / L * L) × (r ≤ data_count c)
unfolding part_sum
walked c L fits st x a r n w e b =
    let number : r / L ≡ a / L + b.blocks = ap (λ (y : ℕ). y / L) b.passed ∙ at_later c L fits a b.blocks w in
    let d = add-mul (a / L) b.blocks L in (
      steps_skip c L st x (a / L) b.blocks e
          (λ t h. ap (λ (y : ℕ). sum_of_first L (λ p. get_or x.state.result (y + p) 0) % c.q)
          (let z : (a / L + t) * L ≡ a + t * L = omega (arith, w, add-mul (a / L) t L) in z) ∙ b.zeros t h)
          ∙ ap (λ (y : ℕ). steps_to c L y st) (sym number),
      (let z : r ≡ (a / L + b.blocks) * L = omega (arith, b.passed, w, d) in z) ∙ ap (λ (y : ℕ). y * L) (sym number),
      omega (arith, b.whole.whole, n),
    )

pub steps_fit : (c : Code) (L n : ℕ) (st : State) (x : Stepped) → x ≡ steps_to c L n st → x.steps ≤ n
unfolding steps_to
steps_fit c L n st x e = omega (arith, ap (λ (y : Stepped). y.steps) e, steps_few c L n st)
