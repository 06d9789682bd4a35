-- The positions that are read of a table: none where there are more than 8 runs of 32, which are refused as none are.
use Rattle.std.specs.Prelude.{◌≡◌, ◌≢◌, Bool, true, false, ◌&&◌, List, [], ◌∷◌, ◌++◌, ℕ, ◌+◌, ◌-◌, ◌*◌, ◌/◌, ◌%◌, ◌≤◌, ◌<◌, T, leb, length, get_or, set, take}
use Rattle.std.proofs.Math.Path.{refl}
use Rattle.std.proofs.Common.{ap, sym, subst, ◌∙◌, add-one, arith, leb→le, take-suc-set, leb-false, le-leb}
use Rattle.std.proofs.Math.Decide.{ℕ_discrete}
use Rattle.std.proofs.lemmas.List.{take-set-le}
use Rattle.std.proofs.lemmas.Bool.{lt-leb}
use Rattle.model.specs.Symbols.{choose, tabulate}
use Rattle.theory.specs.Answers.{and_true}
use Rattle.theory.specs.Counting.{eqb_yes, eqb_no}
use Rattle.theory.specs.Distance.{length_tabulate}
use Rattle.theory.specs.Turns.{tabulate_snoc}
use Rattle.model.specs.Bytes.{position_at, positions_of}

-- the positions, none where there are more than 256
unfoldable pub kept : List ℕ → List ℕ
kept ps = choose (leb (length ps) 256) ps []

pub kept_odd : (table : List ℕ) → length table % 2 ≢ 0 → [] ≡ kept (positions_of table)
unfolding kept positions_of
kept_odd t n = rw (eqb_no (length t % 2) 0 n) refl

module _ (table : List ℕ) (even : length table % 2 ≡ 0) where
  kept_even : kept (positions_of table) ≡ choose (leb (length table / 2) 256) (tabulate (length table / 2) (position_at table)) []
  unfolding kept positions_of
  kept_even = rw (eqb_yes (length table % 2) 0 even, length_tabulate (length table / 2) (position_at table)) refl

  pub kept_long : 512 < length table → [] ≡ kept (positions_of table)
  kept_long h = sym (kept_even ∙ rw (lt-leb (length table / 2) 256 (omega arith)) refl)

  pub kept_all : length table ≤ 512 → tabulate (length table / 2) (position_at table) ≡ kept (positions_of table)
  kept_all h = sym (kept_even ∙ rw (le-leb (length table / 2) 256 (omega arith)) refl)

-- one byte more: the second byte of a position, with the byte before it, gives the position; a first byte alters none that is complete
pub byte_turn : (table positions : List ℕ) (i last : ℕ) → i / 2 < length positions → take (i / 2) positions ≡ tabulate (i / 2) (position_at table)
    → (0 < i → last ≡ get_or table (i - 1) 0)
    → take ((i + 1) / 2) (set positions (i / 2) (last + 256 * get_or table i 0)) ≡ tabulate ((i + 1) / 2) (position_at table)
byte_turn table positions i last h e before =
    let j : ℕ = i / 2 in
    let x : ℕ = last + 256 * get_or table i 0 in
    elim (ℕ_discrete (i % 2) 0) as (λ o. take ((i + 1) / 2) (set positions j x) ≡ tabulate ((i + 1) / 2) (position_at table)) [
      | yes z ↦
          let f : (i + 1) / 2 ≡ j = omega arith in
          ap (λ (n : ℕ). take n (set positions j x)) f ∙ take-set-le j positions j x (omega arith) ∙ e ∙ ap (λ (n : ℕ). tabulate n (position_at table)) (sym f)
      | no z ↦
          let f : (i + 1) / 2 ≡ j + 1 = omega arith in
          let v : x ≡ position_at table j =
          ap (λ (y : ℕ). y + 256 * get_or table i 0) (before (omega arith))
          ∙ ap (λ (n : ℕ). get_or table n 0 + 256 * get_or table i 0) (let g : i - 1 ≡ j + j = omega arith in g)
          ∙ ap (λ (n : ℕ). get_or table (j + j) 0 + 256 * get_or table n 0) (let g : i ≡ j + j + 1 = omega arith in g) in
          ap (λ (n : ℕ). take n (set positions j x)) (f ∙ add-one j)
          ∙ take-suc-set positions j x h
          ∙ ap (λ (l : List ℕ). l ++ (x ∷ [])) e
          ∙ ap (λ (y : ℕ). tabulate j (position_at table) ++ (y ∷ [])) v
          ∙ sym (tabulate_snoc j (position_at table))
          ∙ ap (λ (n : ℕ). tabulate n (position_at table)) (sym f)
    ]

-- a call that is done has read all positions
all_kept : (ps : List ℕ) → 1 ≤ length (kept ps) → kept ps ≡ ps
unfolding kept
all_kept ps = go (leb (length ps) 256)
  where
    go : (b : Bool) → 1 ≤ length (choose b ps []) → choose b ps [] ≡ ps
    go true h = refl
    go false h = absurd (omega arith)

pub all_read : (xs ps : List ℕ) → xs ≡ kept ps → 1 ≤ length xs → xs ≡ ps
all_read xs ps e h = e ∙ all_kept ps (omega (arith, ap length e))

-- what is the same for no position and for too many is the same for the positions that are read
kept_same : {A : Type 0} (f : List ℕ → A) (ps : List ℕ) → (256 < length ps → f [] ≡ f ps) → f (kept ps) ≡ f ps
unfolding kept
kept_same f ps h = go (leb (length ps) 256) refl
  where
    go : (b : Bool) → leb (length ps) 256 ≡ b → f (choose b ps []) ≡ f ps
    go true e = refl
    go false e = h (leb-false (length ps) 256 e)

pub read_same : {A : Type 0} (f : List ℕ → A) (xs ps : List ℕ) → xs ≡ kept ps → (256 < length ps → f [] ≡ f ps) → f xs ≡ f ps
read_same f xs ps e h = ap f e ∙ kept_same f ps h

-- what small buffers have room for
pub small_fits : (bytes symbols : ℕ) (r : Bool) → r ≡ (leb bytes 64 && leb symbols 128) → r ≡ true → (bytes ≤ 64) × (symbols ≤ 128)
small_fits bytes symbols r e t =
    let b = and_true (leb bytes 64) (leb symbols 128) (sym e ∙ t) in
    (leb→le bytes 64 (subst T (sym b.0) tt), leb→le symbols 128 (subst T (sym b.1) tt))
