-- The outer checks of a page's data, block by block: the sum of a block is subtracted from its last symbol, and so the block sums to 0.
use Rattle.std.specs.Prelude.{◌≡◌, ◌≢◌, List, length, set, take, drop}
use Rattle.std.proofs.Math.Path.{ap, sym}
use Rattle.std.proofs.Common.{◌∙◌, zero-mul, mul-le-mul_right, mod-eq_of_lt, arith, get_or-take, get_or-drop, get_or-set_same, get_or-set_other, ext_get_or}
use Prim.Native.Nat.{ℕ, suc, ◌+◌, ◌-◌, ◌*◌, ◌%◌, ◌≤◌, ◌<◌}
use Rattle.std.proofs.Math.Nat.{mod-lt, add-mod-mod}
use Rattle.std.proofs.Math.Decide.{ℕ_discrete, dec_lt}
use Rattle.std.proofs.Math.Arith.{digits_mod}
use Rattle.std.proofs.Math.ListN.{get_or}
use Rattle.model.specs.Code.{Code, data_count, code_word, data_of}
use Rattle.model.specs.Outer.{part_sum, block_count, outer_word}
use Rattle.model.specs.Symbols.{sub, sum_of_first}
use Rattle.theory.specs.Answers.{BlockFits}
use Rattle.theory.specs.Counting.{sum_ext}
use Rattle.theory.specs.Modulo.{by_eq, cong_add, sub_unique}
use Rattle.theory.specs.OuterCheck.{place_below, outer_other, outer_symbols, outer_keeps}
use Rattle.theory.specs.Parts.{part_length}
use Rattle.theory.specs.Steps.{SymbolsBelow}
use Rattle.outer_page.specs.Words.{IsWord, word_data, is_word, replaced}

-- a page of the data u, in which the blocks before `at` have their outer checks
pub record Checked (c : Code) (L : ℕ) (u : List ℕ) (at : ℕ) (page : List ℕ) : Type 0 where
  pub times : ℕ
  pub counted : at ≡ times * L
  pub within : times ≤ block_count c L
  pub page_word : IsWord c page
  pub done : (j : ℕ) → j < at → get_or (data_of c page) j 0 ≡ get_or (outer_word c L u) j 0
  pub left : (j : ℕ) → at ≤ j → get_or (data_of c page) j 0 ≡ get_or u j 0

module _ (c : Code) (some : 0 < c.q) (L : ℕ) (fits : BlockFits c L) (u : List ℕ) (whole : SymbolsBelow c.q (data_count c) u) where
  pub checked_none : (page : List ℕ) → page ≡ code_word c u → Checked c L u 0 page
  checked_none page e = record {
    times = 0;
    counted = sym (zero-mul L);
    within = omega arith;
    page_word = is_word c u page whole e;
    done = (λ j h. absurd (omega arith));
    left = (λ j h. ap (λ (s : List ℕ). get_or s j 0) (word_data c u page whole.len e));
  }

  -- the data that the page is to have
  abbrev outer : List ℕ
  outer = outer_word c L u

  outer_below : SymbolsBelow c.q (data_count c) outer
  outer_below = outer_symbols c L fits some u whole.low

  -- block i, which starts at `at`
  module _ (i at : ℕ) (starts : at ≡ i * L) (h : i < block_count c L) where
    block_inside : at + L ≤ data_count c
    block_inside = omega (arith, starts, fits.divides, mul-le-mul_right L (let z : i + 1 ≤ block_count c L = omega arith in z))

    -- all its symbols but the last are those of the data
    block_other : (p : ℕ) → p < L - 1 → get_or outer (at + p) 0 ≡ get_or u (at + p) 0
    block_other p b =
        let inside : p < L = omega arith in
        ap (λ (x : ℕ). get_or outer (x + p) 0) starts
        ∙ outer_other c L fits some u (i * L + p) (place_below c L fits i p h inside) (λ e. absurd (omega (arith, sym (digits_mod i {m = L} inside) ∙ e)))
        ∙ ap (λ (x : ℕ). get_or u (x + p) 0) (sym starts)

    -- the last is that of the data less the block's sum
    block_last : (e : ℕ) → e ≡ sum_of_first L (λ p. get_or u (at + p) 0) % c.q → get_or outer (at + L - 1) 0 ≡ sub c.q (get_or u (at + L - 1) 0) e
    unfolding part_sum sum_of_first
    block_last e d =
        let q : ℕ = c.q in
        let m : ℕ = L - 1 in
        let S : ℕ = sum_of_first m (λ p. get_or u (at + p) 0) in
        let y : ℕ = get_or outer (at + L - 1) 0 in
        let x : ℕ = get_or u (at + L - 1) 0 in
        let l : L ≡ suc m = omega (arith, fits.low) in
        let n : at + m ≡ at + L - 1 = omega (arith, fits.low) in
        let sum-outer : sum_of_first L (λ p. get_or outer (i * L + p) 0) ≡ S + y =
        sum_ext L _ _ (λ p b. ap (λ (z : ℕ). get_or outer (z + p) 0) (sym starts)) ∙ ap (λ (z : ℕ). sum_of_first z (λ p. get_or outer (at + p) 0)) l
        ∙ omega (arith, sum_ext m (λ p. get_or outer (at + p) 0) (λ p. get_or u (at + p) 0) block_other, ap (λ (z : ℕ). get_or outer z 0) n) in
        let sum-data : e ≡ (S + x) % q =
        d ∙ ap (λ (z : ℕ). sum_of_first z (λ p. get_or u (at + p) 0) % q) l ∙ ap (λ (z : ℕ). (S + get_or u z 0) % q) n in
        sub_unique q some x e y (omega (arith, sum-data, mod-lt (S + x) some)) (outer_below.low (at + L - 1))
        (ap (λ (z : ℕ). (y + z) % q) sum-data ∙ add-mod-mod y (S + x) q
        ∙ by_eq q {x = y + (S + x)} {y = S + y + x} (omega arith)
        ∙ cong_add q (S + y) 0 x (by_eq q (sym sum-outer) ∙ outer_keeps c L fits some u i h ∙ sym (mod-eq_of_lt some))
        ∙ by_eq q {x = 0 + x} {y = x} (omega arith))

    -- that sum, over the block as it is lent
    block-sum : sum_of_first (length (take (at + L - at) (drop at u))) (λ p. get_or (take (at + L - at) (drop at u)) p 0) % c.q ≡ sum_of_first L (λ p. get_or u (at + p) 0) % c.q
    block-sum =
        ap (λ (n : ℕ). sum_of_first n (λ p. get_or (take (at + L - at) (drop at u)) p 0) % c.q) (part_length at L u (omega (arith, block_inside, whole.len)))
        ∙ by_eq c.q (sum_ext L _ _ (λ p b. get_or-take (at + L - at) (drop at u) p 0 (omega arith) ∙ get_or-drop at u p 0))

  module _ {at : ℕ} {page : List ℕ} (r : Checked c L u at page) where
    -- a block is left where the data is not at its end
    module _ (h : at < length u) where
      more : r.times < block_count c L
      more = elim (dec_lt r.times (block_count c L)) as (λ o. r.times < block_count c L) [
        | yes y ↦ y
        | no n ↦ absurd (omega (arith, h, whole.len, r.counted, fits.divides, mul-le-mul_right L (let z : block_count c L ≤ r.times = omega (arith, n) in z)))
      ]

      pub checked-inside : at + L ≤ data_count c
      checked-inside = block_inside r.times at r.counted more

      pub checked-turn : (e : ℕ) → e ≡ sum_of_first (length (take (at + L - at) (drop at u))) (λ p. get_or (take (at + L - at) (drop at u)) p 0) % c.q
          → (next : List ℕ) → next ≡ code_word c (set (data_of c page) (at + L - 1) (sub c.q (get_or (data_of c page) (at + L - 1) 0) e))
          → Checked c L u (at + L) next
      checked-turn e d next n =
          let w : List ℕ = data_of c page in
          let o : ℕ = at + L - 1 in
          let v : ℕ = sub c.q (get_or w o 0) e in
          let s = replaced c.q (data_count c) some w r.page_word.symbols o e in
          let same : data_of c next ≡ set w o v = word_data c (set w o v) next s.len n in
          let other : (j : ℕ) → j ≢ o → get_or (data_of c next) j 0 ≡ get_or w j 0 =
          (λ j m. ap (λ (l : List ℕ). get_or l j 0) same ∙ get_or-set_other w o j v 0 m) in
          let last : get_or (data_of c next) o 0 ≡ get_or outer o 0 =
          ap (λ (l : List ℕ). get_or l o 0) same ∙ get_or-set_same w o v 0 (omega (arith, r.page_word.symbols.len, checked-inside, fits.low))
          ∙ ap (λ (x : ℕ). sub c.q x e) (r.left o (omega (arith, fits.low)))
          ∙ sym (block_last r.times at r.counted more e (d ∙ block-sum r.times at r.counted more)) in
          record {
            times = r.times + 1;
            counted = omega (arith, r.counted);
            within = omega (arith, more);
            page_word = is_word c (set w o v) next s n;
            done = (λ j b. elim (ℕ_discrete j o) as (λ x. get_or (data_of c next) j 0 ≡ get_or outer j 0) [
              | yes y ↦ rw y last
              | no m ↦ other j m ∙ elim (dec_lt j at) as (λ x. get_or w j 0 ≡ get_or outer j 0) [
                | yes y ↦ r.done j y
                | no k ↦ r.left j (omega arith) ∙ sym (ap (λ (x : ℕ). get_or outer x 0) (let z : j ≡ at + (j - at) = omega arith in z)
                    ∙ block_other r.times at r.counted more (j - at) (omega (arith, b, m, k, fits.low))
                    ∙ ap (λ (x : ℕ). get_or u x 0) (let z : at + (j - at) ≡ j = omega arith in z))
              ]
            ]);
            left = (λ j b. other j (λ y. absurd (omega (arith, fits.low, y))) ∙ r.left j (omega arith));
          }

    -- all blocks have theirs
    pub checked_all : length u ≤ at → page ≡ code_word c outer
    checked_all h =
        let n = r.page_word.symbols.len in
        r.page_word.word ∙ ap (code_word c) (ext_get_or 0 (data_of c page) outer (n ∙ sym outer_below.len) (λ j b. r.done j (omega (arith, n, b, whole.len))))
