-- What the vote on bits tells, the word gathered from the last check on, and what the ones of the word say of the estimates.
use Rattle.std.specs.Prelude.{◌≡◌, List, [], ◌∷◌, eqb, ltb, length, get_or, drop}
use Rattle.std.proofs.Math.Path.{refl}
use Rattle.std.proofs.Common.{ap, sym, ◌∙◌, subst, drop_of_length-le, length-drop, drop-cons, lt-ltb, le-ltb}
use Prim.Native.Nat.{ℕ, zero, suc, ◌+◌, ◌-◌, ◌*◌, ◌%◌, ◌^◌, ◌≤◌, ◌<◌, max, min}
use Rattle.std.proofs.Math.Decide.{dec_le}
use native.Mathlib.Omega.{arith}
use Rattle.std.specs.Int.Count.{ones}
use Rattle.model.specs.Code.{checks_by}
use Rattle.model.specs.Decoder.{is_change}
use Rattle.model.specs.Symbols.{choose, bit, count, symbols_at, Below}
use Rattle.model.specs.Vote.{leader, Votes, gathered, equal_bits, bit_votes, zeros_in, ones_decide}
use Rattle.theory.specs.BitVote.{gathered_cons}
use Rattle.theory.proofs.BitVote.{bits_all, word_ones, vote_bits, change_bits, equal-bits}
use Rattle.theory.specs.Circulant.{length_checks_by}
use Rattle.theory.specs.Counting.{length_symbols_at}
use Rattle.theory.specs.Explaining.{bits_nil, bits_small, bits_below}
use Rattle.theory.proofs.Margins.{zeros_others}
use Rattle.theory.specs.Voting.{other_max}
use Rattle.vote.specs.Leading.{vote_of}
use Rattle.vote.specs.Others.{others}
use Rattle.vote.specs.declared.Vote.{Vote}
use Rattle.checks.specs.Checks.{AtChecks, estimates_by}
use Rattle.checks.specs.Estimates.{estimates_length}

-- what the vote tells, by the ones of a word of n bits
abbrev pub vote_in : ℕ → ℕ → Vote ℕ
vote_in n word = let v = bit_votes n word in record { leader = v.leader; lead = v.lead; next = v.next; zeros = v.zeros }

-- by the larger of the two counts
module _ (n w : ℕ) where
  pub vote_ones : zeros_in n w < ones w → ◌≡◌ {A = Vote ℕ} (record { leader = 1; lead = ones w; next = zeros_in n w; zeros = zeros_in n w }) (vote_in n w)
  unfolding bit_votes
  vote_ones h = λ i. record {
    leader = (let e : 1 ≡ bit (ltb (zeros_in n w) (ones w)) = rw (lt-ltb (zeros_in n w) (ones w) h) refl in e) i;
    lead = (let e : ones w ≡ max (zeros_in n w) (ones w) = omega arith in e) i;
    next = (let e : zeros_in n w ≡ min (zeros_in n w) (ones w) = omega arith in e) i;
    zeros = zeros_in n w;
  }

  pub vote_zeros : ones w ≤ zeros_in n w → ◌≡◌ {A = Vote ℕ} (record { leader = 0; lead = zeros_in n w; next = ones w; zeros = zeros_in n w }) (vote_in n w)
  unfolding bit_votes
  vote_zeros h = λ i. record {
    leader = (let e : 0 ≡ bit (ltb (zeros_in n w) (ones w)) = rw (le-ltb (zeros_in n w) (ones w) h) refl in e) i;
    lead = (let e : zeros_in n w ≡ max (zeros_in n w) (ones w) = omega arith in e) i;
    next = (let e : ones w ≡ min (zeros_in n w) (ones w) = omega arith in e) i;
    zeros = zeros_in n w;
  }

  -- whether the ones decide for a change, without a difference that could fall below 0
  pub decide_no : (t : ℕ) → ones w ≤ zeros_in n w + t → 0 ≡ bit (ones_decide t n w)
  unfolding ones_decide
  decide_no t h = rw (le-ltb t (ones w - zeros_in n w) (omega arith)) refl

  pub decide_yes : (t : ℕ) → zeros_in n w + t < ones w → 1 ≡ bit (ones_decide t n w)
  unfolding ones_decide
  decide_yes t h = rw (lt-ltb t (ones w - zeros_in n w) (omega arith)) refl

-- ---- the word of the checks from position i on

pub record FromWord (k : ℕ) (ps : List ℕ) (j : ℕ) (s : List ℕ) (i w : ℕ) : Type 0 where
  pub inside : i ≤ length ps
  pub are : w ≡ gathered (symbols_at s (checks_by k (drop i ps) j))

pub word_end : (k : ℕ) (ps : List ℕ) (j : ℕ) (s : List ℕ) (i : ℕ) → i ≡ length ps → FromWord k ps j s i 0
unfolding checks_by symbols_at
word_end k ps j s i e = record {
  inside = omega arith;
  are = sym (ap (λ (l : List ℕ). gathered (symbols_at s (checks_by k l j))) (drop_of_length-le ps {i = i} (omega arith)) ∙ bits_nil 1);
}

-- one check more, at position i
pub word_turn : (k : ℕ) (ps : List ℕ) (j : ℕ) (s : List ℕ) (i m w c : ℕ) → Below 2 s → FromWord k ps j s m w → m ≡ i + 1 → c ≡ (j + get_or ps i 0) % k
    → FromWord k ps j s i (w + w + get_or s c 0)
unfolding checks_by symbols_at
word_turn k ps j s i m w c low f e g =
    let l : i < length ps = omega (arith, f.inside) in
    let d : drop i ps ≡ get_or ps i 0 ∷ drop m ps = drop-cons ps i 0 l ∙ ap (λ (n : ℕ). get_or ps i 0 ∷ drop n ps) (let z : suc i ≡ m = omega arith in z) in
    let rest : List ℕ = symbols_at s (checks_by k (drop m ps) j) in
    record {
      inside = omega arith;
      are = (let y : w + w + get_or s c 0 ≡ gathered rest * 2 + get_or s c 0 = omega (arith, f.are) in y)
          ∙ ap (λ (n : ℕ). gathered rest * 2 + get_or s n 0) g
          ∙ sym (ap (λ (x : List ℕ). gathered (symbols_at s (checks_by k x j))) d ∙ gathered_cons (get_or s ((j + get_or ps i 0) % k) 0) rest (low ((j + get_or ps i 0) % k)));
    }

-- at most 33 bits stand
pub word_small : (k : ℕ) (ps : List ℕ) (j : ℕ) (s : List ℕ) (i w : ℕ) → length ps ≤ 32 → FromWord k ps j s i w → w ≤ 8589934591
word_small k ps j s i w h f =
    omega (
      arith,
      f.are,
      bits_small (symbols_at s (checks_by k (drop i ps) j)) 1
          (omega (arith, length_symbols_at s (checks_by k (drop i ps) j), length_checks_by k (drop i ps) j, length-drop i ps)),
    )

-- the own difference is the lowest bit
pub word_all : (k : ℕ) (ps : List ℕ) (j own : ℕ) (s : List ℕ) (i w : ℕ) → own < 2 → i ≤ 0 → FromWord k ps j s i w → w + w + own ≡ gathered (estimates_by k ps j own s)
word_all k ps j own s i w h z f =
    let e : w ≡ gathered (symbols_at s (checks_by k ps j)) = f.are ∙ ap (λ (n : ℕ). gathered (symbols_at s (checks_by k (drop n ps) j))) (let y : i ≡ 0 = omega arith in y) in
    (let y : w + w + own ≡ gathered (symbols_at s (checks_by k ps j)) * 2 + own = omega (arith, e) in y) ∙ sym (gathered_cons own (symbols_at s (checks_by k ps j)) h)

-- ---- what the word says of the estimates

-- they are bits
below_at : (s is : List ℕ) → Below 2 s → Below 2 (symbols_at s is)
unfolding symbols_at
below_at s [] low n = omega arith
below_at s (i ∷ is) low zero = low i
below_at s (i ∷ is) low (suc n) = below_at s is low n

pub estimates_low : (own : ℕ) (s is : List ℕ) → own < 2 → Below 2 s → Below 2 (own ∷ symbols_at s is)
estimates_low own s is h low zero = h
estimates_low own s is h low (suc n) = below_at s is low n

-- n estimates, which are bits, gathered in the word w
pub record InWord (es : List ℕ) (n w : ℕ) : Type 0 where
  pub low : Below 2 es
  pub some : 0 < length es
  pub len : n ≡ length es
  pub few : n ≤ 33
  pub are : w ≡ gathered es
  pub set : ones w ≤ n
  pub room : w < 2 ^ n

pub in_word : (es : List ℕ) → Below 2 es → 0 < length es → length es ≤ 33 → (n w : ℕ) → n ≡ length es → w ≡ gathered es → InWord es n w
in_word es low some few n w m e = record {
  low = low;
  some = some;
  len = m;
  few = omega arith;
  are = e;
  set = omega (arith, ap ones e, word_ones es low, bits_all es low);
  room = subst (λ (x : ℕ). w < 2 ^ x) (sym m) (subst (λ (x : ℕ). x < 2 ^ length es) (sym e) (bits_below es 1));
}

-- the estimates of symbol j of a branch
pub in_word_at : {k : ℕ} {ps s : List ℕ} → AtChecks k ps s → (j own n w : ℕ) → own < 2 → Below 2 s → n ≡ length ps + 1 → w ≡ gathered (estimates_by k ps j own s)
    → InWord (estimates_by k ps j own s) n w
in_word_at {k} {ps} {s} f j own n w h b m e =
    let len = estimates_length k ps j own s in
    in_word (estimates_by k ps j own s) (estimates_low own s (checks_by k ps j) h b) (omega arith) (omega (arith, len, f.J-high)) n w (omega (arith, len)) e

module _ {es : List ℕ} {n w : ℕ} (g : InWord es n w) where
  -- what its ones decide, and what the vote by them tells
  pub word_decides : (t : ℕ) → ones_decide t n w ≡ is_change t es
  word_decides t = rw (g.len, g.are) (sym (change_bits es g.low g.some t))

  pub word_votes : vote_in n w ≡ vote_of es
  word_votes =
      rw (g.len, g.are)
      (ap (λ (v : Votes). record { leader = v.leader; lead = v.lead; next = v.next; zeros = v.zeros }) (sym (vote_bits es g.low g.some)))

  -- the bits of the estimates that equal h0
  pub word_equal : choose (eqb (leader es) 1) w (2 ^ n - 1 - w) ≡ equal_bits es (leader es)
  word_equal = rw (g.len, g.are) (sym (equal-bits es g.low g.some))

  -- the largest count of a value other than 0 is that of the ones
  pub word_others : ones w ≡ others es
  word_others =
      let o = ap ones g.are ∙ word_ones es g.low in
      elim (dec_le (count 1 es) 0) as (λ d. ones w ≡ others es) [
        | yes z ↦ omega (arith, o, zeros_others es, bits_all es g.low)
        | no m ↦ omega (arith, o, zeros_others es, bits_all es g.low, other_max es 0 es 1 (λ e. absurd (omega arith)) (omega arith))
      ]
