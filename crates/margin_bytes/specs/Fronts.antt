-- Margins written as bytes, four for each, from the front.
use Rattle.std.specs.Prelude.{◌≡◌, refl, List, [], ◌∷◌, ◌++◌, map, ℕ, ◌+◌, ◌*◌, ◌≤◌, ◌<◌, ℤ, length, take, drop}
use Rattle.std.proofs.Common.{ap, sym, ◌∙◌, arith, length-append, take_at, take_all, length-take-le}
use Rattle.std.proofs.lemmas.List.Edits.{sets, sets-eq}
use Rattle.std.proofs.Math.Seq.{length-sets}
use Rattle.model.specs.Bytes.{word_of, twos, margin_bytes}
use Rattle.model.specs.Symbols.{tabulate}
use Rattle.theory.specs.Margins.{margins_snoc}

bytes_snoc : (ms : List ℤ) (m : ℤ) → margin_bytes (ms ++ (m ∷ [])) ≡ margin_bytes ms ++ word_of (twos m)
unfolding margin_bytes
bytes_snoc [] m = refl
bytes_snoc (x ∷ xs) m = ap (λ (l : List ℕ). word_of (twos x) ++ l) (bytes_snoc xs m)

-- the first j margins are written as bytes, of count: f tells each
pub record Front (f : ℕ → ℤ) (count : ℕ) (out : List ℕ) (j : ℕ) : Type 0 where
  pub inside : j ≤ count
  pub len : length out ≡ 4 * count
  pub made : take (4 * j) out ≡ margin_bytes (map f (tabulate j (λ i. i)))

pub front_none : (f : ℕ → ℤ) (count : ℕ) (out : List ℕ) → length out ≡ 4 * count → Front f count out 0
unfolding tabulate margin_bytes
front_none f count out e = record { inside = omega arith; len = e; made = refl }

module _ (f : ℕ → ℤ) (count : ℕ) (out : List ℕ) (j : ℕ) (w : Front f count out j) where
  pub front_turn : j < count → (n : ℕ) (next : List ℕ) → n ≡ twos (f j) → next ≡ sets out (4 * j) (word_of n) → Front f count next (j + 1)
  front_turn h n next e g =
      let room : 4 * j + 4 ≤ length out = omega (arith, w.len) in
      let split : next ≡ take (4 * j) out ++ word_of n ++ drop (4 * j + 4) out = g ∙ sets-eq (word_of n) out (4 * j) room in
      let front : List ℕ = take (4 * j) out ++ word_of n in
      let size : length front ≡ 4 * (j + 1) = length-append (take (4 * j) out) (word_of n) ∙ omega (arith, length-take-le (4 * j) out (omega arith)) in
      record {
        inside = omega arith;
        len = ap length g ∙ length-sets out (4 * j) (word_of n) ∙ w.len;
        made = ap (take (4 * (j + 1))) split ∙ take_at front (drop (4 * j + 4) out) (4 * (j + 1)) size
            ∙ ap (λ (l : List ℕ). l ++ word_of n) w.made
            ∙ ap (λ (m : ℕ). margin_bytes (map f (tabulate j (λ i. i))) ++ word_of m) e
            ∙ sym (bytes_snoc (map f (tabulate j (λ i. i))) (f j)) ∙ ap margin_bytes (sym (margins_snoc f j));
      }

  pub front_all : count ≤ j → out ≡ margin_bytes (map f (tabulate count (λ i. i)))
  front_all h =
      let e : j ≡ count = omega (arith, w.inside) in
      sym (take_all (4 * j) out (omega (arith, w.len))) ∙ w.made ∙ ap (λ (n : ℕ). margin_bytes (map f (tabulate n (λ i. i)))) e
