-- Margins as bytes in two phases: the laws of the margins that the bytes stand for.
use Rattle.std.specs.Prelude.{◌≡◌, refl, List, [], ◌∷◌, ◌++◌, map, ℕ, zero, suc, ◌+◌, ◌*◌, ◌≤◌, ◌<◌, ℤ, length, set}
use Rattle.std.proofs.Common.{ap, subst, ◌∙◌, arith}
use Rattle.std.proofs.lemmas.List.Edits.{sets}
use Rattle.model.specs.Bytes.{word_of, twos, margin_bytes}
use Rattle.model.specs.Code.{Code, data_count, checks_each}
use Rattle.model.specs.Limits.{TableLimits}
use Rattle.model.specs.Symbols.{tabulate}
use Rattle.zeros.specs.Counts.{zero_counts}
use Rattle.margins.specs.Margins.{margin_of}
use Rattle.firm_symbols.specs.Phases.{zeros_at, zeros_margin, firm_margin, PastFirm, Held, held_first, held_past, held_one, held_turn, held_all}

-- four bytes that are written are one margin
word_set : (ms : List ℤ) (j : ℕ) (m : ℤ) → j < length ms → sets (margin_bytes ms) (4 * j) (word_of (twos m)) ≡ margin_bytes (set ms j m)
unfolding margin_bytes
word_set [] j m h = absurd (omega arith)
word_set (x ∷ ms) zero m h = refl
word_set (x ∷ ms) (suc j) m h =
    let e : 4 * suc j ≡ suc (suc (suc (suc (4 * j)))) = omega arith in
    ap (λ (n : ℕ). sets (word_of (twos x) ++ margin_bytes ms) n (word_of (twos m))) e ∙ ap (λ (l : List ℕ). word_of (twos x) ++ l) (word_set ms j m (omega arith))

length_bytes : (ms : List ℤ) → length (margin_bytes ms) ≡ 4 * length ms
unfolding margin_bytes
length_bytes [] = refl
length_bytes (x ∷ ms) = omega (arith, length_bytes ms)

-- the bytes of margins of which the first j are written, and of the others those of the firm symbols
pub record HeldBytes (c : Code) (zs s d out : List ℕ) (j : ℕ) : Type 0 where
  pub ms : List ℤ
  pub bytes : out ≡ margin_bytes ms
  pub held : Held (margin_of c s d) (zeros_at zs d) (checks_each c) (length d) ms j

module _ {c : Code} (t : TableLimits c) (s d zs out : List ℕ) where
  -- after the first phase
  pub bytes_first : zs ≡ zero_counts c s → length d ≡ data_count c → (J : ℕ) → J ≡ checks_each c → out ≡ margin_bytes (map (zeros_margin J zs d) (tabulate (length d) (λ i. i)))
      → HeldBytes c zs s d out 0
  bytes_first z e J f g = record {
    ms = map (zeros_margin J zs d) (tabulate (length d) (λ i. i));
    bytes = g;
    held = held_first (zeros_margin J zs d) (length d) (λ i h b.
        ap (λ (n : ℕ). zeros_margin n zs d i) f ∙ firm_margin c t s d zs z i (omega (arith, e)) b);
  }

module _ {c : Code} {zs s d out : List ℕ} {j : ℕ} (w : HeldBytes c zs s d out j) where
  -- firm symbols are passed over
  pub bytes_past : {J b r : ℕ} → J ≡ checks_each c → PastFirm J (zeros_at zs d) j b r → b ≤ length d → HeldBytes c zs s d out r
  bytes_past {J} {b} {r} e p h =
      record { ms = w.ms; bytes = w.bytes; held = held_past w.held (subst (λ (n : ℕ). PastFirm n (zeros_at zs d) j b r) e p) h }

  pub bytes_one : j < length d → checks_each c ≤ zeros_at zs d j → HeldBytes c zs s d out (j + 1)
  bytes_one h b = record { ms = w.ms; bytes = w.bytes; held = held_one w.held h b }

  -- the margin of the next is written
  pub bytes_turn : j < length d → (n : ℕ) (next : List ℕ) → n ≡ twos (margin_of c s d j) → next ≡ sets out (4 * j) (word_of n) → HeldBytes c zs s d next (j + 1)
  bytes_turn h n next e g =
      let m : ℤ = margin_of c s d j in
      record {
        ms = set w.ms j m;
        bytes = g ∙ ap (λ (x : ℕ). sets out (4 * j) (word_of x)) e ∙ ap (λ (l : List ℕ). sets l (4 * j) (word_of (twos m))) w.bytes
            ∙ word_set w.ms j m (omega (arith, w.held.len));
        held = held_turn w.held h m refl;
      }

  -- all are written
  pub bytes_all : length d ≤ j → out ≡ margin_bytes (map (margin_of c s d) (tabulate (length d) (λ i. i)))
  bytes_all h = w.bytes ∙ ap margin_bytes (held_all w.held h)

  pub bytes_length : length out ≡ 4 * length d
  bytes_length = ap length w.bytes ∙ length_bytes w.ms ∙ ap (λ (n : ℕ). 4 * n) w.held.len
