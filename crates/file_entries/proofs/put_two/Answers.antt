use Rattle.std.proofs.Common.{◌≡◌, [], ◌∷◌, ℕ, List, ◌+◌, ◌/◌, ◌%◌, slice_index_or, slice_set, ap, ◌∙◌, arith}
use Rattle.std.proofs.lemmas.List.Edits.{sets}
use Rattle.model.specs.Bytes.{bytes_in}
use native.Mathlib.Numerals.{towards_suc}
use Rattle.file_entries.proofs.put_two.Goals as goal

-- of a number's 16 bits
bytes : (n : ℕ) → n % 65536 % 256 ∷ (n % 65536 / 256 % 256 ∷ []) ≡ bytes_in 2 n
unfolding bytes_in
bytes n = λ i. (let e : n % 65536 % 256 ≡ n % 256 = omega arith in e) i ∷ ((let e : n % 65536 / 256 % 256 ≡ n / 256 % 256 = omega arith in e) i ∷ [])

-- two stores are a list of two stored
stored : (d : List ℕ) (at a b : ℕ) → slice_set (slice_set d at a) (at + 1) b ≡ sets d at (a ∷ b ∷ [])
stored d at a b = simp towards_suc

pub returns : goal.returns
returns c =
    ap (λ (bs : List ℕ). slice_set (slice_set c.args.d.now c.args.at (slice_index_or bs 0 0)) (c.args.at + 1) (slice_index_or bs 1 0)) c.to_le_bytes.ensures
    ∙ stored _ _ _ _ ∙ ap (sets c.args.d.now c.args.at) (bytes c.args.n)
