-- Numbers written as bytes, four for each: the counts, the changes of a pass, the answer of explain.
use Rattle.std.specs.Prelude.{◌≡◌, List, ◌++◌, ℕ, ◌+◌, ◌/◌, ◌%◌, ◌≤◌, length, take, drop}
use Rattle.std.proofs.Common.{ap, sym, ◌∙◌, append-nil, append_assoc, arith, drop_of_length-le}
use Rattle.std.proofs.lemmas.List.{drop-drop}
use Rattle.std.proofs.lemmas.List.Edits.{sets, sets-eq}
use borrow.Rule.Slice.PartMut.{put_mid}
use Rattle.model.specs.Bytes.{word_of, bytes_of, explained_bytes}

-- ---- bytes copied over a part of a slice are stores, one after the other

pub part_stored : (bytes d : List ℕ) (at k : ℕ) → at + length bytes ≤ length d → k ≡ length bytes → put_mid at k d bytes ≡ sets d at bytes
part_stored bytes d at k h e =
    ap (λ (m : ℕ). put_mid at m d bytes) e ∙ ap (λ (l : List ℕ). take at d ++ (bytes ++ l)) (drop-drop (length bytes) at d)
    ∙ sym (append_assoc (take at d) bytes (drop (at + length bytes) d)) ∙ sym (sets-eq bytes d at h)

-- ---- the counts

pub counts_written : (d : List ℕ) (a b e f : ℕ) → length d ≡ 16
    → sets (sets (sets (sets d 0 (word_of a)) 4 (word_of b)) 8 (word_of e)) 12 (word_of f) ≡ bytes_of (record { passes = a; changes = b; start = e; end = f })
unfolding bytes_of
counts_written d a b e f h =
    let vs : List ℕ = word_of a ++ word_of b ++ word_of e ++ word_of f in
    sets-eq vs d 0 (omega arith) ∙ ap (λ (l : List ℕ). vs ++ l) (drop_of_length-le d {i = 16} (omega arith)) ∙ append-nil vs

-- ---- the changes of a pass

pub word_written : (d : List ℕ) (n : ℕ) → length d ≡ 4 → sets d 0 (word_of n) ≡ word_of n
word_written d n h =
    sets-eq (word_of n) d 0 (omega arith) ∙ ap (λ (l : List ℕ). word_of n ++ l) (drop_of_length-le d {i = 4} (omega arith)) ∙ append-nil (word_of n)

-- ---- the answer of explain

pub answer_written : (d : List ℕ) (g h m n bits : ℕ) → length d ≡ 24
    → sets (sets (sets (sets (sets (sets d 0 (word_of g)) 4 (word_of h)) 8 (word_of m)) 12 (word_of n)) 16 (word_of (bits % 4294967296))) 20 (word_of (bits / 4294967296))
    ≡ explained_bytes (record { ground_number = g; leader = h; lead = m; next = n; bits = bits })
unfolding explained_bytes
answer_written d g h m n bits e =
    let vs : List ℕ = word_of g ++ word_of h ++ word_of m ++ word_of n ++ word_of (bits % 4294967296) ++ word_of (bits / 4294967296) in
    sets-eq vs d 0 (omega arith) ∙ ap (λ (l : List ℕ). vs ++ l) (drop_of_length-le d {i = 24} (omega arith)) ∙ append-nil vs
