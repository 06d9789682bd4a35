-- Entries of a file, and its contents, read back as they were written.
use Rattle.std.specs.Prelude.{◌≡◌, refl, List, [], ◌∷◌, ◌++◌, ℕ, suc, length}
use Rattle.std.proofs.Common.{ap, ◌∙◌, append_assoc, arith, length-append, drop_at}
use Rattle.model.specs.Bytes.{number_of, bytes_in}
use Rattle.model.specs.Files.{number_at, Entry, entry_of, entry_bytes, contents_end, entry_at, entries_from, contents_of}
use Rattle.theory.specs.FileBytes.{Small, AllSmall, length_entry, entry_same}
use Rattle.theory.specs.WideBytes.{number_back}

pub entry_read : (e : Entry) (rest : List ℕ) → Small e → entry_of (entry_bytes e ++ rest) ≡ e
unfolding entry_bytes entry_of bytes_in number_of
entry_read e rest s =
    let a : number_at (entry_bytes e ++ rest) 0 2 ≡ e.number = number_back 2 e.number s.number_small in
    let b : number_at (entry_bytes e ++ rest) 2 1 ≡ e.top = number_back 1 e.top s.top_small in
    let c : number_at (entry_bytes e ++ rest) 3 4 ≡ e.offset = number_back 4 e.offset s.offset_small in
    let d : number_at (entry_bytes e ++ rest) 7 4 ≡ e.size = number_back 4 e.size s.size_small in
    entry_same e a b c d

pub contents_read : (es : List Entry) (pre rest : List ℕ) (place : ℕ) → length pre ≡ contents_end place → AllSmall es
    → entries_from (pre ++ (contents_of es ++ rest)) place (length es) ≡ es
unfolding entries_from contents_of entry_at
contents_read [] pre rest place starts s = refl
contents_read (e ∷ es) pre rest place starts s =
    let whole : pre ++ ((entry_bytes e ++ contents_of es) ++ rest) ≡ (pre ++ entry_bytes e) ++ (contents_of es ++ rest) = simp append_assoc in
    let here : entry_at (pre ++ ((entry_bytes e ++ contents_of es) ++ rest)) place ≡ e =
    ap entry_of (drop_at pre ((entry_bytes e ++ contents_of es) ++ rest) (contents_end place) starts ∙ append_assoc (entry_bytes e) (contents_of es) rest)
    ∙ entry_read e (contents_of es ++ rest) s.0 in
    let next : length (pre ++ entry_bytes e) ≡ contents_end (suc place) = length-append pre (entry_bytes e) ∙ omega (arith, length_entry e, starts) in
    let more : entries_from (pre ++ ((entry_bytes e ++ contents_of es) ++ rest)) (suc place) (length es) ≡ es =
    ap (λ (f : List ℕ). entries_from f (suc place) (length es)) whole ∙ contents_read es (pre ++ entry_bytes e) rest (suc place) next s.1 in
    ap (λ (x : Entry). x ∷ entries_from (pre ++ ((entry_bytes e ++ contents_of es) ++ rest)) (suc place) (length es)) here ∙ ap (λ (l : List Entry). e ∷ l) more
