use Rattle.std.proofs.Common.{List, ℕ, ◌+◌, ◌%◌, ap, ◌∙◌, set}
use Rattle.std.proofs.lemmas.List.Edits.{sets}
use Rattle.model.specs.Bytes.{word_of}
use Rattle.file_entries.specs.Entries.{entry_put}
use Rattle.file_entries.proofs.put_entry.Goals as goal

pub returns : goal.returns
returns c =
    let at = c.args.at in
    let e = c.args.e in
    c.put_word-2.ensures
    ∙ ap (λ (l : List ℕ). sets l (at + 7) (word_of e.size)) (c.put_word.ensures
    ∙ ap (λ (l : List ℕ). sets (set l (at + 2) (e.top % 256)) (at + 3) (word_of e.offset)) c.put_two.ensures)
    ∙ entry_put c.args.d.now at e.number e.top e.offset e.size
