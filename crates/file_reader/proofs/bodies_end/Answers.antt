use Rattle.std.proofs.Common.{◌≡◌, ℕ, ◌+◌, ◌-◌, Bool, true, List, length, sym, ap, ◌∙◌, arith}
use Rattle.model.specs.Files.{entries_from, entry_at, entry_fits}
use Rattle.theory.specs.FileBytes.{entry-fits}
use Rattle.file_entries.specs.declared.Entry.{Entry}
use Rattle.file_entries.specs.Entries.{entry_in, entry_from}
use Rattle.file_reader.specs.Turns.{end_from, end_turn, end_stop, end_end}
use Rattle.file_reader.proofs.bodies_end.Goals as goal

-- the test of the entry read is that of the entry in the file
tested : (file : List ℕ) (i least start end : ℕ) (x : Entry) (b t : Bool) → x ≡ entry_from (entry_at file i)
    → b ≡ entry_fits least start end (entry_in x) → b ≡ t → entry_fits least start end (entry_at file i) ≡ t
tested file i least start end x b t e f g = sym (ap (λ (y : Entry). entry_fits least start end (entry_in y)) e) ∙ sym f ∙ g

pub returns-then-not-entry_fits : goal.returns-then-not-entry_fits
returns-then-not-entry_fits c =
    let l = c.loop-i in
    sym l.invariant.1
    ∙ end_stop c.args.file.now l.least l.start _ l.i c.args.count (omega arith)
    (tested c.args.file.now l.i l.least l.start _ _ _ _ c.entry_at-e.ensures.0 c.entry_fits.ensures c.if-not-entry_fits.true)

pub loop-i-preserved : goal.loop-i-preserved
loop-i-preserved c =
    let l = c.loop-i in
    let file = c.args.file.now in
    let e = c.entry_at-e.ensures.0 in
    let f : entry_fits l.least l.start (length file) (entry_at file l.i) ≡ true = tested file l.i l.least l.start _ _ _ _ e c.entry_fits.ensures c.if-not-entry_fits.false in (
      omega (arith, (entry-fits l.least l.start _ _ f).next, ap (λ (x : Entry). x.offset) e),
      ap (λ (x : Entry). end_from (x.number + 1) (x.offset + x.size) (length file) (entries_from file (l.i + 1) (c.args.count - (l.i + 1)))) e
          ∙ sym (end_turn file l.least l.start _ l.i c.args.count (omega arith) f) ∙ l.invariant.1,
    )

pub returns : goal.returns
returns c =
    let l = c.loop-i in
    (sym (end_end c.args.file.now l.least l.start _ l.i c.args.count (omega arith)) ∙ l.invariant.1, omega arith)
