use Rattle.std.proofs.Common.{◌≡◌, Bool, ◌&&◌, List, ℕ, ◌+◌, ◌-◌, ◌<◌, take, drop, sym, ap, ◌∙◌, arith}
use Rattle.std.proofs.Math.Nat.{add-sub_cancel_left}
use Rattle.model.specs.Calls.{all_below}
use Rattle.model.specs.Files.{entry_at, entries_from, symbols_fit}
use Rattle.file_entries.specs.declared.Entry.{Entry}
use Rattle.file_entries.specs.Entries.{entry_from}
use Rattle.file_reader.specs.Turns.{symbols_turn, symbols_end, total_turn}
use Rattle.file_reader.proofs.symbols_fit.Goals as goal

-- one body more: its symbols fit where b says so
turn : (file : List ℕ) (start i count : ℕ) (x : Entry) (b more : Bool) → i < count → x ≡ entry_from (entry_at file i)
    → b ≡ all_below (x.top + 1) (take (start + x.size - start) (drop start file))
    → symbols_fit (entries_from file i (count - i)) (drop start file) ≡ more
    → (b && symbols_fit (entries_from file (i + 1) (count - (i + 1))) (drop (start + x.size) file)) ≡ more
turn file start i count x b more h e q m =
    ap (λ (z : Bool). z && symbols_fit (entries_from file (i + 1) (count - (i + 1))) (drop (start + x.size) file))
    (q ∙ ap (λ (n : ℕ). all_below (x.top + 1) (take n (drop start file))) (add-sub_cancel_left start x.size))
    ∙ ap (λ (y : Entry). all_below (y.top + 1) (take y.size (drop start file)) && symbols_fit (entries_from file (i + 1) (count - (i + 1))) (drop (start + y.size) file)) e
    ∙ sym (symbols_turn file start i count h) ∙ m

pub slice_bounds-all_below-end : goal.slice_bounds-all_below-end
slice_bounds-all_below-end c =
    omega (arith, total_turn c.args.file.now c.loop-i.i c.args.count (omega arith), ap (λ (x : Entry). x.size) c.entry_at-e.ensures.0)

pub returns-then-not-all_below : goal.returns-then-not-all_below
returns-then-not-all_below c =
    let l = c.loop-i in
    rw c.if-not-all_below.true at (turn c.args.file.now l.start l.i c.args.count _ _ _ (omega arith) c.entry_at-e.ensures.0 c.all_below.ensures l.invariant.1)

pub loop-i-preserved : goal.loop-i-preserved
loop-i-preserved c =
    let l = c.loop-i in (
      omega (arith, total_turn c.args.file.now l.i c.args.count (omega arith), ap (λ (x : Entry). x.size) c.entry_at-e.ensures.0),
      rw c.if-not-all_below.false at (turn c.args.file.now l.start l.i c.args.count _ _ _ (omega arith) c.entry_at-e.ensures.0 c.all_below.ensures l.invariant.1),
    )

pub returns : goal.returns
returns c = let l = c.loop-i in sym (symbols_end c.args.file.now l.start l.i c.args.count (omega arith)) ∙ l.invariant.1
