use Rattle.std.proofs.Common.{List, ℕ, ◌+◌, get_or, drop, refl, sym, ap, ◌∙◌, arith}
use Rattle.std.proofs.lemmas.List.Edits.{sets}
use Rattle.model.specs.Files.{contents_of, listed_from, contents_end}
use Rattle.file_lists.specs.Steps.{total_turn, put_turn, contents_turn', contents-end}
use Rattle.file_writer.proofs.put_contents.Goals as goal

pub loop-i-preserved : goal.loop-i-preserved
loop-i-preserved c =
    let l = c.loop-i in
    let ns = c.args.numbers.now in
    let ts = c.args.tops.now in
    let ss = c.args.sizes.now in
    let rest = contents_of (listed_from (l.start + get_or ss l.i 0) (drop (l.i + 1) ns) (drop (l.i + 1) ts) (drop (l.i + 1) ss)) in (
      omega (arith, total_turn ss l.i (omega arith)),
      ap (λ (x : List ℕ). sets x (contents_end (l.i + 1)) rest) c.put_entry.ensures
          ∙ put_turn l.d l.i _ c.contents_end.ensures _ rest
          ∙ ap (λ (x : List ℕ). sets l.d (contents_end l.i) x)
          (sym (contents_turn' ns ts ss c.requires.0 c.requires.1 l.i (omega arith) l.start _ _ _ c.from-number.ensures c.from-top.ensures refl))
          ∙ l.invariant.1,
    )

pub returns : goal.returns
returns c =
    let l = c.loop-i in
    ap (λ (x : List ℕ). sets l.d (contents_end l.i) x) (sym (contents-end c.args.numbers.now c.args.tops.now c.args.sizes.now l.i l.start (omega arith))) ∙ l.invariant.1
