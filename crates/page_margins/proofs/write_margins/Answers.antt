use Rattle.std.proofs.Common.{◌≡◌, ◌<◌, ℕ, ◌+◌, ◌-◌, ◌*◌, List, length, get_or, take, drop, ◌∷◌, sym, ap, ◌∙◌, arith}
use Rattle.model.specs.Code.{Code, checks_by, checks_of}
use Rattle.model.specs.Symbols.{count, symbols_at}
use Rattle.model.specs.Vote.{margin}
use Rattle.theory.specs.Branches.{Branch, passed_none, next-branch, passed_all, checks_at}
use Rattle.params.specs.Codes.{code_by}
use Rattle.checks.specs.Checks.{at_run}
use Rattle.ones.specs.Pages.{bits_at}
use Rattle.zeros.specs.Counts.{length_zero_counts, zero_counts_at}
use Rattle.margins.specs.Margins.{front_none, front_turn, front_all, margins_are, read_back}
use Rattle.page_margins.proofs.write_margins.Goals as goal

-- the checks of symbol j of a branch, by its run as it is lent
checks : (c : Code) (each from at r j : ℕ) → Branch c each from at r → at ≡ r * c.k → j < c.k
    → checks_by c.k (take (from + each - from) (drop from c.positions)) j ≡ checks_of c (at + j)
checks c each from at r j b e h =
    ap (λ (ps : List ℕ). checks_by c.k ps j) b.run ∙ sym (checks_at c r j h) ∙ ap (λ (x : ℕ). checks_of c (x + j)) (sym e)

pub loop-r-init : goal.loop-r-init
loop-r-init c = (passed_none _, front_none _ _ _ (c.requires.3 ∙ sym c.requires.2))

pub bounds-zeros-i : goal.bounds-zeros-i
bounds-zeros-i c =
    let a = c.args in
    let b = next-branch c.requires.0.table.sizes c.loop-r.invariant.0 _ c.checks_each-each.ensures (omega arith) in
    omega (arith, ap length c.requires.1, length_zero_counts (code_by a.code a.positions.now) a.s.now, b.data_in)

pub margin_at-requires : goal.margin_at-requires
margin_at-requires c =
    let a = c.args in
    let q = c.requires in
    let code = code_by a.code a.positions.now in
    let w = c.loop-r.invariant.0 in
    let i : ℕ = c.loop-r.at + c.loop-j.j in
    let b = next-branch q.0.table.sizes w _ c.checks_each-each.ensures (omega arith) in (
      rw b.run (at_run code q.0.table c.loop-r._r (omega arith) a.s.now q.0.len),
      omega arith,
      ap (λ (l : List ℕ). get_or l i 0) q.1 ∙ zero_counts_at code a.s.now i (omega (arith, b.data_in))
          ∙ ap (λ (is : List ℕ). count 0 (symbols_at a.s.now is)) (sym (checks code _ _ _ _ c.loop-j.j b w.data_at (omega arith))),
      bits_at a.bits a.s.now a.d.now i q.4,
    )

pub loop-j-preserved : goal.loop-j-preserved
loop-j-preserved c =
    let a = c.args in
    let q = c.requires in
    let code = code_by a.code a.positions.now in
    let w = c.loop-r.invariant.0 in
    let i : ℕ = c.loop-r.at + c.loop-j.j in
    let b = next-branch q.0.table.sizes w _ c.checks_each-each.ensures (omega arith) in
    let e : i + 1 ≡ c.loop-r.at + (c.loop-j.j + 1) = omega arith in
    rw (sym e) (front_turn _ _ _ _ c.loop-j.invariant (omega (arith, b.data_in, q.2)) _
    (read_back _ c.margin_at.type_inv ∙ c.margin_at.ensures
    ∙ ap (λ (is : List ℕ). margin (get_or a.d.now i 0 ∷ symbols_at a.s.now is)) (checks code _ _ _ _ c.loop-j.j b w.data_at (omega arith))))

pub returns : goal.returns
returns c r =
    let e = passed_all c.requires.0.table.sizes c.loop-r.invariant.0 (omega arith) in
    front_all _ _ _ _ c.loop-r.invariant.1 (omega (arith, e, c.requires.2)) ∙ margins_are _ r _ _ _ c.requires.2
