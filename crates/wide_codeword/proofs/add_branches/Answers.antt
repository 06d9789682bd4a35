use Rattle.std.proofs.Common.{◌≡◌, ap, ◌∙◌, arith}
use Rattle.model.specs.Code.{highest}
use Rattle.codeword.specs.Sums.{added, added_below}
use Rattle.codeword.specs.Rest.{rest_sum, rest_none}
use Rattle.wide_symbols.specs.Codes.{wide_code_by}
use Rattle.wide_symbols.specs.Widths.{wide_low}
use Rattle.wide_codeword.specs.Parts.{first_part, next_part, part_rows, part_added}
use Rattle.wide_codeword.proofs.add_branches.Goals as goal

pub add_rows-requires : goal.add_rows-requires
add_rows-requires g c =
    let n = g.met.S.Symbol.are_numbers in
    let code = wide_code_by g.S.WideSymbol.profile c.args.code c.args.positions.now in
    let t = first_part n code c.requires.0 c.args.«data».now _ c.checks_each-each.ensures in
    part_rows n code c.requires.0 c.args.«data».now c.requires.1.len 0 _ _ t _ c.requires.2

pub loop-r-init : goal.loop-r-init
loop-r-init g c =
    let n = g.met.S.Symbol.are_numbers in
    let m = g.S.WideSymbol in
    let code = wide_code_by m.profile c.args.code c.args.positions.now in
    let t = first_part n code c.requires.0 c.args.«data».now _ c.checks_each-each.ensures in
    part_added n code c.requires.0 c.args.«data».now c.requires.1.len 0 _ _ t (g.S.Symbol.numbers c.args.sums.now) _ _
    (rest_none code (g.S.Symbol.numbers c.args.«data».now) _ _ c.requires.2) c.add_rows.ensures

pub add_rows-requires-in-loop-r : goal.add_rows-requires-in-loop-r
add_rows-requires-in-loop-r g c =
    let n = g.met.S.Symbol.are_numbers in
    let m = g.S.WideSymbol in
    let q = highest m.profile in
    let code = wide_code_by m.profile c.args.code c.args.positions.now in
    let t = next_part n code c.requires.0 c.args.«data».now _ c.checks_each-each.ensures c.loop-r.r (omega arith) (omega arith) in
    part_rows n code c.requires.0 c.args.«data».now c.requires.1.len c.loop-r.r _ _ t _
    (added_below q (omega (arith, wide_low g.met.S.WideSymbol.is_wide)) c.args.code.k _ (g.S.Symbol.numbers c.args.sums.now) _ c.requires.2.len c.loop-r.invariant)

pub loop-r-preserved : goal.loop-r-preserved
loop-r-preserved g c =
    let n = g.met.S.Symbol.are_numbers in
    let m = g.S.WideSymbol in
    let code = wide_code_by m.profile c.args.code c.args.positions.now in
    let t = next_part n code c.requires.0 c.args.«data».now _ c.checks_each-each.ensures c.loop-r.r (omega arith) (omega arith) in
    part_added n code c.requires.0 c.args.«data».now c.requires.1.len c.loop-r.r _ _ t (g.S.Symbol.numbers c.args.sums.now) _ _ c.loop-r.invariant c.add_rows-in-loop-r.ensures

pub returns : goal.returns
returns g c =
    let m = g.S.WideSymbol in
    let code = wide_code_by m.profile c.args.code c.args.positions.now in
    let e : c.loop-r.r ≡ c.args.code.b = omega (arith, c.requires.0.sizes.b_low) in
    c.loop-r.invariant ∙ ap (λ r. added (highest m.profile) (rest_sum code (g.S.Symbol.numbers c.args.«data».now) r) (g.S.Symbol.numbers c.args.sums.now)) e
