use Rattle.std.proofs.Common.{◌≡◌, ◌∙◌, ap, sym, ◌+◌, ◌*◌, ◌-◌, length, set, take, subst, arith, length-set}
use Rattle.model.specs.Bytes.{symbol_size, symbols_of}
use Rattle.wide_bytes.specs.Places.{wide_place, read_more, read_all}
use Rattle.wide_bytes.proofs.read_symbols.Goals as goal

pub overflow_mul-j-in-loop-i-2 : goal.overflow_mul-j-in-loop-i-2
overflow_mul-j-in-loop-i-2 g c = let p = wide_place g.met.S.WideSymbol.is_wide (2 * c.loop-i.i + 1) (length c.loop-i.out) _ c.SIZE-size.ensures (omega arith) in omega arith

pub get-requires-in-loop-i : goal.get-requires-in-loop-i
get-requires-in-loop-i g c = let p = wide_place g.met.S.WideSymbol.is_wide (2 * c.loop-i.i + 1) (length c.args.out.now) _ c.SIZE-size.ensures (omega arith) in omega arith

pub loop-i-preserved : goal.loop-i-preserved
loop-i-preserved g c =
    let h = g.S.WideSymbol in
    let n = g.met.S.Symbol.are_numbers in
    let w = g.met.S.WideSymbol.is_wide in
    let j = 2 * c.loop-i.i in
    let out = c.loop-i.out in
    let bytes = c.args.bytes.now in
    let size : length bytes ≡ length out * symbol_size h.profile = c.requires.0 ∙ ap (λ m. m * symbol_size h.profile) (sym c.loop-i.auto.out) in
    let one = set out j c.get.result in
    let len : length one ≡ length out = length-set out j c.get.result in
    let first = read_more n w bytes out size j c.loop-i.invariant c.get.result _ c.SIZE-size.ensures (omega arith) c.get.ensures in
    let second = read_more n w bytes one (size ∙ ap (λ m. m * symbol_size h.profile) (sym len)) (j + 1) first c.get-in-loop-i.result _ c.SIZE-size.ensures (omega arith) c.get-in-loop-i.ensures in
    subst (λ m. take m (g.S.Symbol.numbers (set one (j + 1) c.get-in-loop-i.result)) ≡ take m (symbols_of (symbol_size h.profile) bytes)) (let e : j + 1 + 1 ≡ 2 * (c.loop-i.i + 1) = omega arith in e) second

pub returns-then-out-eq0 : goal.returns-then-out-eq0
returns-then-out-eq0 g c =
    let h = g.S.WideSymbol in
    read_all g.met.S.Symbol.are_numbers g.met.S.WideSymbol.is_wide c.args.bytes.now c.loop-i.out (c.requires.0 ∙ ap (λ m. m * symbol_size h.profile) (sym c.loop-i.auto.out))
    (2 * c.loop-i.i) c.loop-i.invariant (omega arith)

pub overflow_mul-last : goal.overflow_mul-last
overflow_mul-last g c = let p = wide_place g.met.S.WideSymbol.is_wide (length c.loop-i.out - 1) (length c.args.out.now) _ c.SIZE-size.ensures (omega arith) in omega arith

pub get-requires-2 : goal.get-requires-2
get-requires-2 g c = let p = wide_place g.met.S.WideSymbol.is_wide (length c.loop-i.out - 1) (length c.args.out.now) _ c.SIZE-size.ensures (omega arith) in omega arith

pub returns : goal.returns
returns g c =
    let h = g.S.WideSymbol in
    let n = g.met.S.Symbol.are_numbers in
    let w = g.met.S.WideSymbol.is_wide in
    let out = c.loop-i.out in
    let bytes = c.args.bytes.now in
    let j = length out - 1 in
    let size : length bytes ≡ length out * symbol_size h.profile = c.requires.0 ∙ ap (λ m. m * symbol_size h.profile) (sym c.loop-i.auto.out) in
    let e : 2 * c.loop-i.i ≡ j = omega arith in
    let len : length (set out j c.get-2.result) ≡ length out = length-set out j c.get-2.result in
    let i = subst (λ m. take m (g.S.Symbol.numbers out) ≡ take m (symbols_of (symbol_size h.profile) bytes)) e c.loop-i.invariant in
    read_all n w bytes (set out j c.get-2.result) (size ∙ ap (λ m. m * symbol_size h.profile) (sym len)) (j + 1)
    (read_more n w bytes out size j i c.get-2.result _ c.SIZE-size.ensures (omega arith) c.get-2.ensures) (omega arith)
