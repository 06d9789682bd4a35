use Rattle.std.proofs.Common.{◌≡◌, refl, ◌∙◌, ap, sym, ◌+◌, ◌*◌, ◌-◌, length, ◌<◌, take, subst, arith, zero-mul}
use Rattle.model.specs.Bytes.{symbol_size, symbol_bytes}
use Rattle.wide_symbols.specs.Numbers.{numbers_length, number_read}
use Rattle.wide_bytes.specs.Places.{wide_place, write_more, write_all}
use Rattle.wide_bytes.proofs.write_symbols.Goals as goal

pub loop-i-init : goal.loop-i-init
unfolding symbol_bytes
loop-i-init g c = rw (zero-mul (symbol_size g.S.WideSymbol.profile)) refl

pub overflow_mul-j-in-loop-i : goal.overflow_mul-j-in-loop-i
overflow_mul-j-in-loop-i g c = let p = wide_place g.met.S.WideSymbol.is_wide (2 * c.loop-i.i) (length c.args.symbols.now) _ c.SIZE-size.ensures (omega arith) in omega arith

pub put-requires : goal.put-requires
put-requires g c = let p = wide_place g.met.S.WideSymbol.is_wide (2 * c.loop-i.i) (length c.args.symbols.now) _ c.SIZE-size.ensures (omega arith) in omega arith

pub overflow_mul-j-in-loop-i-2 : goal.overflow_mul-j-in-loop-i-2
overflow_mul-j-in-loop-i-2 g c = let p = wide_place g.met.S.WideSymbol.is_wide (2 * c.loop-i.i + 1) (length c.args.symbols.now) _ c.SIZE-size.ensures (omega arith) in omega arith

pub put-requires-in-loop-i : goal.put-requires-in-loop-i
put-requires-in-loop-i g c = let p = wide_place g.met.S.WideSymbol.is_wide (2 * c.loop-i.i + 1) (length c.args.symbols.now) _ c.SIZE-size.ensures (omega arith) in omega arith

pub loop-i-preserved : goal.loop-i-preserved
loop-i-preserved g c =
    let h = g.S.WideSymbol in
    let n = g.met.S.Symbol.are_numbers in
    let w = g.met.S.WideSymbol.is_wide in
    let j = 2 * c.loop-i.i in
    let symbols = c.args.symbols.now in
    let xs = g.S.Symbol.numbers symbols in
    let m = symbol_size h.profile in
    let all : length c.args.bytes.now ≡ length xs * m = c.requires.0 ∙ ap (λ k. k * m) (sym (numbers_length n symbols)) in
    let inside : j + 1 < length xs = omega (arith, numbers_length n symbols) in
    let first =
    write_more w xs c.loop-i.bytes (c.loop-i.auto.bytes ∙ all) j c.loop-i.invariant _ _ _ c.SIZE-size.ensures (omega arith)
    (number_read n symbols j (omega arith) c.index-symbols-j.is) c.put.ensures in
    let second =
    write_more w xs c.put.new.bytes (c.put.auto.bytes ∙ c.loop-i.auto.bytes ∙ all) (j + 1) first _ _ _ c.SIZE-size.ensures inside
    (number_read n symbols (j + 1) (omega arith) c.index-symbols-j-in-loop-i.is) c.put-in-loop-i.ensures in
    subst (λ k. take (k * m) c.put-in-loop-i.new.bytes ≡ symbol_bytes m (take k xs)) (let e : j + 1 + 1 ≡ 2 * (c.loop-i.i + 1) = omega arith in e) second

pub overflow_mul-last : goal.overflow_mul-last
overflow_mul-last g c = let p = wide_place g.met.S.WideSymbol.is_wide (length c.args.symbols.now - 1) (length c.args.symbols.now) _ c.SIZE-size.ensures (omega arith) in omega arith

pub put-requires-2 : goal.put-requires-2
put-requires-2 g c = let p = wide_place g.met.S.WideSymbol.is_wide (length c.args.symbols.now - 1) (length c.args.symbols.now) _ c.SIZE-size.ensures (omega arith) in omega arith

pub returns : goal.returns
returns g c =
    let h = g.S.WideSymbol in
    let n = g.met.S.Symbol.are_numbers in
    let w = g.met.S.WideSymbol.is_wide in
    let symbols = c.args.symbols.now in
    let xs = g.S.Symbol.numbers symbols in
    let m = symbol_size h.profile in
    let j = length symbols - 1 in
    let all : length c.args.bytes.now ≡ length xs * m = c.requires.0 ∙ ap (λ k. k * m) (sym (numbers_length n symbols)) in
    let e : 2 * c.loop-i.i ≡ j = omega arith in
    let i = subst (λ k. take (k * m) c.loop-i.bytes ≡ symbol_bytes m (take k xs)) e c.loop-i.invariant in
    write_all w xs c.put-2.new.bytes (c.put-2.auto.bytes ∙ c.loop-i.auto.bytes ∙ all) (j + 1)
    (write_more w xs c.loop-i.bytes (c.loop-i.auto.bytes ∙ all) j i _ _ _ c.SIZE-size.ensures (omega (arith, numbers_length n symbols))
    (number_read n symbols j (omega arith) c.index-symbols-last.is) c.put-2.ensures)
    (omega (arith, numbers_length n symbols))
