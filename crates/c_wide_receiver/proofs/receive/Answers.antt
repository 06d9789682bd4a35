-- The symbols of the page are read, its data and its checks, and decoded.
use Rattle.std.proofs.Common.{◌≡◌, List, ℕ, ◌++◌, ◌+◌, ◌-◌, ◌*◌, ◌≤◌, ◌<◌, length, take, drop, sym, ◌∙◌, ap, mul-le-mul_right, arith, length-drop, length-take-le, take_all}
use Rattle.model.specs.Bytes.{symbol_size, symbols_of}
use Rattle.model.specs.Code.{Code, data_count, page_length}
use Rattle.model.specs.Decoder.{State}
use Rattle.model.specs.Symbols.{Below}
use Rattle.correction.specs.Decoded.{decoded}
use Rattle.theory.specs.Answers.{Taken}
use Rattle.wide_calls.specs.Received.{taken_loaded}
use Rattle.c_wide.specs.Calls.{bytes_by, some_checks}
use Rattle.c_wide.specs.Pages.{page_parts}
use Rattle.wide_bytes.specs.Places.{wide_some, wide_place}
use Rattle.wide_symbols.specs.Codes.{wide_code_by}
use Rattle.wide_symbols.specs.Numbers.{numbers_length}
use Rattle.wide_symbols.specs.Widths.{wide_size}
use Rattle.c_wide_receiver.proofs.receive.Goals as goal

-- the lengths of a page whose symbols have m bytes, where r and s are those of its data and of its checks, and n that of the marks
record Sized (m r s n : ℕ) (page : List ℕ) : Type 0 where
  len_page : length page ≡ (r + s) * m
  marks : s ≤ n
  data-few : r ≤ 4096
  checks-few : s ≤ 4096

sized : (c : Code) (m r s n : ℕ) (page ts : List ℕ) (lent : State) → 0 < m → Taken c (symbols_of m page) ts lent → length lent.result ≡ r → length lent.syndrome ≡ s → n ≡ data_count c
    → Sized m r s n page
sized c m r s n page ts lent some t e f h =
    let o = t.opens in
    let z = o.usable.table.sizes in
    let k = mul-le-mul_right c.k z.b_low in
    let l : page_length c ≡ r + s = omega (arith, o.len_result, o.len_syndrome, e, f) in
    record {
      len_page = bytes_by m some (page_length c) (omega (arith, some_checks c o.usable)) page o.whole.len ∙ ap (λ (x : ℕ). x * m) l;
      marks = omega (arith, k, h, o.len_syndrome, f);
      data-few = omega (arith, o.len_result, e, z.data-high);
      checks-few = omega (arith, o.len_syndrome, f, z.k_high);
    }

-- the rest of the page
rest : (page : List ℕ) (k : ℕ) → take (length page - k) (drop k page) ≡ drop k page
rest page k = take_all (length page - k) (drop k page) (omega (arith, length-drop k page))

-- what is read: the symbols of the page
loaded : (m : ℕ) → 0 < m → (page : List ℕ) → Below 256 page → (r s : ℕ) → length page ≡ (r + s) * m → (k : ℕ) → k ≡ r * m → {x y : List ℕ}
    → x ≡ symbols_of m (take k page) → y ≡ symbols_of m (take (length page - k) (drop k page)) → x ++ y ≡ symbols_of m page
loaded m some page low r s whole k e f h =
    (λ i. (f ∙ ap (λ (l : ℕ). symbols_of m (take l page)) e) i ++ (h ∙ ap (symbols_of m) (rest page k) ∙ ap (λ (l : ℕ). symbols_of m (drop l page)) e) i)
    ∙ page_parts m some r s page low whole

pub overflow_mul-n : goal.overflow_mul-n
overflow_mul-n g c =
    let a = c.args in
    let h = g.S.WideSymbol in
    let n = numbers_length g.met.S.Symbol.are_numbers in
    let w = g.met.S.WideSymbol.is_wide in
    let m = symbol_size h.profile in
    let k = length a.r.now * c.SIZE.result in
    let e : k ≡ length a.r.now * m = ap (λ (x : ℕ). length a.r.now * x) (c.SIZE.ensures ∙ wide_size w) in
    let z = sized (wide_code_by h.profile a.code a.positions.now) m _ _ _ a.page.now _ _ (wide_some w) c.requires.0 (n a.r.now) (n a.s.now) c.requires.3 in
    let p = wide_place w (length a.r.now) (length a.r.now + 1) _ c.SIZE.ensures (omega arith) in
    omega (arith, z.data-few)

pub slice_bounds-read_symbols-end : goal.slice_bounds-read_symbols-end
slice_bounds-read_symbols-end g c =
    let a = c.args in
    let h = g.S.WideSymbol in
    let n = numbers_length g.met.S.Symbol.are_numbers in
    let w = g.met.S.WideSymbol.is_wide in
    let m = symbol_size h.profile in
    let k = length a.r.now * c.SIZE.result in
    let e : k ≡ length a.r.now * m = ap (λ (x : ℕ). length a.r.now * x) (c.SIZE.ensures ∙ wide_size w) in
    let z = sized (wide_code_by h.profile a.code a.positions.now) m _ _ _ a.page.now _ _ (wide_some w) c.requires.0 (n a.r.now) (n a.s.now) c.requires.3 in
    sym (length-take-le k a.page.now (omega (arith, z.len_page)))

pub read_symbols-requires : goal.read_symbols-requires
read_symbols-requires g c =
    let a = c.args in
    let h = g.S.WideSymbol in
    let n = numbers_length g.met.S.Symbol.are_numbers in
    let w = g.met.S.WideSymbol.is_wide in
    let m = symbol_size h.profile in
    let k = length a.r.now * c.SIZE.result in
    let e : k ≡ length a.r.now * m = ap (λ (x : ℕ). length a.r.now * x) (c.SIZE.ensures ∙ wide_size w) in
    let z = sized (wide_code_by h.profile a.code a.positions.now) m _ _ _ a.page.now _ _ (wide_some w) c.requires.0 (n a.r.now) (n a.s.now) c.requires.3 in
    (length-take-le k a.page.now (omega (arith, z.len_page)) ∙ e, omega (arith, z.data-few))

pub read_symbols-requires-2 : goal.read_symbols-requires-2
read_symbols-requires-2 g c =
    let a = c.args in
    let h = g.S.WideSymbol in
    let n = numbers_length g.met.S.Symbol.are_numbers in
    let w = g.met.S.WideSymbol.is_wide in
    let m = symbol_size h.profile in
    let k = length a.r.now * c.SIZE.result in
    let e : k ≡ length a.r.now * m = ap (λ (x : ℕ). length a.r.now * x) (c.SIZE.ensures ∙ wide_size w) in
    let z = sized (wide_code_by h.profile a.code a.positions.now) m _ _ _ a.page.now _ _ (wide_some w) c.requires.0 (n a.r.now) (n a.s.now) c.requires.3 in
    (ap length (rest a.page.now k) ∙ length-drop k a.page.now ∙ omega (arith, z.len_page), omega (arith, z.checks-few))

pub decode_state-requires : goal.decode_state-requires
decode_state-requires g c =
    let a = c.args in
    let h = g.S.WideSymbol in
    let n = numbers_length g.met.S.Symbol.are_numbers in
    let w = g.met.S.WideSymbol.is_wide in
    let m = symbol_size h.profile in
    let k = length a.r.now * c.SIZE.result in
    let e : k ≡ length a.r.now * m = ap (λ (x : ℕ). length a.r.now * x) (c.SIZE.ensures ∙ wide_size w) in
    let z = sized (wide_code_by h.profile a.code a.positions.now) m _ _ _ a.page.now _ _ (wide_some w) c.requires.0 (n a.r.now) (n a.s.now) c.requires.3 in
    let l = loaded m (wide_some w) a.page.now (λ i. omega (arith, c.type_inv.page i)) _ _ z.len_page k e c.read_symbols.ensures c.read_symbols-2.ensures in (
      taken_loaded (wide_code_by h.profile a.code a.positions.now) _ (g.S.Symbol.numbers a.r.now) (g.S.Symbol.numbers a.s.now) (g.S.Symbol.numbers a.d.now) _ _ l
          (n c.read_symbols.new.out ∙ c.read_symbols.auto.out ∙ sym (n a.r.now)) (n c.read_symbols-2.new.out ∙ c.read_symbols-2.auto.out ∙ sym (n a.s.now)) a.thresholds.now c.requires.0,
      c.requires.1,
      c.requires.2,
      length-take-le _ _ z.marks ∙ sym (n a.s.now) ∙ c.requires.0.opens.len_syndrome,
    )

pub returns : goal.returns
returns g c =
    let a = c.args in
    let h = g.S.WideSymbol in
    let n = numbers_length g.met.S.Symbol.are_numbers in
    let w = g.met.S.WideSymbol.is_wide in
    let m = symbol_size h.profile in
    let k = length a.r.now * c.SIZE.result in
    let e : k ≡ length a.r.now * m = ap (λ (x : ℕ). length a.r.now * x) (c.SIZE.ensures ∙ wide_size w) in
    let z = sized (wide_code_by h.profile a.code a.positions.now) m _ _ _ a.page.now _ _ (wide_some w) c.requires.0 (n a.r.now) (n a.s.now) c.requires.3 in
    let l = loaded m (wide_some w) a.page.now (λ i. omega (arith, c.type_inv.page i)) _ _ z.len_page k e c.read_symbols.ensures c.read_symbols-2.ensures in
    record {
      done = c.decode_state.ensures.done ∙ ap (decoded (wide_code_by h.profile a.code a.positions.now) a.thresholds.now) l;
      counted = c.decode_state.ensures.counted;
    }
