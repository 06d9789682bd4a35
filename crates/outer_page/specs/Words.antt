-- A page that is the code word of its data, and stays one where h is subtracted from a data symbol and from its checks.
use Rattle.std.specs.Prelude.{◌≡◌}
use Rattle.std.proofs.Math.Path.{ap, sym, subst}
use Rattle.std.proofs.Common.{◌∙◌, arith, length-set, drop_of_length-le, take_at}
use mathlib.Core.List.{List, ◌++◌, append-nil}
use Prim.Native.Nat.{ℕ, ◌-◌, ◌%◌, ◌≤◌, ◌<◌}
use Rattle.std.proofs.Math.Nat.{mod-lt}
use borrow.Rule.Slice.PartMut.{put_mid}
use Rattle.std.proofs.Math.ListN.{length, get_or, set, take, drop, length-append, length-drop, get_or-append}
use Rattle.std.proofs.Math.Seq.{take_all, drop_at, set-append_left, ext_get_or}
use Rattle.model.specs.Code.{Code, data_count, check_count, page_length, checks_of, check_symbols, code_word, data_of}
use Rattle.model.specs.Decoder.{State, change}
use Rattle.model.specs.Symbols.{sub, Below, tabulate, subtract_at}
use Rattle.theory.specs.Codes.{Usable, code_incidence, check-symbols}
use Rattle.theory.specs.Distance.{length_tabulate, get_d_tabulate, below_tabulate, check_symbols_of, Tied, Received, change_tied}
use Rattle.theory.specs.Modulo.{sub_lt, sub_no_borrow}
use Rattle.theory.specs.Steps.{check_sum, SymbolsBelow, Sized, below_set, length_subtract_at}

-- the code word of its data symbols
pub record IsWord (c : Code) (page : List ℕ) : Type 0 where
  pub symbols : SymbolsBelow c.q (data_count c) (data_of c page)
  pub word : page ≡ code_word c (data_of c page)

-- the code word of data symbols is one
pub word_data : (c : Code) (w page : List ℕ) → length w ≡ data_count c → page ≡ code_word c w → data_of c page ≡ w
unfolding code_word
word_data c w page n e = ap (data_of c) e ∙ take_at w (check_symbols c w) (data_count c) n

pub is_word : (c : Code) (w page : List ℕ) → SymbolsBelow c.q (data_count c) w → page ≡ code_word c w → IsWord c page
is_word c w page s e =
    let d = word_data c w page s.len e in
    record { symbols = subst (SymbolsBelow c.q (data_count c)) (sym d) s; word = e ∙ ap (code_word c) (sym d) }

-- data with one symbol less h
pub replaced : (q n : ℕ) → 0 < q → (w : List ℕ) → SymbolsBelow q n w → (j h : ℕ) → SymbolsBelow q n (set w j (sub q (get_or w j 0) h))
replaced q n pos w s j h = record { len = length-set w j _ ∙ s.len; low = below_set q w j _ (sub_lt q pos (get_or w j 0) h) s.low }

module _ (c : Code) (l : Usable c) where
  pos : 0 < c.q
  pos = omega (arith, l.q_low)

  less_none : (x : ℕ) → x < c.q → sub c.q x 0 ≡ x
  less_none x h = sub_no_borrow c.q pos x 0 h (omega arith) ∙ omega arith

  checks_length : (w : List ℕ) → length (check_symbols c w) ≡ check_count c
  unfolding check_symbols
  checks_length w = length_tabulate (check_count c) _

  checks_below : (w : List ℕ) → Below c.q (check_symbols c w)
  unfolding check_symbols_of
  checks_below w = rw (check-symbols c l.table w) (below_tabulate c.q pos (check_count c) _ (λ i. mod-lt (check_sum (data_count c) (checks_of c) w i) pos))

  check_at : (w : List ℕ) (i : ℕ) → i < check_count c → get_or (check_symbols c w) i 0 ≡ check_sum (data_count c) (checks_of c) w i % c.q
  unfolding check_symbols_of
  check_at w i h = ap (λ (s : List ℕ). get_or s i 0) (check-symbols c l.table w) ∙ get_d_tabulate (check_count c) _ i h

  -- where data symbol j is less h, so are its checks. The checks are the syndrome against a page of zeros.
  pub checks_less : (w : List ℕ) → SymbolsBelow c.q (data_count c) w → (j h : ℕ) → j < data_count c → h < c.q
      → subtract_at c.q h (checks_of c j) (check_symbols c w) ≡ check_symbols c (set w j (sub c.q (get_or w j 0) h))
  unfolding change
  checks_less w s j h hj hh =
      let q : ℕ = c.q in
      let n : ℕ = data_count c in
      let k : ℕ = check_count c in
      let inc = code_incidence c l in
      let zeros : ℕ → List ℕ = (λ m. tabulate m (λ i. 0)) in
      let none : (m i : ℕ) → i < m → get_or (zeros m) i 0 ≡ 0 = (λ m i b. get_d_tabulate m (λ i. 0) i b) in
      let st : State = record { result = w; syndrome = check_symbols c w; difference = w } in
      let got : Received q n k (zeros n) (zeros k) = record {
        len_x = length_tabulate n _;
        len_y = length_tabulate k _;
        in_x = below_tabulate q pos n _ (λ i. pos);
        in_y = below_tabulate q pos k _ (λ i. pos);
      } in
      let tied : Tied q n k (checks_of c) (zeros n) (zeros k) st = record {
        difference_is = (λ i b. sym (ap (sub q (get_or w i 0)) (none n i b) ∙ less_none (get_or w i 0) (s.low i)));
        syndrome_is = (λ i b. check_at w i b ∙ sym (ap (sub q (check_sum n (checks_of c) w i % q)) (none k i b) ∙ less_none (check_sum n (checks_of c) w i % q) (mod-lt (check_sum n (checks_of c) w i) pos)));
      } in
      let sized : Sized q n k st = record {
        len_result = s.len;
        len_syndrome = checks_length w;
        len_difference = s.len;
        in_result = s.low;
        in_syndrome = checks_below w;
        in_difference = s.low;
      } in
      let after = change_tied q n k pos (checks_of c) (zeros n) (zeros k) got j h st sized hj hh (inc.apart j hj) (inc.inside j hj) tied in
      let v : List ℕ = set w j (sub q (get_or w j 0) h) in
      let len = length_subtract_at q h (checks_of c j) (check_symbols c w) ∙ checks_length w in
      ext_get_or 0 _ _ (len ∙ sym (checks_length v)) (λ i b.
      let b' : i < k = subst (λ (m : ℕ). i < m) len b in
      after.syndrome_is i b' ∙ ap (sub q (check_sum n (checks_of c) v i % q)) (none k i b')
      ∙ less_none (check_sum n (checks_of c) v i % q) (mod-lt (check_sum n (checks_of c) v i) pos) ∙ sym (check_at v i b'))

  pub word_length : (page : List ℕ) → IsWord c page → length page ≡ page_length c
  unfolding code_word
  word_length page w = ap length w.word ∙ length-append (data_of c page) (check_symbols c (data_of c page)) ∙ omega (arith, w.symbols.len, checks_length (data_of c page))

  -- such a page, of which the part from n on is lent
  module _ (page : List ℕ) (w : IsWord c page) (n : ℕ) (e : n ≡ data_count c) where
    abbrev front : List ℕ
    front = data_of c page

    pub data_inside : n ≤ length page
    data_inside = omega (arith, word_length page w)

    -- it holds the checks
    pub lent_checks : take (length page - n) (drop n page) ≡ check_symbols c front
    unfolding code_word
    lent_checks =
        take_all (length page - n) (drop n page) (omega (arith, length-drop n page))
        ∙ ap (λ (m : ℕ). drop m page) e ∙ ap (drop (data_count c)) w.word ∙ drop_at front (check_symbols c front) (data_count c) w.symbols.len

    pub lent_length : length (take (length page - n) (drop n page)) ≡ check_count c
    lent_length = ap length lent_checks ∙ checks_length front

    pub lent_below : Below c.q (take (length page - n) (drop n page))
    lent_below = subst (Below c.q) (sym lent_checks) (checks_below front)

    -- data symbol j is that of the data
    pub lent_symbol : (j : ℕ) → j < data_count c → get_or page j 0 ≡ get_or front j 0
    unfolding code_word
    lent_symbol j h = ap (λ (s : List ℕ). get_or s j 0) w.word ∙ get_or-append front (check_symbols c front) 0 j (omega (arith, w.symbols.len))

    -- the page with the checks less h, and then the symbol
    pub page_less : (j h : ℕ) → j < data_count c → h < c.q → (part : List ℕ) → part ≡ subtract_at c.q h (checks_of c j) (take (length page - n) (drop n page))
        → (v : ℕ) → v ≡ sub c.q (get_or page j 0) h
        → set (put_mid n (length page - n) page part) j v ≡ code_word c (set front j (sub c.q (get_or front j 0) h))
    unfolding code_word
    page_less j h hj hh part p v d =
        let x : ℕ = sub c.q (get_or front j 0) h in
        let parts : put_mid n (length page - n) page part ≡ front ++ part =
        ap (λ (s : List ℕ). take n page ++ (part ++ s)) (drop_of_length-le (drop n page) {i = length page - n} (omega (arith, length-drop n page)))
        ∙ ap (λ (s : List ℕ). take n page ++ s) (append-nil part) ∙ ap (λ (m : ℕ). take m page ++ part) e in
        ap (λ (s : List ℕ). set s j v) parts
        ∙ ap (set (front ++ part) j) (d ∙ ap (λ (y : ℕ). sub c.q y h) (lent_symbol j hj))
        ∙ set-append_left front part j x (omega (arith, w.symbols.len))
        ∙ ap (λ (s : List ℕ). set front j x ++ s)
        (p ∙ ap (subtract_at c.q h (checks_of c j)) lent_checks ∙ checks_less front w.symbols j h hj hh)
