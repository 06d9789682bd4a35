-- What the rows make: the check symbols of the data, a page, and a page's syndrome.
use Rattle.std.specs.Prelude.{◌≡◌, refl, List, ◌++◌, length, take, drop}
use Rattle.std.proofs.Math.Path.{ap}
use Rattle.std.proofs.Common.{sym, ◌∙◌, append-nil, arith, length-append, length-take, length-drop, take_all, take_at, drop_at, take-take, length-take-le}
use Prim.Native.Nat.{ℕ, ◌+◌, ◌-◌, ◌%◌, ◌<◌, ◌≤◌}
use Rattle.std.proofs.Math.Nat.{mod-add-mod}
use borrow.Rule.Slice.PartMut.{put_mid, Post-is}
use Rattle.std.proofs.Math.ListN.{get_or}
use Rattle.std.proofs.Math.Seq.{drop-length}
use Rattle.model.specs.Symbols.{add, sub, tabulate, sub_each}
use Rattle.model.specs.Code.{Code, data_count, page_length, check_symbol, check_symbols, code_word, data_of, syndrome}
use Rattle.model.specs.Limits.{TableLimits}
use Rattle.theory.specs.Distance.{tabulate_ext}
use Rattle.theory.specs.Modulo.{by_eq}
use Rattle.rows.specs.Rows.{row, row_length, row_at, less_length, less_at}
use Rattle.codeword.specs.Sums.{added}
use Rattle.codeword.specs.Rest.{rest_sum, one-branch, all_rows}

-- the row of the first position, in branch 0 of the data u
abbrev pub first_row : Code → List ℕ → List ℕ
first_row c u = row (get_or c.positions 0 0) (take c.k u)

-- what is subtracted first is subtracted from the sum
less_turned : (q x y z : ℕ) → (sub q x y + z) % q ≡ sub q ((x + z) % q) y
unfolding sub
less_turned q x y z = mod-add-mod (x + (q - y)) q z ∙ by_eq q {x = x + (q - y) + z} {y = x + z + (q - y)} (omega arith) ∙ sym (mod-add-mod (x + z) q (q - y))

module _ (c : Code) (l : TableLimits c) (u : List ℕ) (whole : c.k ≤ length u) where
  first_length : length (first_row c u) ≡ c.k
  first_length = row_length (get_or c.positions 0 0) (take c.k u) ∙ length-take-le c.k u whole

  first_at : (i : ℕ) → i < c.k → get_or (first_row c u) i 0 ≡ get_or (take c.k u) (sub c.k i (get_or c.positions 0 0)) 0
  first_at i h =
      row_at (get_or c.positions 0 0) (take c.k u) i (rw (length-take-le c.k u whole) h)
      ∙ ap (λ (n : ℕ). get_or (take c.k u) (sub n i (get_or c.positions 0 0)) 0) (length-take-le c.k u whole)

  -- from that row on, the rest makes the check symbols
  pub checks_written : added c.q (rest_sum c u c.b) (first_row c u) ≡ check_symbols c u
  unfolding added add check_symbols check_symbol
  checks_written =
      ap (λ (n : ℕ). tabulate n (λ i. (get_or (first_row c u) i 0 + rest_sum c u c.b i) % c.q)) first_length
      ∙ tabulate_ext c.k _ _ (λ i h.
      ap (λ (x : ℕ). (x + rest_sum c u c.b i) % c.q) (first_at i h) ∙ by_eq c.q (all_rows c l u i))

  -- and from that row less v on, the check symbols less v
  less_written : (v : List ℕ) → added c.q (rest_sum c u c.b) (sub_each c.q (first_row c u) v)
      ≡ tabulate c.k (λ i. sub c.q (check_symbol c u i) (get_or v i 0))
  unfolding added add check_symbol
  less_written v =
      ap (λ (n : ℕ). tabulate n (λ i. (get_or (sub_each c.q (first_row c u) v) i 0 + rest_sum c u c.b i) % c.q))
      (less_length c.q (first_row c u) v ∙ first_length)
      ∙ tabulate_ext c.k _ _ (λ i h.
      let x : ℕ = get_or (take c.k u) (sub c.k i (get_or c.positions 0 0)) 0 in
      ap (λ (y : ℕ). (y + rest_sum c u c.b i) % c.q) (less_at c.q (first_row c u) v i x (get_or v i 0) (omega (arith, first_length)) (first_at i h) refl)
      ∙ less_turned c.q x (get_or v i 0) (rest_sum c u c.b i)
      ∙ ap (λ (s : ℕ). sub c.q (s % c.q) (get_or v i 0)) (all_rows c l u i))

-- a page's syndrome, from its front, its data and its checks as they are lent
pub syndrome_written : (c : Code) (l : TableLimits c) (page : List ℕ) (n : ℕ) → length page ≡ page_length c → n ≡ data_count c
    → added c.q (rest_sum c (take n page) c.b) (sub_each c.q (row (get_or c.positions 0 0) (take c.k page)) (take (length page - n) (drop n page)))
    ≡ syndrome c page
unfolding syndrome
syndrome_written c l page n len e = rw (
  e,
  take_all (length page - data_count c) (drop (data_count c) page) (simp length-drop (omega arith)),
  sym (take-take c.k (data_count c) page (one-branch c l)),
) (less_written c l (data_of c page) (simp length-take (omega (arith, one-branch c l))) (drop (data_count c) page))

-- the same, of data u and checks v that are lent apart
pub syndrome_over : (c : Code) (l : TableLimits c) (u v : List ℕ) → length u ≡ data_count c
    → added c.q (rest_sum c u c.b) (sub_each c.q (row (get_or c.positions 0 0) (take c.k u)) v) ≡ syndrome c (u ++ v)
unfolding syndrome
syndrome_over c l u v len = rw (take_at u v (data_count c) len, drop_at u v (data_count c) len) (less_written c l u (omega (arith, one-branch c l)) v)

-- the page that holds v at its front, with cs written from the end of v on
front_written : (u v rest cs ds : List ℕ) → v ≡ u → cs ≡ ds → put_mid (length u) (length (v ++ rest) - length u) (v ++ rest) cs ≡ u ++ ds
front_written u v rest cs ds e f =
    rw (e, f, take_at u rest (length u) refl, Post-is (length u) (length (u ++ rest)) (u ++ rest) (simp length-append (omega arith)), drop-length (u ++ rest), append-nil ds) refl

-- the part of a page behind its front has what is left of it
pub behind_length : (page : List ℕ) (n m : ℕ) → length page ≡ n + m → length (take (length page - n) (drop n page)) ≡ m
behind_length page n m e = simp (length-take, length-drop) (omega (arith, e))

-- the page of the data u: u is copied to its front, the first row is written behind it, and the others are added to that
pub page_written : (c : Code) → TableLimits c → (u v rest rs cs : List ℕ) → length u ≡ data_count c → v ≡ u → rs ≡ first_row c u → cs ≡ added c.q (rest_sum c u c.b) rs
    → put_mid (length u) (length (v ++ rest) - length u) (v ++ rest) cs ≡ code_word c u
unfolding code_word
page_written c l u v rest rs cs len e f g =
    front_written u v rest cs (check_symbols c u) e
    (g ∙ ap (added c.q (rest_sum c u c.b)) f ∙ checks_written c l u (omega (arith, len, one-branch c l)))
