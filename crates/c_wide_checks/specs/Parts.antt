-- A page in bytes, its data and its checks apart: its syndrome, the page that is written in two parts, and what opening leaves.
use borrow.Rule.Slice.PartMut.{put_mid, Post-is}
use Rattle.std.specs.Prelude.{◌≡◌, refl, List, ◌++◌, ℕ, ◌-◌, ◌*◌, ◌<◌, drop}
use Rattle.std.proofs.Math.Path.{sym, ap}
use Rattle.std.proofs.Common.{◌∙◌, append-nil, arith, length-append, length-drop, take_at, take_all}
use Rattle.std.proofs.Math.ListN.{length, take}
use Rattle.std.proofs.Math.Seq.{drop-length}
use Rattle.model.specs.Bytes.{symbols_of, symbol_bytes, state_written}
use Rattle.model.specs.Code.{Code, data_count, check_count, page_length, syndrome}
use Rattle.model.specs.Decoder.{state_by, opened}
use Rattle.model.specs.Symbols.{Below, tabulate}
use Rattle.theory.specs.Distance.{length_tabulate}
use Rattle.c_wide.specs.Pages.{page_parts, data_written, zeros_written}

module _ (c : Code) (x y u v s : List ℕ) (e : x ≡ u) (f : y ≡ v) (h : s ≡ syndrome c (x ++ y)) where
  pub syndrome_parts : s ≡ syndrome c (u ++ v)
  syndrome_parts = h ∙ rw (e, f) refl

  pub syndrome_length : length s ≡ check_count c
  unfolding syndrome
  syndrome_length = ap length h ∙ length_tabulate (check_count c) _

-- the page whose front is u, with v written behind it
pub written_behind : (u x rest v : List ℕ) → x ≡ u → put_mid (length u) (length (x ++ rest) - length u) (x ++ rest) v ≡ u ++ v
written_behind u x rest v e =
    rw (e, take_at u rest (length u) refl, Post-is (length u) (length (u ++ rest)) (u ++ rest) (simp length-append (omega arith)), drop-length (u ++ rest), append-nil v) refl

-- a page of a code, whose data are its first n bytes
module _ (c : Code) (w : ℕ) (pos : 0 < w) (page : List ℕ) (low : Below 256 page) (whole : length page ≡ page_length c * w) (n : ℕ) (e : n ≡ data_count c * w) where
  pub parts_read : (y : List ℕ) → y ≡ take (length page - n) (drop n page) → symbols_of w (take n page) ++ symbols_of w y ≡ symbols_of w page
  parts_read y f =
      rw (f, e, take_all (length page - data_count c * w) (drop (data_count c * w) page) (simp length-drop (omega arith)))
      (page_parts w pos (data_count c) (check_count c) page low whole)

  pub opened_bytes : (r s d : List ℕ) → r ≡ take n page → s ≡ symbol_bytes w (syndrome c (symbols_of w page)) → d ≡ tabulate (data_count c * w) (λ i. 0)
      → state_by r s d ≡ state_written w (opened c (symbols_of w page))
  unfolding opened
  opened_bytes r s d er es ed =
      let result : r ≡ symbol_bytes w (take (data_count c) (symbols_of w page)) =
      er ∙ ap (λ (m : ℕ). take m page) e ∙ sym (data_written w pos (data_count c) (check_count c) page low whole) in
      let difference : d ≡ symbol_bytes w (tabulate (data_count c) (λ i. 0)) = ed ∙ sym (zeros_written w (data_count c)) in
      λ i. state_by (result i) (es i) (difference i)
