-- The row of a position, and what one or two rows make of checks, run by run.
use Rattle.std.specs.Prelude.{◌≡◌, refl, List, ◌++◌, ℕ, ◌+◌, ◌-◌, ◌<◌, ◌≤◌, length, take, drop}
use Rattle.std.proofs.Common.{sym, ◌∙◌, arith, length-drop, get_or-take, get_or-drop, length-take-le}
use Rattle.std.proofs.Math.Path.{ap}
use borrow.Rule.Slice.PartMut.{put_mid}
use Rattle.std.proofs.Math.ListN.{get_or, length-take}
use Rattle.model.specs.Symbols.{add, sub, tabulate, add_each, sub_each}
use Rattle.theory.specs.Distance.{length_tabulate, get_d_tabulate, tabulate_ext}
use Rattle.theory.specs.Modulo.{sub_no_borrow, sub_borrow}
use Rattle.theory.specs.Parts.{lead, both}
use Rattle.theory.specs.Written.{tabulate_get_d}

-- the data turned by p: check i gets data symbol (i − p) mod k
unfoldable pub row : ℕ → List ℕ → List ℕ
row p u = tabulate (length u) (λ i. get_or u (sub (length u) i p) 0)

-- what check i becomes when the row of p is added, and when those of p and r are
abbrev pub with_row : ℕ → ℕ → List ℕ → List ℕ → ℕ → ℕ
with_row q p s u i = add q (get_or s i 0) (get_or u (sub (length u) i p) 0)

abbrev pub with_two_rows : ℕ → ℕ → ℕ → List ℕ → List ℕ → ℕ → ℕ
with_two_rows q p r s u i = add q (with_row q p s u i) (get_or u (sub (length u) i r) 0)

-- u from a on and u from b on, added to s as far as s reaches
unfoldable pub with_two_parts : ℕ → ℕ → ℕ → List ℕ → List ℕ → List ℕ
with_two_parts q a b s u = tabulate (length s) (λ i. add q (add q (get_or s i 0) (get_or u (a + i) 0)) (get_or u (b + i) 0))

-- a list by its symbols
listed : (m : ℕ) (f : ℕ → ℕ) (xs : List ℕ) → length xs ≡ m → ((i : ℕ) → i < m → get_or xs i 0 ≡ f i) → xs ≡ tabulate m f
listed m f xs e h = sym (tabulate_get_d xs) ∙ ap (λ (n : ℕ). tabulate n (λ i. get_or xs i 0)) e ∙ tabulate_ext m _ f h

-- a sum of lists by its symbols
pub each_length : (q : ℕ) (xs ys : List ℕ) → length (add_each q xs ys) ≡ length xs
unfolding add_each
each_length q xs ys = length_tabulate (length xs) (λ i. add q (get_or xs i 0) (get_or ys i 0))

pub each_at : (q : ℕ) (xs ys : List ℕ) (i : ℕ) → i < length xs → get_or (add_each q xs ys) i 0 ≡ add q (get_or xs i 0) (get_or ys i 0)
unfolding add_each
each_at q xs ys i h = get_d_tabulate (length xs) (λ o. add q (get_or xs o 0) (get_or ys o 0)) i h

-- a part of a list by its symbols
part_at : (n o : ℕ) (u : List ℕ) (i : ℕ) → i < n → get_or (take n (drop o u)) i 0 ≡ get_or u (o + i) 0
part_at n o u i h = get_or-take n (drop o u) i 0 h ∙ get_or-drop o u i 0

part_length : (n o : ℕ) (u : List ℕ) → o + n ≤ length u → length (take n (drop o u)) ≡ n
part_length n o u h = length-take-le n (drop o u) (omega (arith, length-drop o u))

pub row_length : (p : ℕ) (u : List ℕ) → length (row p u) ≡ length u
unfolding row
row_length p u = length_tabulate (length u) (λ i. get_or u (sub (length u) i p) 0)

pub row_at : (p : ℕ) (u : List ℕ) (i : ℕ) → i < length u → get_or (row p u) i 0 ≡ get_or u (sub (length u) i p) 0
unfolding row
row_at p u i h = get_d_tabulate (length u) (λ o. get_or u (sub (length u) o p) 0) i h

-- a row is straight: check c + i gets symbol o + i, from check p on and before it
module _ (u : List ℕ) (p c o i : ℕ) where
  from_on : p ≤ c → c + i < length u → c ≡ p + o → o + i ≡ sub (length u) (c + i) p
  from_on h w e = omega (arith, sub_no_borrow (length u) (omega arith) (c + i) p (omega arith) (omega arith))

  up_to : c + i < p → p < length u → o ≡ length u - p + c → o + i ≡ sub (length u) (c + i) p
  up_to h w e = omega (arith, sub_borrow (length u) (omega arith) (c + i) p (omega arith) (omega arith))

-- the part of u that is the row of p from check c on
module _ (p : ℕ) (u : List ℕ) (n o c : ℕ) where
  straight_from : p ≤ c → c + n ≤ length u → c ≡ p + o → (i : ℕ) → i < n → get_or (take n (drop o u)) i 0 ≡ get_or u (sub (length u) (c + i) p) 0
  straight_from h w e i l = part_at n o u i l ∙ ap (λ (x : ℕ). get_or u x 0) (from_on u p c o i h (omega arith) e)

  straight_before : c + n ≤ p → p < length u → o ≡ length u - p + c → (i : ℕ) → i < n → get_or (take n (drop o u)) i 0 ≡ get_or u (sub (length u) (c + i) p) 0
  straight_before h w e i l = part_at n o u i l ∙ ap (λ (x : ℕ). get_or u x 0) (up_to u p c o i (omega arith) w e)

-- a symbol of a sum of lists, by the symbols added
sum_at : (q : ℕ) (xs ys : List ℕ) (i a b : ℕ) → i < length xs → get_or xs i 0 ≡ a → get_or ys i 0 ≡ b → get_or (add_each q xs ys) i 0 ≡ add q a b
sum_at q xs ys i a b h d e = each_at q xs ys i h ∙ rw (d, e)

pub less_at : (q : ℕ) (xs ys : List ℕ) (i a b : ℕ) → i < length xs → get_or xs i 0 ≡ a → get_or ys i 0 ≡ b → get_or (sub_each q xs ys) i 0 ≡ sub q a b
unfolding sub_each
less_at q xs ys i a b h d e = get_d_tabulate (length xs) (λ o. sub q (get_or xs o 0) (get_or ys o 0)) i h ∙ rw (d, e)

pub less_length : (q : ℕ) (xs ys : List ℕ) → length (sub_each q xs ys) ≡ length xs
unfolding sub_each
less_length q xs ys = length_tabulate (length xs) (λ o. sub q (get_or xs o 0) (get_or ys o 0))

two_at : (q : ℕ) (xs ys zs : List ℕ) (i a b c : ℕ) → i < length xs → get_or xs i 0 ≡ a → get_or ys i 0 ≡ b → get_or zs i 0 ≡ c
    → get_or (add_each q (add_each q xs ys) zs) i 0 ≡ add q (add q a b) c
two_at q xs ys zs i a b c h d e f = sum_at q (add_each q xs ys) zs i (add q a b) c (omega (arith, each_length q xs ys)) (sum_at q xs ys i a b h d e) f

-- a list s written from a on by r, and then before a by t, whose symbols are those of f
module _ (a : ℕ) (s : List ℕ) (h : a ≤ length s) (f : ℕ → ℕ) where
  put_both : (r t : List ℕ) → length r ≡ length s - a → ((i : ℕ) → i < length s - a → get_or r i 0 ≡ f (a + i))
      → length t ≡ a → ((i : ℕ) → i < a → get_or t i 0 ≡ f (0 + i)) → t ++ drop a (put_mid a (length s - a) s r) ≡ tabulate (length s) f
  put_both r t rl rf tl tf =
      both a s h (length s - a) f r t (listed (length s - a) (λ i. f (a + i)) r rl rf)
      (listed a f t tl (λ i l. tf i l ∙ ap f (let z : 0 + i ≡ i = omega arith in z)))
      ∙ ap (λ (n : ℕ). tabulate n f) (let z : a + (length s - a) ≡ length s = omega arith in z)

module _ (p : ℕ) (s u : List ℕ) (same : length s ≡ length u) (h : p < length u) where
  -- the row of p written over s
  pub copied_row : (r t : List ℕ) → r ≡ take (length u - p) u → t ≡ take (length u - (length u - p)) (drop (length u - p) u)
      → t ++ drop p (put_mid p (length s - p) s r) ≡ row p u
  unfolding row
  copied_row r t d e =
      put_both p s (omega arith) (λ i. get_or u (sub (length u) i p) 0) r t (rw d (simp length-take (omega arith)))
      (λ i l. rw d (straight_from p u (length u - p) 0 p (omega arith) (omega arith) (omega arith) i (omega arith)))
      (rw e (simp (length-take, length-drop) (omega arith)))
      (λ i l. rw e (straight_before p u (length u - (length u - p)) (length u - p) 0 (omega arith) (omega arith) (omega arith) i (omega arith)))
      ∙ ap (λ (n : ℕ). tabulate n (λ i. get_or u (sub (length u) i p) 0)) same

  -- the row of p less v written over s
  pub copied_less : (q : ℕ) (v : List ℕ) → length v ≡ length u → (r t : List ℕ) → r ≡ sub_each q (take (length u - p) u) (take (length v - p) (drop p v))
      → t ≡ sub_each q (take (length u - (length u - p)) (drop (length u - p) u)) (take p v)
      → t ++ drop p (put_mid p (length s - p) s r) ≡ sub_each q (row p u) v
  copied_less q v len r t d e =
      put_both p s (omega arith) (λ i. sub q (get_or u (sub (length u) i p) 0) (get_or v i 0)) r t (rw d (less_length q _ _ ∙ simp length-take (omega arith)))
      (λ i l. rw d (less_at q _ _ i _ _ (simp length-take (omega arith))
      (straight_from p u (length u - p) 0 p (omega arith) (omega arith) (omega arith) i (omega arith)) (part_at (length v - p) p v i (omega arith))))
      (rw e (less_length q _ _ ∙ simp (length-take, length-drop) (omega arith)))
      (λ i l. rw e (less_at q _ _ i _ _ (simp (length-take, length-drop) (omega arith))
      (straight_before p u (length u - (length u - p)) (length u - p) 0 (omega arith) (omega arith) (omega arith) i (omega arith)) (part_at p 0 v i l)))
      ∙ sym (listed (length s) (λ i. sub q (get_or u (sub (length u) i p) 0) (get_or v i 0)) (sub_each q (row p u) v) (less_length q (row p u) v ∙ row_length p u ∙ sym same)
      (λ i l. less_at q (row p u) v i _ _ (omega (arith, row_length p u)) (row_at p u i (omega arith)) refl))

  -- and less s itself
  pub lessened_row : (q : ℕ) (r t : List ℕ) → r ≡ sub_each q (take (length u - p) u) (take (length s - p) (drop p s))
      → t ≡ sub_each q (take (length u - (length u - p)) (drop (length u - p) u)) (take p (put_mid p (length s - p) s r))
      → t ++ drop p (put_mid p (length s - p) s r) ≡ sub_each q (row p u) s
  lessened_row q r t d e = copied_less q s same r t d (e ∙ ap (sub_each q (take (length u - (length u - p)) (drop (length u - p) u))) (lead p s (omega arith) r))

  -- the row of p added to s
  sum_of_row : (q : ℕ) → add_each q s (row p u) ≡ tabulate (length s) (with_row q p s u)
  sum_of_row q = listed (length s) (with_row q p s u) (add_each q s (row p u)) (each_length q s (row p u)) (λ i l. sum_at q s (row p u) i _ _ l refl (row_at p u i (omega arith)))

  pub added_row : (q : ℕ) (r t : List ℕ) → r ≡ add_each q (take (length s - p) (drop p s)) (take (length u - p) u)
      → t ≡ add_each q (take p (put_mid p (length s - p) s r)) (take (length u - (length u - p)) (drop (length u - p) u))
      → t ++ drop p (put_mid p (length s - p) s r) ≡ add_each q s (row p u)
  added_row q r t d e =
      put_both p s (omega arith) (with_row q p s u) r t (rw d (each_length q _ _ ∙ simp (length-take, length-drop) (omega arith)))
      (λ i l. rw d (sum_at q _ _ i _ _ (simp (length-take, length-drop) (omega arith)) (part_at (length s - p) p s i l)
      (straight_from p u (length u - p) 0 p (omega arith) (omega arith) (omega arith) i (omega arith))))
      (rw (e, lead p s (omega arith) r) (each_length q _ _ ∙ simp length-take (omega arith)))
      (λ i l. rw (e, lead p s (omega arith) r) (sum_at q _ _ i _ _ (simp length-take (omega arith)) (part_at p 0 s i l)
      (straight_before p u (length u - (length u - p)) (length u - p) 0 (omega arith) (omega arith) (omega arith) i (omega arith))))
      ∙ sym (sum_of_row q)

-- two parts of u added to s
pub added_parts : (q a b : ℕ) (s u : List ℕ) → add_each q (add_each q s (take (a + length s - a) (drop a u))) (take (b + length s - b) (drop b u)) ≡ with_two_parts q a b s u
unfolding with_two_parts
added_parts q a b s u =
    listed (length s) _ _ (each_length q _ _ ∙ each_length q s _)
    (λ i l. two_at q s _ _ i _ _ _ l refl (part_at (a + length s - a) a u i (omega arith)) (part_at (b + length s - b) b u i (omega arith)))

-- the rows of p and r, of which p comes first
module _ (q p r : ℕ) (u : List ℕ) (first : p ≤ r) (h : r < length u) where
  module _ (s : List ℕ) where
    -- the two parts of u that are the two rows from check o on
    part_is : (n o a b : ℕ) → o + n ≤ length s → ((i : ℕ) → i < n → a + i ≡ sub (length u) (o + i) p) → ((i : ℕ) → i < n → b + i ≡ sub (length u) (o + i) r)
        → with_two_parts q a b (take n (drop o s)) u ≡ tabulate n (λ i. with_two_rows q p r s u (o + i))
    unfolding with_two_parts
    part_is n o a b w d e =
        ap (λ (m : ℕ). tabulate m (λ i. add q (add q (get_or (take n (drop o s)) i 0) (get_or u (a + i) 0)) (get_or u (b + i) 0))) (part_length n o s w)
        ∙ tabulate_ext n _ _ (λ i l. rw (part_at n o s i l, d i l, e i l))

    lead_is : (n a b : ℕ) → n ≤ length s → ((i : ℕ) → i < n → a + i ≡ sub (length u) (0 + i) p) → ((i : ℕ) → i < n → b + i ≡ sub (length u) (0 + i) r)
        → with_two_parts q a b (take n s) u ≡ tabulate n (with_two_rows q p r s u)
    lead_is n a b w d e =
        part_is n 0 a b (omega arith) d e ∙ tabulate_ext n _ _ (λ i l. ap (with_two_rows q p r s u) (let z : 0 + i ≡ i = omega arith in z))

  -- added to the checks before r: x from p on, y before p
  pub added_before : (s : List ℕ) → length s ≡ r → (x y : List ℕ) → x ≡ with_two_parts q 0 (length u - r + p) (take (length s - p) (drop p s)) u
      → y ≡ with_two_parts q (length u - p) (length u - r) (take p (put_mid p (length s - p) s x)) u
      → y ++ drop p (put_mid p (length s - p) s x) ≡ tabulate r (with_two_rows q p r s u)
  added_before s same x y d e =
      both p s (omega arith) (length s - p) (with_two_rows q p r s u) x y
      (d ∙ part_is s (length s - p) p 0 (length u - r + p) (omega arith) (λ i l. from_on u p p 0 i (omega arith) (omega arith) (omega arith))
      (λ i l. up_to u r p (length u - r + p) i (omega arith) (omega arith) (omega arith)))
      (e ∙ ap (λ (l : List ℕ). with_two_parts q (length u - p) (length u - r) l u) (lead p s (omega arith) x)
      ∙ lead_is s p (length u - p) (length u - r) (omega arith) (λ i l. up_to u p 0 (length u - p) i (omega arith) (omega arith) (omega arith))
      (λ i l. up_to u r 0 (length u - r) i (omega arith) (omega arith) (omega arith)))
      ∙ ap (λ (n : ℕ). tabulate n (with_two_rows q p r s u)) (let z : p + (length s - p) ≡ r = omega arith in z)

  sum_of_two : (s : List ℕ) → length s ≡ length u → add_each q (add_each q s (row p u)) (row r u) ≡ tabulate (length s) (with_two_rows q p r s u)
  sum_of_two s same =
      listed (length s) (with_two_rows q p r s u) (add_each q (add_each q s (row p u)) (row r u)) (each_length q _ _ ∙ each_length q s (row p u))
      (λ i l. two_at q s (row p u) (row r u) i _ _ _ l refl (row_at p u i (omega arith)) (row_at r u i (omega arith)))

  -- added to all checks: x from r on, and before r what the checks before r become
  pub added_two : (s : List ℕ) → length s ≡ length u → (x y : List ℕ) → x ≡ with_two_parts q (r - p) 0 (take (length s - r) (drop r s)) u
      → y ≡ tabulate r (with_two_rows q p r (take r (put_mid r (length s - r) s x)) u)
      → y ++ drop r (put_mid r (length s - r) s x) ≡ add_each q (add_each q s (row p u)) (row r u)
  added_two s same x y d e =
      both r s (omega arith) (length s - r) (with_two_rows q p r s u) x y
      (d ∙ part_is s (length s - r) r (r - p) 0 (omega arith) (λ i l. from_on u p r (r - p) i (omega arith) (omega arith) (omega arith))
      (λ i l. from_on u r r 0 i (omega arith) (omega arith) (omega arith)))
      (e ∙ ap (λ (l : List ℕ). tabulate r (with_two_rows q p r l u)) (lead r s (omega arith) x)
      ∙ tabulate_ext r _ _ (λ i l. ap (λ (z : ℕ). add q (add q z (get_or u (sub (length u) i p) 0)) (get_or u (sub (length u) i r) 0)) (get_or-take r s i 0 l)))
      ∙ ap (λ (n : ℕ). tabulate n (with_two_rows q p r s u)) (let z : r + (length s - r) ≡ length s = omega arith in z)
      ∙ sym (sum_of_two s same)
