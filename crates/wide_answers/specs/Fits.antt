-- The tests of lengths, by the numbers of symbols and of data symbols that are counted, and the answers that they give.
use Rattle.std.specs.Prelude.{◌≡◌, refl, Bool, ◌&&◌, List, ℕ, ◌+◌, eqb, length}
use Rattle.std.proofs.Common.{ap, ◌∙◌}
use Rattle.model.specs.Calls.{first_that_applies, page_tests, encode_answer, syndrome_answer, open_answer}
use Rattle.model.specs.Code.{Code, data_count}
use Rattle.model.specs.Decoder.{State}

module _ (k n m : ℕ) (e : n ≡ m) (x y a b : ℕ) (f : x ≡ a) (g : y ≡ b) where
  pub encode_counted : (eqb x n && eqb y (n + k)) ≡ (eqb a m && eqb b (m + k))
  encode_counted = rw (e, f, g) refl

  pub syndrome_counted : (eqb x (n + k) && eqb y k) ≡ (eqb a (m + k) && eqb b k)
  syndrome_counted = rw (e, f, g) refl

  pub open_counted : (s d v w : ℕ) → s ≡ v → d ≡ w → (eqb x (n + k) && (eqb y n && (eqb s k && eqb d n))) ≡ (eqb a (m + k) && (eqb b m && (eqb v k && eqb w m)))
  open_counted s d v w h i = rw (e, f, g, h, i) refl

-- the number r of the tests of a page, whose lengths fit or not, is that of the call that reads u
module _ (c : Code) (u : List ℕ) (r : ℕ) (fits : Bool) (h : r ≡ first_that_applies (page_tests c fits u)) (n : ℕ) (e : n ≡ data_count c) (x y : ℕ) where
  pub encode_number : (l : ℕ) → fits ≡ (eqb x n && eqb y (n + c.k)) → x ≡ length u → y ≡ l → r ≡ encode_answer c u l
  unfolding encode_answer
  encode_number l i f g = h ∙ ap (λ (b : Bool). first_that_applies (page_tests c b u)) (i ∙ encode_counted c.k n (data_count c) e x y (length u) l f g)

  pub syndrome_number : (l : ℕ) → fits ≡ (eqb x (n + c.k) && eqb y c.k) → x ≡ length u → y ≡ l → r ≡ syndrome_answer c u l
  unfolding syndrome_answer
  syndrome_number l i f g = h ∙ ap (λ (b : Bool). first_that_applies (page_tests c b u)) (i ∙ syndrome_counted c.k n (data_count c) e x y (length u) l f g)

  pub open_number : (lent : State) (s d : ℕ) → fits ≡ (eqb x (n + c.k) && (eqb y n && (eqb s c.k && eqb d n))) → x ≡ length u → y ≡ length lent.result → s ≡ length lent.syndrome → d ≡ length lent.difference
      → r ≡ open_answer c u lent
  unfolding open_answer
  open_number lent s d i f g j k =
      h ∙ ap (λ (b : Bool). first_that_applies (page_tests c b u))
      (i ∙ open_counted c.k n (data_count c) e x y (length u) (length lent.result) f g s d (length lent.syndrome) (length lent.difference) j k)
