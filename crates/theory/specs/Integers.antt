-- Differences of two numbers as integers: their order and equality, by numbers alone.
use Rattle.std.specs.Prelude.{◌≡◌, refl, ◌↔◌, not, ℕ, zero, suc, ◌+◌, ◌-◌, ◌≤◌, ◌<◌, T, leb, ltb, ℤ, pos, negsuc, neg_ℤ, ◌+ℤ◌, ◌-ℤ◌, ◌≤ℤ◌, ◌<ℤ◌}
use Rattle.std.proofs.Common.{sym, ap, ◌∙◌, subst, arith, leb→le, le→leb, ltb→lt, lt→ltb, lt-ltb, le-ltb}
use Rattle.std.proofs.Math.Decide.{ℕ_discrete, dec_le, dec_lt}
use Rattle.std.proofs.Math.IntN.{+ℤ_idl, +ℤ_idr, +ℤ_assoc}
use Rattle.std.specs.Int.Signed.{lt_z, le_z, lt_z_yes, lt_z_no, ≤ℤ_refl, <ℤ-≤ℤ_trans}
use Rattle.model.specs.Outer.{least_below}
use Rattle.theory.specs.Counting.{is_true, is_false}
use Rattle.theory.specs.Falling.{choose_case}

-- a − b, where b is at most a and where it is above
minus_case : (a b : ℕ) (P : ℤ → Type 0) → (b ≤ a → P (pos (a - b))) → (a < b → P (negsuc (b - suc a))) → P (pos a -ℤ pos b)
minus_case a zero P f g = subst (λ (n : ℕ). P (pos n)) (let e : a - zero ≡ a + zero = omega arith in e) (f (omega arith))
minus_case a (suc b) P f g = elim (dec_lt a (suc b)) as (λ o. P (pos a -ℤ pos (suc b)))
    [ yes h ↦ simp (lt-ltb a (suc b) h) (g h) | no h ↦ simp (le-ltb a (suc b) (omega arith)) (f (omega arith)) ]

leb_iff : (a b c d : ℕ) → (a ≤ b → c ≤ d) → (c ≤ d → a ≤ b) → leb a b ≡ leb c d
leb_iff a b c d f g = elim (dec_le a b) as (λ o. leb a b ≡ leb c d) [
  | yes h ↦ is_true (leb a b) (le→leb a b h) ∙ sym (is_true (leb c d) (le→leb c d (f h)))
  | no h ↦ is_false (leb a b) (λ t. h (leb→le a b t)) ∙ sym (is_false (leb c d) (λ t. h (g (leb→le c d t))))
]

-- the order of two differences
minus_le_z : (a b c d : ℕ) → le_z (pos a -ℤ pos b) (pos c -ℤ pos d) ≡ leb (a + d) (c + b)
minus_le_z a b c d = minus_case a b (λ x. le_z x (pos c -ℤ pos d) ≡ leb (a + d) (c + b))
    (λ h. minus_case c d (λ y. le_z (pos (a - b)) y ≡ leb (a + d) (c + b))
    (λ k. leb_iff (a - b) (c - d) (a + d) (c + b) (λ z. omega arith) (λ z. omega arith))
    (λ k. sym (is_false (leb (a + d) (c + b)) (λ t. absurd (omega (arith, leb→le (a + d) (c + b) t))))))
    (λ h. minus_case c d (λ y. le_z (negsuc (b - suc a)) y ≡ leb (a + d) (c + b))
    (λ k. sym (is_true (leb (a + d) (c + b)) (le→leb (a + d) (c + b) (omega arith))))
    (λ k. leb_iff (d - suc c) (b - suc a) (a + d) (c + b) (λ z. omega arith) (λ z. omega arith)))

-- strictly
ltb_leb : (a b : ℕ) → ltb a b ≡ not (leb b a)
ltb_leb a b = elim (dec_le b a) as (λ o. ltb a b ≡ not (leb b a)) [
  | yes h ↦ is_false (ltb a b) (λ t. absurd (omega (arith, ltb→lt a b t))) ∙ sym (ap not (is_true (leb b a) (le→leb b a h)))
  | no h ↦ is_true (ltb a b) (lt→ltb a b (omega arith)) ∙ sym (ap not (is_false (leb b a) (λ t. h (leb→le b a t))))
]

lt_z_le_z : (x y : ℤ) → lt_z x y ≡ not (le_z y x)
lt_z_le_z (pos a) (pos b) = ltb_leb a b
lt_z_le_z (pos a) (negsuc b) = refl
lt_z_le_z (negsuc a) (pos b) = refl
lt_z_le_z (negsuc a) (negsuc b) = ltb_leb b a

pub minus_lt_z : (a b c d : ℕ) → lt_z (pos a -ℤ pos b) (pos c -ℤ pos d) ≡ ltb (a + d) (c + b)
minus_lt_z a b c d = lt_z_le_z (pos a -ℤ pos b) (pos c -ℤ pos d) ∙ ap not (minus_le_z c d a b) ∙ sym (ltb_leb (a + d) (c + b))

pub minus_le : (a b c d : ℕ) → ((pos a -ℤ pos b) ≤ℤ (pos c -ℤ pos d)) ↔ (a + d ≤ c + b)
minus_le a b c d = (
  λ h. leb→le (a + d) (c + b) (subst T (minus_le_z a b c d) h.le),
  λ h. record { le = subst T (sym (minus_le_z a b c d)) (le→leb (a + d) (c + b) h) },
)

-- and when they are equal
pub minus_eq : (a b c d : ℕ) → (pos a -ℤ pos b ≡ pos c -ℤ pos d) ↔ (a + d ≡ c + b)
minus_eq a b c d = (
  (λ e.
      let x : a + d ≤ c + b = (minus_le a b c d).0 (subst (λ (z : ℤ). (pos a -ℤ pos b) ≤ℤ z) e ((minus_le a b a b).1 (omega arith))) in
      let y : c + b ≤ a + d = (minus_le c d a b).0 (subst (λ (z : ℤ). z ≤ℤ (pos a -ℤ pos b)) e ((minus_le a b a b).1 (omega arith))) in
      omega arith),
  (λ e. minus_case a b (λ x. x ≡ pos c -ℤ pos d)
      (λ h. minus_case c d (λ y. pos (a - b) ≡ y) (λ k. ap pos (omega arith)) (λ k. absurd (omega arith)))
      (λ h. minus_case c d (λ y. negsuc (b - suc a) ≡ y) (λ k. absurd (omega arith)) (λ k. ap negsuc (omega arith)))),
)

-- a number, and a number's negative, as such differences
pub whole : (n : ℕ) → pos n -ℤ pos 0 ≡ pos n
whole n = +ℤ_idr (pos n)

pub minus : (n : ℕ) → pos 0 -ℤ pos n ≡ neg_ℤ (pos n)
minus n = +ℤ_idl (neg_ℤ (pos n))

-- a number that gains a and loses b, as an integer
pub gained : (n n' a b : ℕ) → n' + b ≡ n + a → pos n' ≡ pos n +ℤ (pos a -ℤ pos b)
gained n n' a b e = sym (whole n') ∙ (minus_eq n' 0 (n + a) b).1 (omega arith) ∙ +ℤ_assoc (pos n) (pos a) (neg_ℤ (pos b))

-- ---- the first of least value

-- r p is the least of the first n, and none before p is as small
pub record Least (n : ℕ) (r : ℕ → ℤ) (p : ℕ) : Type 0 where
  pub below : p < n
  pub least : (i : ℕ) → i < n → r p ≤ℤ r i
  pub earliest : (i : ℕ) → i < p → r p <ℤ r i

lt_le : (x y : ℤ) → x <ℤ y → x ≤ℤ y
lt_le (pos a) (pos b) h = record { le = le→leb a b (omega (arith, ltb→lt a b h.lt)) }
lt_le (pos a) (negsuc b) h = absurd h.lt
lt_le (negsuc a) (pos b) h = record { le = tt }
lt_le (negsuc a) (negsuc b) h = record { le = le→leb b a (omega (arith, ltb→lt b a h.lt)) }

pub least_is : (n : ℕ) (r : ℕ → ℤ) → 0 < n → Least n r (least_below n r)
unfolding least_below
least_is zero r h = absurd (omega arith)
least_is (suc zero) r h = choose_case (λ b p. Least 1 r p) (lt_z (r 0) (r 0)) 0 0 (λ t. only) (λ t. only)
  where
    only : Least 1 r 0
    only = record {
      below = omega arith;
      least = (λ i l. rw (let e : i ≡ 0 = omega arith in e) (≤ℤ_refl (r 0)));
      earliest = (λ i l. absurd (omega arith));
    }
least_is (suc (suc n)) r h =
    let p : ℕ = least_below (suc n) r in
    let ih : Least (suc n) r p = least_is (suc n) r (omega arith) in
    choose_case (λ b x. Least (suc (suc n)) r x) (lt_z (r (suc n)) (r p)) (suc n) p
    (λ t. record {
      below = omega arith;
      least = (λ i l. elim (ℕ_discrete i (suc n)) as (λ o. r (suc n) ≤ℤ r i)
          [ yes e ↦ rw e (≤ℤ_refl (r (suc n))) | no d ↦ lt_le (r (suc n)) (r i) (<ℤ-≤ℤ_trans (lt_z_yes t) (ih.least i (omega arith))) ]);
      earliest = (λ i l. <ℤ-≤ℤ_trans (lt_z_yes t) (ih.least i l));
    })
    (λ t. record {
      below = omega (arith, ih.below);
      least = (λ i l. elim (ℕ_discrete i (suc n)) as (λ o. r p ≤ℤ r i) [ yes e ↦ rw e (lt_z_no t) | no d ↦ ih.least i (omega arith) ]);
      earliest = ih.earliest;
    })
