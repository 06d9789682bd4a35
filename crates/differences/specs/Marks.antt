-- Values marked in a row of flags: a value whose flag stands already stops the marking, and none does where each is new.
use Rattle.std.specs.Prelude.{◌≡◌, ◌≢◌, ◌↔◌, Bool, true, List, [], ◌∷◌, ◌++◌, T, eqb, length, get_or, set}
use Rattle.std.proofs.Math.Path.{refl, ap, sym}
use Rattle.std.proofs.Common.{◌∙◌, subst, add-one, arith, length-set, get_or-set_same, get_or-set_other}
use Rattle.std.proofs.Math.Bool.{false}
use Prim.Native.Nat.{ℕ, zero, suc, ◌+◌, ◌≤◌, ◌<◌}
use Rattle.std.proofs.Math.Decide.{ℕ_discrete}
use Rattle.model.specs.Symbols.{choose, count, join_below}
use Rattle.theory.specs.Counting.{eqb_yes, eqb_no, same_yes, same_no, count_nil, count_cons, All}

-- whether all values were new, and the flags
pub record Marks : Type 0 where
  pub fresh : Bool
  pub flags : List ℕ

abbrev pub marks_of : Bool → List ℕ → Marks
marks_of b s = record { fresh = b; flags = s }

-- the values marked in order, up to the first whose flag is not 0
unfoldable pub mark : List ℕ → List ℕ → Marks
mark [] seen = marks_of true seen
mark (v ∷ vs) seen = choose (eqb (get_or seen v 0) 0) (mark vs (set seen v 1)) (marks_of false seen)

-- more values, where all before them were new
abbrev pub onto : List ℕ → Marks → Marks
onto ys m = choose m.fresh (mark ys m.flags) m

onto_choose : (ys : List ℕ) (b : Bool) (m m' : Marks) (seen : List ℕ) → m' ≡ onto ys m → choose b m' (marks_of false seen) ≡ onto ys (choose b m (marks_of false seen))
onto_choose ys true m m' seen e = e
onto_choose ys false m m' seen e = refl

pub mark_append : (xs ys seen : List ℕ) → mark (xs ++ ys) seen ≡ onto ys (mark xs seen)
unfolding mark
mark_append [] ys seen = refl
mark_append (v ∷ xs) ys seen = onto_choose ys (eqb (get_or seen v 0) 0) (mark xs (set seen v 1)) (mark (xs ++ ys) (set seen v 1)) seen (mark_append xs ys (set seen v 1))

-- the first value is new
pub mark_new : (v n : ℕ) (vs seen : List ℕ) → n ≡ 1 → get_or seen v 0 ≡ 0 → mark (v ∷ vs) seen ≡ mark vs (set seen v n)
unfolding mark
mark_new v n vs seen e z = rw (eqb_yes (get_or seen v 0) 0 z, e)

-- its flag stands already
pub mark_again : (v : ℕ) (vs seen : List ℕ) → get_or seen v 0 ≢ 0 → mark (v ∷ vs) seen ≡ marks_of false seen
unfolding mark
mark_again v vs seen n = rw (eqb_no (get_or seen v 0) 0 n)

pub mark_none : (seen : List ℕ) → mark [] seen ≡ marks_of true seen
unfolding mark
mark_none seen = refl

-- ---- the lists f 0, f 1, .. marked one after the other

module _ (f : ℕ → List ℕ) (seen : List ℕ) where
  pub join_none : mark (join_below 0 f) seen ≡ marks_of true seen
  unfolding join_below
  join_none = mark_none seen

  -- all before i were new: what marking f i adds
  join_next : (i : ℕ) (flags : List ℕ) → mark (join_below i f) seen ≡ marks_of true flags → mark (join_below (suc i) f) seen ≡ mark (f i) flags
  unfolding join_below
  join_next i flags e = mark_append (join_below i f) (f i) seen ∙ ap (onto (f i)) e

  -- all of f i were new, too
  pub join_go : (i : ℕ) (flags : List ℕ) → mark (join_below i f) seen ≡ marks_of true flags → (r : Bool) (next : List ℕ) → marks_of r next ≡ mark (f i) flags → r ≡ true
      → mark (join_below (i + 1) f) seen ≡ marks_of true next
  join_go i flags e r next g t = rw (add-one i) (join_next i flags e ∙ sym g ∙ ap (λ (b : Bool). marks_of b next) t)

  -- one was not, and so not all of more lists are
  pub join_stop : (n i : ℕ) → i < n → (flags : List ℕ) → mark (join_below i f) seen ≡ marks_of true flags → (r : Bool) (next : List ℕ) → marks_of r next ≡ mark (f i) flags
      → r ≡ false → (mark (join_below n f) seen).fresh ≡ false
  unfolding join_below
  join_stop zero i h flags e r next g t = absurd (omega arith)
  join_stop (suc n) i h flags e r next g t = elim (ℕ_discrete i n) as (λ o. (mark (join_below (suc n) f) seen).fresh ≡ false) [
    | yes p ↦ ap (λ (m : Marks). m.fresh) (sym (ap (λ (x : ℕ). mark (join_below (suc x) f) seen) p) ∙ join_next i flags e ∙ sym g) ∙ t
    | no p ↦ ap (λ (m : Marks). m.fresh) (mark_append (join_below n f) (f n) seen)
        ∙ stays (mark (join_below n f) seen) (join_stop n i (omega arith) flags e r next g t)
  ]
    where
      stays : (m : Marks) → m.fresh ≡ false → (onto (f n) m).fresh ≡ false
      stays m z = rw z refl

-- ---- when all were new

-- marking moves one from the count of what is left to the flags
set_count : (seen : List ℕ) (v : ℕ) (vs : List ℕ) → v < length seen → get_or seen v 0 ≡ 0 → (w : ℕ) → get_or (set seen v 1) w 0 + count w vs ≡ get_or seen w 0 + count w (v ∷ vs)
set_count seen v vs h z w = elim (ℕ_discrete w v) as (λ o. get_or (set seen v 1) w 0 + count w vs ≡ get_or seen w 0 + count w (v ∷ vs)) [
  | yes e ↦ rw e (omega (arith, get_or-set_same seen v 1 0 h, count_cons v v vs, same_yes v v refl))
  | no n ↦ omega (arith, get_or-set_other seen v w 1 0 n, count_cons w v vs, same_no w v n)
]

set_low : (seen : List ℕ) (v : ℕ) → v < length seen → ((w : ℕ) → get_or seen w 0 ≤ 1) → (w : ℕ) → get_or (set seen v 1) w 0 ≤ 1
set_low seen v h le w = elim (ℕ_discrete w v) as (λ o. get_or (set seen v 1) w 0 ≤ 1) [
  | yes e ↦ rw e (omega (arith, get_or-set_same seen v 1 0 h))
  | no n ↦ omega (arith, get_or-set_other seen v w 1 0 n, le w)
]

-- two tests that are true together are equal
pub same_truth : (a b : Bool) → (a ≡ true → b ≡ true) → (b ≡ true → a ≡ true) → a ≡ b
same_truth true b f g = sym (f refl)
same_truth false true f g = g refl
same_truth false false f g = refl

true_false : false ≡ true → ⊥
true_false e = subst T (sym e) tt

-- no value stands twice, and none whose flag stands already
abbrev pub Once : List ℕ → List ℕ → Type 0
Once vs seen = (w : ℕ) → get_or seen w 0 + count w vs ≤ 1

-- all were new just where no value stands twice and none had its flag
pub fresh_once : (vs seen : List ℕ) → All (λ v. v < length seen) vs → ((w : ℕ) → get_or seen w 0 ≤ 1) → ((mark vs seen).fresh ≡ true) ↔ Once vs seen
unfolding mark
fresh_once [] seen a le = (λ e w. omega (arith, le w, count_nil w), λ f. refl)
fresh_once (v ∷ vs) seen a le = elim (ℕ_discrete (get_or seen v 0) 0) as (λ o. ((mark (v ∷ vs) seen).fresh ≡ true) ↔ Once (v ∷ vs) seen) [
  | yes z ↦
      let more = set_count seen v vs a.0 z in
      let low : (w : ℕ) → get_or (set seen v 1) w 0 ≤ 1 = set_low seen v a.0 le in
      let rest = fresh_once vs (set seen v 1) (simp length-set a.1) low in
      rw (eqb_yes (get_or seen v 0) 0 z) (λ e w. omega (arith, more w, rest.0 e w), λ f. rest.1 (λ w. omega (arith, more w, f w)))
  | no n ↦ rw (eqb_no (get_or seen v 0) 0 n) (λ e. absurd (true_false e), λ f. absurd (omega (arith, f v, count_cons v v vs, same_yes v v refl)))
]
