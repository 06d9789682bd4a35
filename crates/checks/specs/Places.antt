-- The places of data symbols: by their number, and one after the other, branch by branch.
use Rattle.std.specs.Prelude.{◌≡◌, refl, length, get_or, drop}
use Rattle.std.proofs.Math.Path.{ap, sym, subst}
use Rattle.std.proofs.Common.{◌∙◌, zero-mul, get_or-take}
use mathlib.Core.List.{List}
use Prim.Native.Nat.{ℕ, suc, ◌+◌, ◌*◌, ◌-◌, ◌/◌, ◌%◌, ◌<◌, ◌≤◌}
use Rattle.std.proofs.Math.Nat.{mod-lt, div-add-mod', mul-le-mul_right}
use Rattle.std.proofs.Math.Decide.{dec_lt}
use native.Mathlib.Omega.{arith}
use Rattle.std.proofs.Math.Arith.{digits_div}
use Rattle.std.proofs.Math.ListN.{take, length-take, length-drop}
use Rattle.std.proofs.Math.Seq.{get_or-drop}
use Rattle.model.specs.Code.{Code, data_count, check_count, checks_each, branch_at, checks_by, checks_of}
use Rattle.model.specs.Limits.{TableLimits}
use Rattle.theory.specs.Branches.{branch-of, branch_inside, run_part, run_inside}
use Rattle.checks.specs.Checks.{AtChecks, at_run}
use Rattle.checks.specs.declared.Place.{Place}

-- the place of data symbol j
abbrev pub place_at : Code → ℕ → Place
place_at c j = record {
  symbol = j;
  start = j / c.k * c.k;
  end = j / c.k * c.k + c.k;
  first = j / c.k * checks_each c;
  last = j / c.k * checks_each c + checks_each c;
}

-- the run of a place, as it is lent
abbrev pub run_at : Place → List ℕ → List ℕ
run_at p ps = take (p.last - p.first) (drop p.first ps)

-- the next number in the same branch, and the same number in the next branch
abbrev pub along_place : Place → Place
along_place p = record { symbol = p.symbol + 1; start = p.start; end = p.end; first = p.first; last = p.last }

abbrev pub onward_place : ℕ → Place → Place
onward_place k p = record { symbol = p.symbol; start = p.end; end = p.end + k; first = p.last; last = p.last + (p.last - p.first) }

-- two places of one number, by the branch's symbols and its run
place-by : (j : ℕ) {s s' e e' f f' l l' : ℕ} → s ≡ s' → e ≡ e' → f ≡ f' → l ≡ l'
    → ◌≡◌ {A = Place} (record { symbol = j; start = s; end = e; first = f; last = l }) (record { symbol = j; start = s'; end = e'; first = f'; last = l' })
place-by j a b c d = λ o. record { symbol = j; start = a o; end = b o; first = c o; last = d o }

-- ---- places of a table within its limits

-- such a table, and a syndrome of as many symbols as there are checks
pub record AtTable (c : Code) (s : List ℕ) : Type 0 where
  pub table : TableLimits c
  pub len : length s ≡ check_count c

-- the place of a data symbol
pub record Placed (c : Code) (p : Place) : Type 0 where
  pub inside : p.symbol < data_count c
  pub here : p ≡ place_at c p.symbol

-- ---- a walk branch by branch

-- the first place of a branch, or the one after all branches
pub record AtBranch (c : Code) (p : Place) : Type 0 where
  pub branch : ℕ
  pub within : branch ≤ c.b
  pub here : p ≡ record { symbol = branch * c.k; start = branch * c.k; end = branch * c.k + c.k; first = branch * checks_each c; last = branch * checks_each c + checks_each c }

-- a place p of the branch whose first place is o, or the one after its last symbol
pub record InBranch (c : Code) (o p : Place) : Type 0 where
  pub opens : AtBranch c o
  pub inside : opens.branch < c.b
  pub same : p ≡ record { symbol = p.symbol; start = o.start; end = o.end; first = o.first; last = o.last }
  pub low : o.symbol ≤ p.symbol
  pub high : p.symbol ≤ o.end

pub branch_first : (c : Code) (each : ℕ) (p : Place) → each ≡ checks_each c → p ≡ record { symbol = 0; start = 0; end = c.k; first = 0; last = each } → AtBranch c p
branch_first c each p e f = record {
  branch = 0;
  within = omega arith;
  here = f ∙ ap (λ (n : ℕ). record { symbol = 0; start = 0; end = c.k; first = 0; last = n }) e
      ∙ (λ o. record {
        symbol = sym (zero-mul c.k) o;
        start = sym (zero-mul c.k) o;
        end = (let z : c.k ≡ 0 * c.k + c.k = omega (arith, zero-mul c.k) in z) o;
        first = sym (zero-mul (checks_each c)) o;
        last = (let z : checks_each c ≡ 0 * checks_each c + checks_each c = omega (arith, zero-mul (checks_each c)) in z) o;
      });
}

module _ {c : Code} {o : Place} (t : TableLimits c) (w : AtBranch c o) where
  number : o.symbol ≡ w.branch * c.k
  number = ap (λ (x : Place). x.symbol) w.here

  -- a branch has a symbol
  pub branch_some : o.symbol < o.end
  branch_some = omega (arith, number, ap (λ (x : Place). x.end) w.here, t.sizes.k_low)

  -- a branch is next
  pub branch_next : o.symbol < data_count c → InBranch c o o
  branch_next h = record {
    opens = w;
    inside = elim (dec_lt w.branch c.b) as (λ x. w.branch < c.b)
        [ yes l ↦ l | no l ↦ absurd (omega (arith, h, number, mul-le-mul_right c.k (let z : c.b ≤ w.branch = omega arith in z))) ];
    same = refl;
    low = omega arith;
    high = omega (arith, branch_some);
  }

  -- all branches are passed
  pub branch_over : data_count c ≤ o.symbol → o.symbol ≡ data_count c
  branch_over h = omega (arith, number, mul-le-mul_right c.k w.within)

-- the next place has fewer symbols of its branch left
pub along_less : (p q : Place) → p.symbol < p.end → q ≡ along_place p → q.end - q.symbol < p.end - p.symbol
along_less p q h e = omega (arith, ap (λ (x : Place). x.symbol) e, ap (λ (x : Place). x.end) e)

module _ {c : Code} {o p : Place} (w : InBranch c o p) where
  pub same_end : p.end ≡ o.end
  same_end = ap (λ (x : Place). x.end) w.same

  -- the run of the first place is that of each
  pub same_run : (ps : List ℕ) → run_at o ps ≡ run_at p ps
  same_run ps = ap (λ (x : Place). run_at x ps) (sym w.same)

module _ {c : Code} {o p : Place} (t : TableLimits c) (w : InBranch c o p) where
  abbrev r : ℕ
  r = w.opens.branch

  start_is : o.start ≡ r * c.k
  start_is = ap (λ (x : Place). x.start) w.opens.here

  end_is : o.end ≡ r * c.k + c.k
  end_is = ap (λ (x : Place). x.end) w.opens.here

  first_is : o.first ≡ r * checks_each c
  first_is = ap (λ (x : Place). x.first) w.opens.here

  last_is : o.last ≡ r * checks_each c + checks_each c
  last_is = ap (λ (x : Place). x.last) w.opens.here

  -- a symbol is next
  pub in_placed : p.symbol < p.end → Placed c p
  in_placed h =
      let i : ℕ = p.symbol - r * c.k in
      let n : o.symbol ≡ r * c.k = number t w.opens in
      let l : i < c.k = omega (arith, n, end_is, same_end w, w.low) in
      let e : p.symbol ≡ r * c.k + i = omega (arith, n, w.low) in
      let d : p.symbol / c.k ≡ r = ap (λ (x : ℕ). x / c.k) e ∙ digits_div r {m = c.k} l in
      record {
        inside = omega (arith, e, branch_inside c r w.inside);
        here = w.same ∙ place-by p.symbol (start_is ∙ ap (λ (x : ℕ). x * c.k) (sym d)) (end_is ∙ ap (λ (x : ℕ). x * c.k + c.k) (sym d))
            (first_is ∙ ap (λ (x : ℕ). x * checks_each c) (sym d)) (last_is ∙ ap (λ (x : ℕ). x * checks_each c + checks_each c) (sym d));
      }

  -- the next place
  pub in_along : p.symbol < p.end → (q : Place) → q ≡ along_place p → InBranch c o q
  in_along h q e = rw e (record {
    opens = w.opens;
    inside = w.inside;
    same = ap along_place w.same;
    low = omega (arith, w.low);
    high = omega (arith, same_end w);
  })

  -- a later place
  pub in_later : (q : Place) → q ≡ record { symbol = q.symbol; start = p.start; end = p.end; first = p.first; last = p.last } → p.symbol ≤ q.symbol → q.symbol ≤ p.end
      → InBranch c o q
  in_later q e l h = record {
    opens = w.opens;
    inside = w.inside;
    same = e ∙ ap (λ (x : Place). record { symbol = q.symbol; start = x.start; end = x.end; first = x.first; last = x.last }) w.same;
    low = omega (arith, w.low);
    high = omega (arith, same_end w);
  }

  -- the symbols of its branch are data symbols
  pub in_end : p.end ≤ data_count c
  in_end = omega (arith, end_is, same_end w, branch_inside c r w.inside)

  -- its symbols are passed: the next branch, with fewer symbols left of n
  pub in_onward : p.end ≤ p.symbol → (q : Place) → q ≡ onward_place c.k p → AtBranch c q
  in_onward h q e =
      let s : p.symbol ≡ r * c.k + c.k = omega (arith, end_is, same_end w, w.high) in
      let y : suc r * c.k ≡ r * c.k + c.k = omega arith in
      let z : suc r * checks_each c ≡ r * checks_each c + checks_each c = omega arith in
      record {
        branch = suc r;
        within = w.inside;
        here = e ∙ ap (onward_place c.k) w.same ∙ (λ x. record {
          symbol = (s ∙ sym y) x;
          start = (end_is ∙ sym y) x;
          end = (let u : o.end + c.k ≡ suc r * c.k + c.k = omega (arith, end_is, y) in u) x;
          first = (last_is ∙ sym z) x;
          last = (let u : o.last + (o.last - o.first) ≡ suc r * checks_each c + checks_each c = omega (arith, first_is, last_is, z) in u) x;
        });
      }

  pub onward_less : p.end ≤ p.symbol → (q : Place) → q ≡ onward_place c.k p → (n : ℕ) → o.symbol < n → n - q.symbol < n - o.symbol
  onward_less h q e n l = omega (arith, ap (λ (x : Place). x.symbol) e, same_end w, branch_some t w.opens)

  -- what the step into the next branch asks
  pub onward_fits : (c.k ≤ 4096) × (p.end ≤ 8192) × (p.first ≤ p.last) × (p.last ≤ 256)
  onward_fits =
      let s = t.sizes in
      let f : p.first ≡ o.first = ap (λ (x : Place). x.first) w.same in
      let l : p.last ≡ o.last = ap (λ (x : Place). x.last) w.same in (
        s.k_high,
        omega (arith, end_is, same_end w, branch_inside c r w.inside, s.data-high),
        omega (arith, f, l, first_is, last_is),
        omega (arith, l, last_is, run_inside c s r w.inside, s.runs, s.J-high, mul-le-mul_right (checks_each c) s.b_high),
      )

-- the first place of a place's branch, by that place
abbrev pub branch_of : Place → Place
branch_of p = record { symbol = p.start; start = p.start; end = p.end; first = p.first; last = p.last }

pub in_own : {c : Code} {o p : Place} → TableLimits c → InBranch c o p → InBranch c (branch_of p) p
in_own {c} {o} {p} t w = subst (λ (x : Place). InBranch c x p) (sym own) w
  where
    own : branch_of p ≡ o
    own = ap branch_of w.same ∙ ap branch_of w.opens.here ∙ sym w.opens.here

-- what a place is good for: its run, and the checks there
pub record Found (c : Code) (s : List ℕ) (p : Place) : Type 0 where
  pub start_low : p.start ≤ p.symbol
  pub index_low : p.symbol - p.start < c.k
  pub first_last : p.first ≤ p.last
  pub last_in : p.last ≤ length c.positions
  pub few : p.last ≤ 256
  pub each : p.last - p.first ≡ checks_each c
  -- of the run as it is lent
  pub run_length : length (run_at p c.positions) ≡ p.last - p.first
  pub position : (i : ℕ) → i < p.last - p.first → get_or c.positions (p.first + i) 0 ≡ get_or (run_at p c.positions) i 0
  pub checks_lent : AtChecks c.k (run_at p c.positions) s
  pub checks_are : checks_by c.k (run_at p c.positions) (p.symbol - p.start) ≡ checks_of c p.symbol

module _ {c : Code} {s : List ℕ} (t : AtTable c s) where
  -- the same of another syndrome of that length
  pub at_table_of : (s' : List ℕ) → length s' ≡ length s → AtTable c s'
  at_table_of s' e = record { table = t.table; len = e ∙ t.len }

  pub found : {p : Place} → Placed c p → Found c s p
  unfolding checks_of
  found {p} w =
      let j : ℕ = p.symbol in
      let z = t.table.sizes in
      let J : ℕ = checks_each c in
      let o : p.start ≡ j / c.k * c.k = ap (λ (x : Place). x.start) w.here in
      let f : p.first ≡ j / c.k * J = ap (λ (x : Place). x.first) w.here in
      let l : p.last ≡ j / c.k * J + J = ap (λ (x : Place). x.last) w.here in
      let e : p.last ≡ p.first + J = omega arith in
      let i : j - p.start ≡ j % c.k = omega (arith, o, div-add-mod' j c.k) in
      let b = branch-of c t.table j w.inside in
      let n = run_inside c z (j / c.k) b in
      let run : run_at p c.positions ≡ branch_at c (j / c.k) =
      ap (λ (x : ℕ). take (x - p.first) (drop p.first c.positions)) e ∙ run_part c (j / c.k) p.first f in
      let a = at_run c t.table (j / c.k) b s t.len in
      record {
        start_low = omega (arith, o, div-add-mod' j c.k);
        index_low = omega (arith, i, mod-lt j {m = c.k} z.k_low);
        first_last = omega arith;
        last_in = omega (arith, n);
        few = omega (arith, n, z.runs, z.J-high, mul-le-mul_right J z.b_high);
        each = omega arith;
        run_length = length-take (p.last - p.first) (drop p.first c.positions) ∙ omega (arith, n, length-drop p.first c.positions);
        position = (λ h r. sym (get_or-take (p.last - p.first) (drop p.first c.positions) h 0 r ∙ get_or-drop p.first c.positions h 0));
        checks_lent = subst (λ (ps : List ℕ). AtChecks c.k ps s) (sym run) a;
        checks_are = ap (λ (ps : List ℕ). checks_by c.k ps (j - p.start)) run ∙ ap (checks_by c.k (branch_at c (j / c.k))) i;
      }
