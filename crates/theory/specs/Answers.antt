-- Lists of tests, and what a returned number of 0 says of the inputs.
use Rattle.std.specs.Prelude.{◌≡◌, ◌≢◌, Bool, true, false, not, ◌&&◌, ℕ, zero, suc, ◌*◌, ◌%◌, ◌≤◌, ◌<◌, eqb, ltb, leb, length, take}
use Rattle.std.proofs.Math.Path.{refl}
use Rattle.std.proofs.Common.{ap, sym, ◌∙◌, subst, div-add-mod', arith, eqb→eq, lt→ltb, leb→le, le→leb, take_at, le-ltb}
use mathlib.Core.List.{List, [], ◌∷◌, ◌++◌, append_assoc}
use Rattle.std.proofs.Math.Decide.{ℕ_discrete}
use Rattle.std.proofs.Math.Dec.{T, ltb→lt}
use Rattle.std.proofs.lemmas.Bool.{lt-leb}
use Rattle.model.specs.Calls.{Test, test, first_that_applies, within, positions_fit, all_below, branches_fit, runs_fit, size_tests, table_fits, table_tests, page_tests, threshold_tests, threshold_test, block_test, encode_fits, state_fits, decode_fits, table_answer, encode_tests, encode_answer, encode_outer_answer, decode_tests, decode_answer, decode_outer_answer, open_answer, state_symbols, pass_tests, pass_answer, explain_answer}
use Rattle.model.specs.Code.{Code, lowest, highest, data_count, check_count, page_length, checks_each, branch_at, check_symbols, code_word, data_of, self_orthogonal}
use Rattle.model.specs.Decoder.{State}
use Rattle.model.specs.Outer.{block_count}
use Rattle.model.specs.Demand.{Encodes}
use Rattle.model.specs.Limits.{SizeLimits, Limits}
use Rattle.model.specs.Symbols.{choose, Below}
use Rattle.theory.specs.Codes.{two_symbols, Usable, ByteCode}
use Rattle.theory.specs.Counting.{is_true, eqb_yes}
use Rattle.theory.specs.Steps.{SymbolsBelow, Sized}
use Rattle.theory.specs.Tables.{fit_test, every_facts, every_make, orthogonal_test}

pub and_true : (a b : Bool) → (a && b) ≡ true → (a ≡ true) × (b ≡ true)
and_true true b e = (refl, e)
and_true false b e = absurd (subst T (sym e) tt)

pub not-false : (b : Bool) → not b ≡ false → b ≡ true
not-false true e = refl
not-false false e = absurd (subst T e tt)

pub eqb-true : (a b : ℕ) → eqb a b ≡ true → a ≡ b
eqb-true a b e = eqb→eq a b (subst T (sym e) tt)

-- ---- lists of tests

-- no test's number is 0
abbrev pub numbered : List Test → Bool
numbered [] = true
numbered (t ∷ ts) = ltb 0 t.number && numbered ts

-- a test that something fits applies where it does not
pub refused_by : (n : ℕ) (fits : Bool) (ts : List Test) → fits ≡ false → first_that_applies (test n (not fits) ∷ ts) ≡ n
unfolding first_that_applies
refused_by n fits ts e = rw e refl

pub passed_by : (n : ℕ) (fits : Bool) (ts : List Test) → fits ≡ true → first_that_applies (test n (not fits) ∷ ts) ≡ first_that_applies ts
unfolding first_that_applies
passed_by n fits ts e = rw e refl

pub taken_by : (n : ℕ) (fits : Bool) (ts : List Test) → first_that_applies (test (suc n) (not fits) ∷ ts) ≡ 0 → (fits ≡ true) × (first_that_applies ts ≡ 0)
unfolding first_that_applies
taken_by n true ts e = (refl, e)
taken_by n false ts e = absurd (omega (arith, e))

pub nothing_applies : first_that_applies [] ≡ 0
unfolding first_that_applies
nothing_applies = refl

-- two lists, one after the other
pub refused_first : (ts us : List Test) → first_that_applies ts ≢ 0 → first_that_applies (ts ++ us) ≡ first_that_applies ts
unfolding first_that_applies
refused_first [] us n = absurd (n refl)
refused_first (t ∷ ts) us n = go t.applies n (λ m. refused_first ts us m)
  where
    go : (b : Bool) → choose b t.number (first_that_applies ts) ≢ 0 → (first_that_applies ts ≢ 0 → first_that_applies (ts ++ us) ≡ first_that_applies ts)
        → choose b t.number (first_that_applies (ts ++ us)) ≡ choose b t.number (first_that_applies ts)
    go true n r = refl
    go false n r = r n

pub passed_first : (ts us : List Test) → numbered ts ≡ true → first_that_applies ts ≡ 0 → first_that_applies (ts ++ us) ≡ first_that_applies us
unfolding first_that_applies
passed_first [] us p e = refl
passed_first (t ∷ ts) us p e = go t.applies e (λ z. passed_first ts us (and_true (ltb 0 t.number) (numbered ts) p).1 z)
  where
    go : (b : Bool) → choose b t.number (first_that_applies ts) ≡ 0 → (first_that_applies ts ≡ 0 → first_that_applies (ts ++ us) ≡ first_that_applies us)
        → choose b t.number (first_that_applies (ts ++ us)) ≡ first_that_applies us
    go true z r = absurd (omega (arith, ltb→lt 0 t.number (subst T (sym (and_true (ltb 0 t.number) (numbered ts) p).0) tt), z))
    go false z r = r z

pub taken_first : (ts us : List Test) → numbered ts ≡ true → first_that_applies (ts ++ us) ≡ 0 → (first_that_applies ts ≡ 0) × (first_that_applies us ≡ 0)
taken_first ts us p e = elim (ℕ_discrete (first_that_applies ts) 0) as (λ o. (first_that_applies ts ≡ 0) × (first_that_applies us ≡ 0)) [
  | yes z ↦ (z, sym (passed_first ts us p z) ∙ e)
  | no n ↦ absurd (n (sym (refused_first ts us n) ∙ e))
]

-- ---- the single tests

pub within_facts : (low high x : ℕ) → within low high x ≡ true → (low ≤ x) × (x ≤ high)
unfolding within
within_facts low high x e =
    let s = and_true (leb low x) (leb x high) e in
    (leb→le low x (subst T (sym s.0) tt), leb→le x high (subst T (sym s.1) tt))

pub within_make : (low high x : ℕ) → low ≤ x → x ≤ high → within low high x ≡ true
unfolding within
within_make low high x l h = rw (is_true (leb low x) (le→leb low x l), is_true (leb x high) (le→leb x high h)) refl

pub within_below : (low high x : ℕ) → x < low → within low high x ≡ false
unfolding within
within_below low high x h = rw (lt-leb low x h)

pub all-below : (q : ℕ) → zero < q → (s : List ℕ) → all_below q s ≡ true → Below q s
unfolding all_below
all-below q pos [] e i = pos
all-below q pos (x ∷ xs) e zero = ltb→lt x q (subst T (sym (and_true (ltb x q) (all_below q xs) e).0) tt)
all-below q pos (x ∷ xs) e (suc i) = all-below q pos xs (and_true (ltb x q) (all_below q xs) e).1 i

pub below_all : (q : ℕ) (s : List ℕ) → Below q s → all_below q s ≡ true
unfolding all_below
below_all q [] b = refl
below_all q (x ∷ xs) b = rw (is_true (ltb x q) (lt→ltb x q (b 0)), below_all q xs (λ i. b (suc i))) refl

-- two lists, one after the other
pub all_append : (q : ℕ) (xs ys : List ℕ) → all_below q (xs ++ ys) ≡ (all_below q xs && all_below q ys)
unfolding all_below
all_append q [] ys = refl
all_append q (x ∷ xs) ys = go (ltb x q) (all_append q xs ys)
  where
    go : (b : Bool) → all_below q (xs ++ ys) ≡ (all_below q xs && all_below q ys) → (b && all_below q (xs ++ ys)) ≡ ((b && all_below q xs) && all_below q ys)
    go true e = e
    go false e = refl

-- ---- the table

-- what tests 2, 10 and 3 leave
sized_facts : (c : Code) → within 1 4096 c.k ≡ true → branches_fit c ≡ true → runs_fit c ≡ true → SizeLimits c
sized_facts c k b r =
    let kk = within_facts 1 4096 c.k k in
    let bs = and_true (within 1 8 c.b) (leb (data_count c) 4096) b in
    let bb = within_facts 1 8 c.b bs.0 in
    let rs = and_true (eqb (length c.positions) (c.b * checks_each c)) (within 1 32 (checks_each c)) r in
    let J = within_facts 1 32 (checks_each c) rs.1 in
    record {
      k_low = kk.0;
      k_high = kk.1;
      b_low = bb.0;
      b_high = bb.1;
      data-high = leb→le (data_count c) 4096 (subst T (sym bs.1) tt);
      runs = eqb-true (length c.positions) (c.b * checks_each c) rs.0;
      J-low = J.0;
      J-high = J.1;
    }

pub sizes_taken : (c : Code) → first_that_applies (size_tests c) ≡ 0 → SizeLimits c
unfolding size_tests
sizes_taken c e =
    let t1 = taken_by 0 (within (lowest c.profile) (highest c.profile) c.q) _ e in
    let t2 = taken_by 1 (within 1 4096 c.k) _ t1.1 in
    let t10 = taken_by 9 (branches_fit c) _ t2.1 in
    let t3 = taken_by 2 (runs_fit c) _ t10.1 in
    sized_facts c t2.0 t10.0 t3.0

-- the table check answers 0 if and only if the limits hold and the test of shared checks does
pub table_accepted : (c : Code) → table_answer c ≡ 0 → Limits c × (self_orthogonal c ≡ true)
unfolding table_answer table_tests size_tests
table_accepted c e =
    let t1 = taken_by 0 (within (lowest c.profile) (highest c.profile) c.q) _ e in
    let t2 = taken_by 1 (within 1 4096 c.k) _ t1.1 in
    let t10 = taken_by 9 (branches_fit c) _ t2.1 in
    let t3 = taken_by 2 (runs_fit c) _ t10.1 in
    let t4 = taken_by 3 (table_fits c) _ t3.1 in
    let t5 = taken_by 4 (self_orthogonal c) [] t4.1 in
    let q = within_facts (lowest c.profile) (highest c.profile) c.q t1.0 in (
      record {
        q_low = q.0;
        q_high = q.1;
        table = record {
          sizes = sized_facts c t2.0 t10.0 t3.0;
          ascending = (λ r h. (fit_test c.k (branch_at c r)).0
              (is_true _ (every_facts c.b (λ r. positions_fit c.k 0 (branch_at c r)) (subst T (sym t4.0) tt) r h)));
        };
      },
      t5.0,
    )

pub table_accepts : (c : Code) → Limits c → self_orthogonal c ≡ true → table_answer c ≡ 0
unfolding table_answer table_tests size_tests
table_accepts c l o =
    let t = l.table.sizes in
    passed_by 1 (within (lowest c.profile) (highest c.profile) c.q) _ (within_make (lowest c.profile) (highest c.profile) c.q l.q_low l.q_high)
    ∙ passed_by 2 (within 1 4096 c.k) _ (within_make 1 4096 c.k t.k_low t.k_high)
    ∙ passed_by 10 (branches_fit c) _
    (rw (within_make 1 8 c.b t.b_low t.b_high) (is_true (leb (data_count c) 4096) (le→leb (data_count c) 4096 t.data-high)))
    ∙ passed_by 3 (runs_fit c) _ (rw (eqb_yes (length c.positions) (c.b * checks_each c) t.runs) (within_make 1 32 (checks_each c) t.J-low t.J-high))
    ∙ passed_by 4 (table_fits c) _
    (is_true _ (every_make c.b (λ r. positions_fit c.k 0 (branch_at c r)) (λ r h. subst T (sym ((fit_test c.k (branch_at c r)).1 (l.table.ascending r h))) tt)))
    ∙ passed_by 5 (self_orthogonal c) [] o
    ∙ nothing_applies

pub table_usable : (c : Code) → table_answer c ≡ 0 → Usable c
table_usable c e =
    let a = table_accepted c e in
    record { q_low = omega (arith, two_symbols c.profile, a.0.q_low); table = a.0.table; orthogonal = (orthogonal_test c).0 a.1 }

-- ---- the calls that read symbols

-- what they take: an accepted table, fitting buffers, symbols below q
pub record PageFits (c : Code) (fits : Bool) (input : List ℕ) : Type 0 where
  pub limits : Limits c
  pub usable : Usable c
  pub buffers : fits ≡ true
  pub symbols : Below c.q input

-- their number is the table's where that is not 0; else the tests of lengths and symbols give it
refused_table : (c : Code) (later : List Test) → table_answer c ≢ 0 → first_that_applies (table_tests c ++ later) ≡ table_answer c
unfolding table_answer
refused_table c later n = refused_first (table_tests c) later n

pub page_refused : (c : Code) (fits : Bool) (input : List ℕ) → table_answer c ≢ 0 → first_that_applies (page_tests c fits input) ≡ table_answer c
unfolding page_tests
page_refused c fits input n = refused_table c _ n

pub page_passed : (c : Code) (fits : Bool) (input : List ℕ) → table_answer c ≡ 0
    → first_that_applies (page_tests c fits input) ≡ first_that_applies (test 6 (not fits) ∷ test 7 (not (all_below c.q input)) ∷ [])
unfolding page_tests table_answer table_tests size_tests
page_passed c fits input e = passed_first (table_tests c) (test 6 (not fits) ∷ test 7 (not (all_below c.q input)) ∷ []) refl e

pub page_taken : (c : Code) (fits : Bool) (input : List ℕ) → first_that_applies (page_tests c fits input) ≡ 0 → PageFits c fits input
unfolding page_tests table_answer table_tests size_tests
page_taken c fits input e =
    let t = taken_first (table_tests c) (test 6 (not fits) ∷ test 7 (not (all_below c.q input)) ∷ []) refl e in
    let a = table_accepted c t.0 in
    let b = taken_by 5 fits _ t.1 in
    record {
      limits = a.0;
      usable = table_usable c t.0;
      buffers = b.0;
      symbols = all-below c.q (omega (arith, two_symbols c.profile, a.0.q_low)) input (taken_by 6 (all_below c.q input) [] b.1).0;
    }

-- where the profile's symbols are bytes
pub page_bytes : (c : Code) (fits : Bool) (input : List ℕ) → highest c.profile ≤ 256 → PageFits c fits input → ByteCode c
page_bytes c fits input h f = record { q_low = f.usable.q_low; q_high = omega (arith, f.limits.q_high); table = f.limits.table }

-- ---- encode

-- the data that encode takes are symbols below q, whatever the length of the page, and they are the data symbols of the page that it writes
pub encode_symbols : (c : Code) (u : List ℕ) (n : ℕ) → encode_answer c u n ≡ 0 → SymbolsBelow c.q (data_count c) u
unfolding encode_answer
encode_symbols c u n e =
    let f = page_taken c _ u e in
    record { len = eqb-true (length u) (data_count c) (and_true (eqb (length u) (data_count c)) _ f.buffers).0; low = f.symbols }

pub encoded_symbols : (c : Code) (u sent : List ℕ) → Encodes c u sent → SymbolsBelow c.q (data_count c) u
encoded_symbols c u sent e = encode_symbols c u (page_length c) e.0

pub encoded_data : (c : Code) (u sent : List ℕ) → Encodes c u sent → data_of c sent ≡ u
unfolding code_word
encoded_data c u sent e = ap (λ (p : List ℕ). take (data_count c) p) e.1 ∙ take_at u (check_symbols c u) (data_count c) (encoded_symbols c u sent e).len

-- blocks of L that fit the data symbols
pub record BlockFits (c : Code) (L : ℕ) : Type 0 where
  pub low : 2 ≤ L
  pub divides : block_count c L * L ≡ data_count c

pub block_taken : (c : Code) (L : ℕ) → first_that_applies (block_test c L) ≡ 0 → BlockFits c L
unfolding block_test
block_taken c L e =
    let b = and_true (leb 2 L) (eqb (data_count c % L) 0) (taken_by 11 (leb 2 L && eqb (data_count c % L) 0) [] e).0 in
    let z : data_count c % L ≡ 0 = eqb-true (data_count c % L) 0 b.1 in
    record { low = leb→le 2 L (subst T (sym b.0) tt); divides = omega (arith, div-add-mod' (data_count c) L) }

-- encode in blocks of L
pub encode_outer_taken : (c : Code) (L : ℕ) (u : List ℕ) (n : ℕ) → encode_outer_answer c L u n ≡ 0 → (encode_answer c u n ≡ 0) × BlockFits c L
unfolding encode_answer encode_outer_answer page_tests table_tests size_tests
encode_outer_taken c L u n e = let t = taken_first (encode_tests c u n) (block_test c L) refl e in (t.0, block_taken c L t.1)

-- encode takes any data symbols of the right number, where the table is accepted,
pub encode_accepts : (c : Code) (w : List ℕ) → table_answer c ≡ 0 → SymbolsBelow c.q (data_count c) w → encode_answer c w (page_length c) ≡ 0
unfolding encode_answer
encode_accepts c w e s =
    page_passed c (encode_fits c (length w) (page_length c)) w e
    ∙ passed_by 6 (encode_fits c (length w) (page_length c)) _ (rw (eqb_yes (length w) (data_count c) s.len, eqb_yes (page_length c) (page_length c) refl) refl)
    ∙ passed_by 7 (all_below c.q w) [] (below_all c.q w s.low) ∙ nothing_applies

-- and so where it takes some
pub encode_takes : (c : Code) (u w : List ℕ) (n : ℕ) → encode_answer c u n ≡ 0 → SymbolsBelow c.q (data_count c) w → encode_answer c w (page_length c) ≡ 0
unfolding encode_answer page_tests table_answer table_tests size_tests
encode_takes c u w n e s =
    encode_accepts c w (taken_first (table_tests c) (test 6 (not (encode_fits c (length u) n)) ∷ test 7 (not (all_below c.q u)) ∷ []) refl e).0 s

-- ---- decode

-- its number is that of the tests of the page where that is not 0; else the tests of thresholds give it
pub decode_refused : (c : Code) (fits : Bool) (page thresholds : List ℕ) → first_that_applies (page_tests c fits page) ≢ 0
    → decode_answer c fits page thresholds ≡ first_that_applies (page_tests c fits page)
unfolding decode_answer
decode_refused c fits page ts n = refused_first (page_tests c fits page) (threshold_tests ts) n

pub decode_passed : (c : Code) (fits : Bool) (page thresholds : List ℕ) → first_that_applies (page_tests c fits page) ≡ 0
    → decode_answer c fits page thresholds ≡ first_that_applies (threshold_tests thresholds)
unfolding decode_answer page_tests table_tests size_tests
decode_passed c fits page ts e = passed_first (page_tests c fits page) (threshold_tests ts) refl e

-- what is opened: a page of symbols, whole, and three lent buffers of the right lengths
pub record Opens (c : Code) (page : List ℕ) (lent : State) : Type 0 where
  pub usable : Usable c
  pub high : c.q ≤ highest c.profile
  pub whole : SymbolsBelow c.q (page_length c) page
  pub len_result : length lent.result ≡ data_count c
  pub len_syndrome : length lent.syndrome ≡ check_count c
  pub len_difference : length lent.difference ≡ data_count c

-- what decode takes, whatever other buffers a form of the call lends
pub record Taken (c : Code) (page thresholds : List ℕ) (lent : State) : Type 0 where
  pub opens : Opens c page lent
  pub some : 1 ≤ length thresholds
  pub few : length thresholds ≤ 64
  pub small : all_below 33 thresholds ≡ true

-- the lengths of the three buffers
pub record StateLengths (c : Code) (lent : State) : Type 0 where
  pub result_length : length lent.result ≡ data_count c
  pub syndrome_length : length lent.syndrome ≡ check_count c
  pub difference_length : length lent.difference ≡ data_count c

state_lengths : (c : Code) (lent : State) → state_fits c lent ≡ true → StateLengths c lent
state_lengths c lent e =
    let r = and_true (eqb (length lent.result) (data_count c)) _ e in
    let s = and_true (eqb (length lent.syndrome) (check_count c)) (eqb (length lent.difference) (data_count c)) r.1 in
    record {
      result_length = eqb-true (length lent.result) (data_count c) r.0;
      syndrome_length = eqb-true (length lent.syndrome) (check_count c) s.0;
      difference_length = eqb-true (length lent.difference) (data_count c) s.1;
    }

opens_by : (c : Code) (others : Bool) (page : List ℕ) (lent : State) → PageFits c (others && decode_fits c page lent) page → Opens c page lent
opens_by c others page lent f =
    let b = and_true (eqb (length page) (page_length c)) (state_fits c lent) (and_true others (decode_fits c page lent) f.buffers).1 in
    let n = state_lengths c lent b.1 in
    record {
      usable = f.usable;
      high = f.limits.q_high;
      whole = record { len = eqb-true (length page) (page_length c) b.0; low = f.symbols };
      len_result = n.result_length;
      len_syndrome = n.syndrome_length;
      len_difference = n.difference_length;
    }

pub decode_taken : (c : Code) (others : Bool) (page thresholds : List ℕ) (lent : State) → decode_answer c (others && decode_fits c page lent) page thresholds ≡ 0
    → Taken c page thresholds lent
unfolding decode_answer page_tests table_tests size_tests threshold_tests
decode_taken c others page ts lent e =
    let t = taken_first (page_tests c (others && decode_fits c page lent) page) (threshold_tests ts) refl e in
    let some = taken_by 7 (within 1 64 (length ts)) _ t.1 in
    let w = within_facts 1 64 (length ts) some.0 in
    record {
      opens = opens_by c others page lent (page_taken c (others && decode_fits c page lent) page t.0);
      some = w.0;
      few = w.1;
      small = (taken_by 8 (all_below 33 ts) [] some.1).0;
    }

-- decode in blocks of L
pub decode_outer_taken : (c : Code) (L : ℕ) (fits : Bool) (page thresholds : List ℕ) → decode_outer_answer c L fits page thresholds ≡ 0
    → (decode_answer c fits page thresholds ≡ 0) × BlockFits c L
unfolding decode_answer decode_outer_answer page_tests table_tests size_tests threshold_tests
decode_outer_taken c L fits page ts e = let t = taken_first (decode_tests c fits page ts) (block_test c L) refl e in (t.0, block_taken c L t.1)

-- where decode takes its inputs, so does open
pub decode_opens : (c : Code) (others : Bool) (page thresholds : List ℕ) (lent : State) → decode_answer c (others && decode_fits c page lent) page thresholds ≡ 0
    → (others ≡ true) × (open_answer c page lent ≡ 0)
unfolding decode_answer open_answer page_tests table_tests size_tests threshold_tests
decode_opens c others page ts lent e =
    let t = taken_first (page_tests c (others && decode_fits c page lent) page) (threshold_tests ts) refl e in
    let o = (and_true others (decode_fits c page lent) (page_taken c (others && decode_fits c page lent) page t.0).buffers).0 in
    (o, subst (λ (b : Bool). first_that_applies (page_tests c (b && decode_fits c page lent) page) ≡ 0) o t.0)

-- ---- open

pub open_taken : (c : Code) (page : List ℕ) (lent : State) → open_answer c page lent ≡ 0 → (table_answer c ≡ 0) × Opens c page lent
unfolding open_answer page_tests table_answer table_tests size_tests
open_taken c page lent e = (
  (taken_first (table_tests c) (test 6 (not (decode_fits c page lent)) ∷ test 7 (not (all_below c.q page)) ∷ []) refl e).0,
  opens_by c true page lent (page_taken c (decode_fits c page lent) page e),
)

-- ---- a pass

-- its tests after those of the table
abbrev later_tests : Code → Bool → ℕ → State → List Test
later_tests c fits t lent = test 6 (not fits) ∷ test 7 (not (all_below c.q (state_symbols lent))) ∷ test 9 (not (ltb t 33)) ∷ []

tests_of : (c : Code) (fits : Bool) (t : ℕ) (lent : State) → pass_answer c fits t lent ≡ first_that_applies (table_tests c ++ later_tests c fits t lent)
unfolding pass_answer pass_tests page_tests threshold_test
tests_of c fits t lent = ap first_that_applies (append_assoc (table_tests c) (test 6 (not fits) ∷ test 7 (not (all_below c.q (state_symbols lent))) ∷ []) (threshold_test t))

-- where the table is accepted, they give its number
module _ (c : Code) (fits : Bool) (t : ℕ) (lent : State) (e : table_answer c ≡ 0) where
  pass_passed : pass_answer c fits t lent ≡ first_that_applies (later_tests c fits t lent)
  unfolding table_answer table_tests size_tests
  pass_passed = tests_of c fits t lent ∙ passed_first (table_tests c) (later_tests c fits t lent) refl e

  pub pass_six : fits ≡ false → pass_answer c fits t lent ≡ 6
  pass_six f = pass_passed ∙ refused_by 6 fits _ f

  pass_seven : fits ≡ true → all_below c.q (state_symbols lent) ≡ false → pass_answer c fits t lent ≡ 7
  pass_seven f b = pass_passed ∙ passed_by 6 fits _ f ∙ refused_by 7 (all_below c.q (state_symbols lent)) _ b

  pass_nine : fits ≡ true → all_below c.q (state_symbols lent) ≡ true → 33 ≤ t → pass_answer c fits t lent ≡ 9
  pass_nine f b h = pass_passed ∙ passed_by 6 fits _ f ∙ passed_by 7 (all_below c.q (state_symbols lent)) _ b ∙ refused_by 9 (ltb t 33) _ (le-ltb t 33 h)

  pass_zero : fits ≡ true → all_below c.q (state_symbols lent) ≡ true → t < 33 → pass_answer c fits t lent ≡ 0
  pass_zero f b h =
      pass_passed ∙ passed_by 6 fits _ f ∙ passed_by 7 (all_below c.q (state_symbols lent)) _ b ∙ passed_by 9 (ltb t 33) _ (is_true (ltb t 33) (lt→ltb t 33 h)) ∙ nothing_applies

-- the test of the symbols, buffer by buffer
pub state_below : (q : ℕ) (st : State) → all_below q (state_symbols st) ≡ (all_below q st.result && (all_below q st.syndrome && all_below q st.difference))
state_below q st = all_append q st.result (st.syndrome ++ st.difference) ∙ ap (λ (b : Bool). all_below q st.result && b) (all_append q st.syndrome st.difference)

-- its number is that of the page tests with the result for input where that is not 0
pub pass_refused : (c : Code) (fits : Bool) (t : ℕ) (lent : State) → first_that_applies (page_tests c fits lent.result) ≢ 0
    → pass_answer c fits t lent ≡ first_that_applies (page_tests c fits lent.result)
pass_refused c fits t lent n = elim (ℕ_discrete (table_answer c) 0) as (λ o. pass_answer c fits t lent ≡ first_that_applies (page_tests c fits lent.result)) [
  | yes e ↦ go e fits (all_below c.q lent.result) refl refl
  | no m ↦ tests_of c fits t lent ∙ refused_table c (later_tests c fits t lent) m ∙ sym (page_refused c fits lent.result m)
]
  where
    go : table_answer c ≡ 0 → (f b : Bool) → fits ≡ f → all_below c.q lent.result ≡ b → pass_answer c fits t lent ≡ first_that_applies (page_tests c fits lent.result)
    go e false b ef eb = pass_six c fits t lent e ef ∙ sym (page_passed c fits lent.result e ∙ refused_by 6 fits _ ef)
    go e true false ef eb =
        pass_seven c fits t lent e ef (state_below c.q lent ∙ rw eb refl)
        ∙ sym (page_passed c fits lent.result e ∙ passed_by 6 fits _ ef ∙ refused_by 7 (all_below c.q lent.result) _ eb)
    go e true true ef eb =
        absurd (n (page_passed c fits lent.result e ∙ passed_by 6 fits _ ef ∙ passed_by 7 (all_below c.q lent.result) _ eb ∙ nothing_applies))

-- else the tests of S, of D and of the threshold give it
module _ (c : Code) (fits : Bool) (t : ℕ) (lent : State) (e : first_that_applies (page_tests c fits lent.result) ≡ 0) where
  table_zero : table_answer c ≡ 0
  unfolding page_tests table_answer table_tests size_tests
  table_zero = (taken_first (table_tests c) (test 6 (not fits) ∷ test 7 (not (all_below c.q lent.result)) ∷ []) refl e).0

  fits_true : fits ≡ true
  fits_true = (page_taken c fits lent.result e).buffers

  result_true : all_below c.q lent.result ≡ true
  result_true = below_all c.q lent.result (page_taken c fits lent.result e).symbols

  pub pass_syndrome : all_below c.q lent.syndrome ≡ false → pass_answer c fits t lent ≡ 7
  pass_syndrome s = pass_seven c fits t lent table_zero fits_true (state_below c.q lent ∙ rw (result_true, s) refl)

  pub pass_difference : all_below c.q lent.syndrome ≡ true → all_below c.q lent.difference ≡ false → pass_answer c fits t lent ≡ 7
  pass_difference s d = pass_seven c fits t lent table_zero fits_true (state_below c.q lent ∙ rw (result_true, s, d) refl)

  module _ (s : all_below c.q lent.syndrome ≡ true) (d : all_below c.q lent.difference ≡ true) where
    all_true : all_below c.q (state_symbols lent) ≡ true
    all_true = state_below c.q lent ∙ rw (result_true, s, d) refl

    pub pass_high : 33 ≤ t → pass_answer c fits t lent ≡ 9
    pass_high h = pass_nine c fits t lent table_zero fits_true all_true h

    pub pass_none : t < 33 → pass_answer c fits t lent ≡ 0
    pass_none h = pass_zero c fits t lent table_zero fits_true all_true h

-- what a pass takes: an accepted table, three buffers of symbols below q of the right lengths, a threshold of at most 32
pub record PassTaken (c : Code) (t : ℕ) (lent : State) : Type 0 where
  pub table : table_answer c ≡ 0
  pub high : c.q ≤ highest c.profile
  pub sized : Sized c.q (data_count c) (check_count c) lent
  pub small : t < 33

pub pass_taken : (c : Code) (others : Bool) (t : ℕ) (lent : State) → pass_answer c (others && state_fits c lent) t lent ≡ 0 → (others ≡ true) × PassTaken c t lent
unfolding table_answer table_tests size_tests
pass_taken c others t lent e =
    let fits : Bool = others && state_fits c lent in
    let f = taken_first (table_tests c) (later_tests c fits t lent) refl (sym (tests_of c fits t lent) ∙ e) in
    let six = taken_by 5 fits _ f.1 in
    let seven = taken_by 6 (all_below c.q (state_symbols lent)) _ six.1 in
    let nine = taken_by 8 (ltb t 33) [] seven.1 in
    let a = table_accepted c f.0 in
    let pos : zero < c.q = omega (arith, two_symbols c.profile, a.0.q_low) in
    let o = and_true others (state_fits c lent) six.0 in
    let n = state_lengths c lent o.1 in
    let r = and_true (all_below c.q lent.result) _ (sym (state_below c.q lent) ∙ seven.0) in
    let s = and_true (all_below c.q lent.syndrome) (all_below c.q lent.difference) r.1 in (
      o.0,
      record {
        table = f.0;
        high = a.0.q_high;
        sized = record {
          len_result = n.result_length;
          len_syndrome = n.syndrome_length;
          len_difference = n.difference_length;
          in_result = all-below c.q pos lent.result r.0;
          in_syndrome = all-below c.q pos lent.syndrome s.0;
          in_difference = all-below c.q pos lent.difference s.1;
        };
        small = ltb→lt t 33 (subst T (sym nine.0) tt);
      },
    )

pub pass_takes : (c : Code) (t : ℕ) (lent : State) → table_answer c ≡ 0 → Sized c.q (data_count c) (check_count c) lent → t < 33
    → pass_answer c (state_fits c lent) t lent ≡ 0
pass_takes c t lent e z l =
    pass_zero c (state_fits c lent) t lent e (rw (eqb_yes _ _ z.len_result, eqb_yes _ _ z.len_syndrome, eqb_yes _ _ z.len_difference) refl)
    (state_below c.q lent ∙ rw (below_all c.q lent.result z.in_result, below_all c.q lent.syndrome z.in_syndrome, below_all c.q lent.difference z.in_difference) refl)
    l

-- ---- explain

-- its number is that of a pass where that is not 0; else the test of the symbol's number gives it
module _ (c : Code) (fits : Bool) (t j : ℕ) (read : State) where
  pub explain_refused : pass_answer c fits t read ≢ 0 → explain_answer c fits t j read ≡ pass_answer c fits t read
  unfolding explain_answer pass_answer
  explain_refused n = refused_first (pass_tests c fits t read) _ n

  explain_passed : pass_answer c fits t read ≡ 0 → explain_answer c fits t j read ≡ first_that_applies (test 11 (not (ltb j (data_count c))) ∷ [])
  unfolding explain_answer pass_answer pass_tests page_tests table_tests size_tests threshold_test
  explain_passed e = passed_first (pass_tests c fits t read) (test 11 (not (ltb j (data_count c))) ∷ []) refl e

  pub explain_beyond : pass_answer c fits t read ≡ 0 → data_count c ≤ j → explain_answer c fits t j read ≡ 11
  explain_beyond e h = explain_passed e ∙ refused_by 11 (ltb j (data_count c)) _ (le-ltb j (data_count c) h)

  pub explain_takes : pass_answer c fits t read ≡ 0 → j < data_count c → explain_answer c fits t j read ≡ 0
  explain_takes e h = explain_passed e ∙ passed_by 11 (ltb j (data_count c)) _ (is_true (ltb j (data_count c)) (lt→ltb j (data_count c) h)) ∙ nothing_applies

  pub explain_taken : explain_answer c fits t j read ≡ 0 → (pass_answer c fits t read ≡ 0) × (j < data_count c)
  unfolding explain_answer pass_answer pass_tests page_tests table_tests size_tests threshold_test
  explain_taken e =
      let f = taken_first (pass_tests c fits t read) (test 11 (not (ltb j (data_count c))) ∷ []) refl e in
      (f.0, ltb→lt j (data_count c) (subst T (sym (taken_by 10 (ltb j (data_count c)) [] f.1).0) tt))
