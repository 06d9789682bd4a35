-- The code: its profile, its table of positions, the checks of a data symbol, code word and syndrome, and when the table is self-orthogonal.
use Rattle.std.specs.Prelude.{◌≢◌, Bool, true, ◌&&◌, ◌||◌, List, [], ◌∷◌, ◌++◌, ℕ, zero, suc, ◌+◌, ◌*◌, ◌/◌, ◌%◌, ◌<◌, ◌≤◌, eqb, leb, length, get_or, take, drop}
use Rattle.model.specs.Symbols.{choose, sub, count, sum_over, sum_of_first, tabulate, join_below}

-- the sizes of alphabet that a group of calls takes: symbols of a byte, "A profile for bit pages" (N9), "Two-byte and four-byte symbols" (N10)
pub data Profile : Type 0 where
  byte_pages : Profile
  bit_pages : Profile
  wide16 : Profile
  wide32 : Profile

-- the smallest and the largest: q from 3 to 256; "In this profile q is 2" (N9); "Support q = 65,536 and q = 4,294,967,296" (N10)
abbrev pub lowest : Profile → ℕ
lowest byte_pages = 3
lowest bit_pages = 2
lowest wide16 = 65536
lowest wide32 = 4294967296

abbrev pub highest : Profile → ℕ
highest byte_pages = 256
highest bit_pages = 2
highest wide16 = 65536
highest wide32 = 4294967296

-- "q is the alphabet size"; "A code may have b data branches of k symbols each, with k checks for all of them.
-- The table holds b runs of J positions" (N2): the positions of all runs, one run after the other. The profile matters to test 1 alone
pub record Code : Type 0 where
  pub profile : Profile
  pub q : ℕ
  pub k : ℕ
  pub b : ℕ
  pub positions : List ℕ

-- the code of a call's q, k, b and table, by the profile of the call
abbrev pub code_in : Profile → ℕ → ℕ → ℕ → List ℕ → Code
code_in profile q k b positions = record { profile = profile; q = q; k = k; b = b; positions = positions }

-- of the calls on bytes
abbrev pub code_of : ℕ → ℕ → ℕ → List ℕ → Code
code_of q k b positions = code_in byte_pages q k b positions

-- of the calls on wide symbols, which have no q: the profile has one
abbrev pub wide_code : Profile → ℕ → ℕ → List ℕ → Code
wide_code profile k b positions = code_in profile (highest profile) k b positions

-- "Data, result, D and margins have b times k places"
abbrev pub data_count : Code → ℕ
data_count c = c.b * c.k

abbrev pub check_count : Code → ℕ
check_count c = c.k

-- "a page has (b + 1) times k"
abbrev pub page_length : Code → ℕ
page_length c = data_count c + check_count c

-- J, the number of positions in a run: so many checks has each data symbol
abbrev pub checks_each : Code → ℕ
checks_each c = length c.positions / c.b

-- the run of positions of branch r
unfoldable pub branch_at : Code → ℕ → List ℕ
branch_at c r = take (checks_each c) (drop (r * checks_each c) c.positions)

-- the (j + p) mod k over a list of positions p
unfoldable pub checks_by : ℕ → List ℕ → ℕ → List ℕ
checks_by k [] j = []
checks_by k (p ∷ ps) j = (j + p) % k ∷ checks_by k ps j

-- "data symbol j is in the checks (j + p) mod k, and no others. We call these its checks.":
-- data symbol j is symbol j mod k of branch j / k, and p are the positions of this branch
unfoldable pub checks_of : Code → ℕ → List ℕ
checks_of c j = checks_by c.k (branch_at c (j / c.k)) (j % c.k)

-- the sum of u((i − p) mod k) over a list of positions p, as a number: of the k data symbols u of one branch
unfoldable pub check_sum_by : ℕ → List ℕ → List ℕ → ℕ → ℕ
check_sum_by k ps u i = sum_over ps (λ p. get_or u (sub k i p) 0)

-- the k data symbols of branch r
abbrev pub branch_data : Code → List ℕ → ℕ → List ℕ
branch_data c u r = take c.k (drop (r * c.k) u)

-- "Check v(i) is the sum of u((i − p) mod k) over all positions p of the table." "A check is the sum over all branches."
unfoldable pub check_symbol : Code → List ℕ → ℕ → ℕ
check_symbol c u i = sum_of_first c.b (λ r. check_sum_by c.k (branch_at c r) (branch_data c u r) i) % c.q

-- v(0) to v(k − 1)
unfoldable pub check_symbols : Code → List ℕ → List ℕ
check_symbols c u = tabulate (check_count c) (λ i. check_symbol c u i)

-- "Visits and the page take the branches in turn, the page then the checks."
unfoldable pub code_word : Code → List ℕ → List ℕ
code_word c u = u ++ check_symbols c u

-- the data and the checks of a received page
abbrev pub data_of : Code → List ℕ → List ℕ
data_of c page = take (data_count c) page

abbrev pub received_checks : Code → List ℕ → List ℕ
received_checks c page = drop (data_count c) page

-- "s(i) = (sum of received data symbols in check i) − (received check symbol i)"
unfoldable pub syndrome : Code → List ℕ → List ℕ
syndrome c page = tabulate (check_count c) (λ i. sub c.q (check_symbol c (data_of c page) i) (get_or (received_checks c page) i 0))

-- how many checks data symbols j and l have in common
unfoldable pub shared : Code → ℕ → ℕ → ℕ
shared c j l = sum_over (checks_of c j) (λ i. count i (checks_of c l))

-- "Any two different data symbols, of one branch or of two, share at most one check."
abbrev pub SelfOrthogonal : Code → Type 0
SelfOrthogonal c = (j l : ℕ) → j < data_count c → l < data_count c → l ≢ j → shared c j l ≤ 1

-- whether a test holds for each number below n
unfoldable pub every_below : ℕ → (ℕ → Bool) → Bool
every_below zero f = true
every_below (suc n) f = f n && every_below n f

-- the same as a test, over all pairs of data symbols
unfoldable pub self_orthogonal : Code → Bool
self_orthogonal c = every_below (data_count c) (λ j. every_below (data_count c) (λ l. eqb l j || leb (shared c j l) 1))

-- (a − b) mod k over the positions b other than a
unfoldable pub differences_from : ℕ → ℕ → List ℕ → List ℕ
differences_from k a [] = []
differences_from k a (b ∷ bs) = choose (eqb a b) (differences_from k a bs) (sub k a b ∷ differences_from k a bs)

-- (a − b) mod k over all a of the first list and all b of the second that differ from a
unfoldable pub differences_by : ℕ → List ℕ → List ℕ → List ℕ
differences_by k [] bs = []
differences_by k (a ∷ ps) bs = differences_from k a bs ++ differences_by k ps bs

-- "over all ordered pairs of different positions a, b, the values (a − b) mod k": both of one run, over all runs together
abbrev pub differences : Code → List ℕ
differences c = join_below c.b (λ r. differences_by c.k (branch_at c r) (branch_at c r))

-- no value stands twice in a list
unfoldable pub all_different : List ℕ → Bool
all_different [] = true
all_different (x ∷ xs) = eqb (count x xs) 0 && all_different xs
