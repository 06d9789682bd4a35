-- Demand 3: the falling distance of any list of visits from an opened page, the recovery of the data sent, both of a decode, and the first of a pass;
-- what becomes of them with the outer check.
use Rattle.std.specs.Prelude.{◌≡◌, ◌≢◌, true, false, List, [], ◌∷◌, ℕ, suc, ◌+◌, ◌-◌, ◌%◌, ◌<◌, ◌≤◌, min, pos, ◌+ℤ◌, get_or}
use Rattle.model.specs.Symbols.{choose, distance}
use Rattle.model.specs.Code.{Code, data_count, page_length, checks_each, checks_of, code_word, data_of}
use Rattle.model.specs.Decoder.{State, Visit, Counts, changes, visit, after, pass, data_symbols, opened, run, state_weight, distance_to, decoded_state, decoded_counts}
use Rattle.model.specs.Outer.{block_sum, block_count, outer_word, reliability_of, weakest, is_step, outer_step, outer_steps, step_count, outer_state}
use Rattle.model.specs.Calls.{encode_answer, passed_state}

-- ---- the first half

-- one visit, from the state that it gets, and a distance d; demand 3: each change lowers the distance by more than its pass's threshold, and every other visit leaves it
pub record VisitFalls (q : ℕ) (checks : ℕ → List ℕ) (d : State → ℕ) (v : Visit) (st : State) : Type 0 where
  pub lowered : changes checks v st ≡ true → d (visit q checks v st) + v.threshold < d st
  pub left : changes checks v st ≡ false → visit q checks v st ≡ st

-- every visit of a list, "with every visit in its place there"
abbrev pub Falls : ℕ → (ℕ → List ℕ) → (State → ℕ) → List Visit → State → Type 0
Falls q checks d [] st = Unit {0}
Falls q checks d (v ∷ vs) st = VisitFalls q checks d v st × Falls q checks d vs (visit q checks v st)

-- "for each change in it, its pass's T plus 1": the sum of these over a list of visits
unfoldable pub spent : ℕ → (ℕ → List ℕ) → List Visit → State → ℕ
spent q checks [] st = 0
spent q checks (v ∷ vs) st = choose (changes checks v st) (suc v.threshold) 0 + spent q checks vs (visit q checks v st)

-- the visits of a list, from an opened page, fall, and
-- "the distance when the run ends plus, for each change in it, its pass's T plus 1, is at most the distance at the start"
pub record RunFalls (c : Code) (page : List ℕ) (visits : List Visit) : Type 0 where
  pub falls : Falls c.q (checks_of c) (distance_to c page) visits (opened c page)
  pub total : distance_to c page (after c.q (checks_of c) visits (opened c page)) + spent c.q (checks_of c) visits (opened c page)
      ≤ distance_to c page (opened c page)

-- of a decode: its run falls, and the total holds of the distances that it hands back
pub record DecodeFalls (c : Code) (thresholds page : List ℕ) (counts : Counts) : Type 0 where
  pub falls : RunFalls c page (run c thresholds page)
  pub total : counts.end + spent c.q (checks_of c) (run c thresholds page) (opened c page) ≤ counts.start

-- of a pass on buffers of any content in range: "each change lowers the nonzero count of S and D together by more than T" (N5), and every other
-- visit leaves the three buffers
pub record PassFalls (c : Code) (threshold : ℕ) (st : State) : Type 0 where
  pub falls : Falls c.q (checks_of c) state_weight (pass (data_symbols c) threshold) st
  pub total : state_weight (passed_state c threshold st) + spent c.q (checks_of c) (pass (data_symbols c) threshold) st ≤ state_weight st

-- ---- the second half

-- encode takes the data u and writes the page `sent`
abbrev pub Encodes : Code → List ℕ → List ℕ → Type 0
Encodes c u sent = (encode_answer c u (page_length c) ≡ 0) × (sent ≡ code_word c u)

-- t replaced symbols and a threshold: 2t plus the threshold is at most J
abbrev pub WithinBound : Code → ℕ → ℕ → Type 0
WithinBound c t threshold = t + t + threshold ≤ checks_each c

-- of a result that passes with this threshold among them hand back: where the page "differs in at most t of its n places from a page that encode
-- writes", within the bound, the result is "the data symbols of the page as encode wrote it"
abbrev pub Recovers : Code → ℕ → List ℕ → List ℕ → Type 0
Recovers c threshold page result =
    (u sent : List ℕ) (t : ℕ) → Encodes c u sent → distance sent page ≤ t → WithinBound c t threshold → result ≡ data_of c sent

-- the smallest of a list that is not empty
unfoldable pub smallest : List ℕ → ℕ
smallest [] = 0
smallest (t ∷ []) = t
smallest (t ∷ u ∷ us) = min t (smallest (u ∷ us))

-- of a decode: "The recovery bound now uses the smallest threshold in the list instead of the first." (N4)
abbrev pub DecodeRecovers : Code → List ℕ → List ℕ → List ℕ → Type 0
DecodeRecovers c thresholds page result = Recovers c (smallest thresholds) page result

-- ---- with the outer check (N8)

-- the outer rule: each block of L sums to 0
abbrev pub KeepsOuter : Code → ℕ → List ℕ → Type 0
KeepsOuter c L u = (i : ℕ) → i < block_count c L → block_sum c.q L u i ≡ 0

-- encode in blocks of L takes the data u and writes the page `sent`: it is the one that encode writes for data that agrees with u but at the last
-- places of blocks, and keeps the rule
pub record EncodesOuter (c : Code) (L : ℕ) (u sent : List ℕ) : Type 0 where
  pub agrees : (j : ℕ) → j < data_count c → j % L ≢ L - 1 → get_or (outer_word c L u) j 0 ≡ get_or u j 0
  pub keeps : KeepsOuter c L (outer_word c L u)
  pub encodes : Encodes c (outer_word c L u) sent

-- one outer step, of block i, from the state that it gets: "Such a step adds exactly that reliability to the distance", and where there is none the
-- state is left
pub record StepAdds (c : Code) (L : ℕ) (page : List ℕ) (i : ℕ) (st : State) : Type 0 where
  pub added : is_step c L i st ≡ true
      → pos (distance_to c page (outer_step c L i st))
      ≡ pos (distance_to c page st) +ℤ reliability_of c (block_sum c.q L st.result i) st (weakest c L i (block_sum c.q L st.result i) st)
  pub left : is_step c L i st ≡ false → outer_step c L i st ≡ st

-- of a decode in blocks of L: "the falling-distance rule speaks of passes only", with the distance after them; each block in its turn adds its
-- step's reliability; and the distances that it hands back are that at the start and that after the steps
pub record OuterFalls (c : Code) (L : ℕ) (thresholds page : List ℕ) (counts : Counts) : Type 0 where
  pub falls : RunFalls c page (run c thresholds page)
  pub steps : (i : ℕ) → i < block_count c L → StepAdds c L page i (outer_steps c L i (decoded_state c thresholds page))
  pub start : counts.start ≡ distance_to c page (opened c page)
  pub end : counts.end ≡ distance_to c page (outer_state c L thresholds page)

-- what a decode in blocks of L hands back of a page that was sent: its data, "and there no outer step occurs"
pub record OuterRecovered (c : Code) (L : ℕ) (thresholds page sent result : List ℕ) (counts : Counts) : Type 0 where
  pub data_sent : result ≡ data_of c sent
  pub no_step : step_count c L (block_count c L) (decoded_state c thresholds page) ≡ 0
  pub changes : counts.changes ≡ (decoded_counts c thresholds page).changes

-- "The recovery bound holds for pages whose data, as sent, kept the outer rule in blocks of the L that decode gets"
abbrev pub OuterRecovers : Code → ℕ → List ℕ → List ℕ → List ℕ → Counts → Type 0
OuterRecovers c L thresholds page result counts =
    (u sent : List ℕ) (t : ℕ) → Encodes c u sent → KeepsOuter c L u → distance sent page ≤ t → WithinBound c t (smallest thresholds)
    → OuterRecovered c L thresholds page sent result counts
