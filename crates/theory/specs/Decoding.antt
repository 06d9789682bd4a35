-- Decoding a page by a code: demand 3 of any visits from an opened page, and what holds at every moment of them.
use Rattle.std.specs.Prelude.{◌≡◌, take, drop}
use Rattle.std.proofs.Math.Path.{ap}
use Rattle.std.proofs.Common.{sym, ◌∙◌, take-append-drop}
use mathlib.Core.List.{List, []}
use Prim.Native.Nat.{ℕ, ◌+◌, ◌<◌}
use Rattle.model.specs.Code.{Code, data_count, check_count, page_length, checks_of}
use Rattle.model.specs.Decoder.{State, Visit, estimates, change, after, change_count, pass, none, data_symbols, opened, passes_of, distance_to, state_weight}
use Rattle.model.specs.Demand.{Falls, RunFalls}
use Rattle.model.specs.Symbols.{count, distance}
use Rattle.theory.specs.Codes.{Usable, code_incidence, code-word, code_opened}
use Rattle.theory.specs.Distance.{word_of, Received, Tied, change_tied, page_distance}
use Rattle.theory.specs.Falling.{InRange, after_sized, after_tied, idle_after, falls_spent}
use Rattle.theory.specs.Page.{received, opened_sized, opened_tied, page_falls}
use Rattle.theory.specs.Runs.{range_pass, symbols_range}
use Rattle.theory.specs.Schedule.{minima, idle_run}
use Rattle.theory.specs.Steps.{SymbolsBelow, Sized, change_sized, change_weight}

-- a state of a received page: D is the result minus the received data, S the code word's checks minus the received checks
pub record OnPage (c : Code) (page : List ℕ) (st : State) : Type 0 where
  pub sized : Sized c.q (data_count c) (check_count c) st
  pub tied : Tied c.q (data_count c) (check_count c) (checks_of c) (take (data_count c) page) (drop (data_count c) page) st

module _ (c : Code) (l : Usable c) (page : List ℕ) (whole : SymbolsBelow c.q (page_length c) page) where
  distance_of : distance_to c page ≡ (λ (s : State). distance (word_of c.q (data_count c) (check_count c) (checks_of c) s.result) page)
  unfolding distance_to
  distance_of = λ i. λ s. ap (λ (w : List ℕ). distance w page) (code-word c l.table s.result) i

  -- demand 3, first half
  pub code_falls : (vs : List Visit) → InRange (data_count c) vs → RunFalls c page vs
  code_falls vs r =
      let f : Falls c.q (checks_of c) (distance_to c page) vs (opened c page) =
      rw (code_opened c l.table page, distance_of) (page_falls (code_incidence c l) whole vs r) in
      record { falls = f; total = falls_spent c.q (checks_of c) (distance_to c page) vs (opened c page) f }

  -- the state at the start, and after any visits: its symbols are below q, and D and S are tied to the result
  pub code_opened_sized : Sized c.q (data_count c) (check_count c) (opened c page)
  code_opened_sized = rw (code_opened c l.table page) (opened_sized (code_incidence c l) whole)

  pub code_received : Received c.q (data_count c) (check_count c) (take (data_count c) page) (drop (data_count c) page)
  code_received = received c.q (data_count c) (check_count c) (code_incidence c l).pos page whole

  pub code_sized : (vs : List Visit) → Sized c.q (data_count c) (check_count c) (after c.q (checks_of c) vs (opened c page))
  code_sized vs = after_sized (code_incidence c l) vs (opened c page) code_opened_sized

  pub code_tied : (vs : List Visit) → InRange (data_count c) vs
      → Tied c.q (data_count c) (check_count c) (checks_of c) (take (data_count c) page) (drop (data_count c) page) (after c.q (checks_of c) vs (opened c page))
  code_tied vs r =
      let inc = code_incidence c l in
      after_tied inc code_received vs r (opened c page) code_opened_sized (rw (code_opened c l.table page) (opened_tied inc whole))

  -- the distance of a state of the page is the number of nonzero symbols of its S and D
  pub on_distance : (st : State) → OnPage c page st → distance_to c page st ≡ state_weight st
  on_distance st p =
      rw distance_of
      (ap (λ (w : List ℕ). distance (word_of c.q (data_count c) (check_count c) (checks_of c) st.result) w) (sym (take-append-drop (data_count c) page))
      ∙ page_distance c.q (data_count c) (check_count c) (code_incidence c l).pos (checks_of c) (take (data_count c) page) (drop (data_count c) page)
      code_received st p.sized p.tied)

  -- such are those after any visits,
  pub code_on : (vs : List Visit) → InRange (data_count c) vs → OnPage c page (after c.q (checks_of c) vs (opened c page))
  code_on vs r = record { sized = code_sized vs; tied = code_tied vs r }

  pub code_distance : (vs : List Visit) → InRange (data_count c) vs → distance_to c page (after c.q (checks_of c) vs (opened c page))
      ≡ state_weight (after c.q (checks_of c) vs (opened c page))
  code_distance vs r = on_distance (after c.q (checks_of c) vs (opened c page)) (code_on vs r)

  -- and after a subtraction from a data symbol and its checks: it takes the estimates equal to h off the distance, and adds the zeros
  module _ (j h : ℕ) (hj : j < data_count c) (hh : h < c.q) (st : State) (p : OnPage c page st) where
    pub change_on : OnPage c page (change c.q (checks_of c j) j h st)
    change_on =
        let inc = code_incidence c l in
        record {
          sized = change_sized c.q (data_count c) (check_count c) inc.pos (checks_of c j) j h st p.sized;
          tied = change_tied c.q (data_count c) (check_count c) inc.pos (checks_of c) (take (data_count c) page) (drop (data_count c) page) code_received j h st p.sized hj hh
              (inc.apart j hj) (inc.inside j hj) p.tied;
        }

    pub change_distance : distance_to c page (change c.q (checks_of c j) j h st) + count h (estimates (checks_of c j) j st)
        ≡ distance_to c page st + count 0 (estimates (checks_of c j) j st)
    change_distance =
        let inc = code_incidence c l in
        rw (on_distance st p, on_distance (change c.q (checks_of c j) j h st) change_on)
        (change_weight c.q (data_count c) (check_count c) inc.pos (checks_of c j) j h st p.sized hj hh (inc.apart j hj) (inc.inside j hj))

  -- at distance 0 no visits alter anything
  pub code_idle : distance_to c page (opened c page) ≡ 0 → (vs : List Visit) → InRange (data_count c) vs
      → (after c.q (checks_of c) vs (opened c page) ≡ opened c page) × (change_count c.q (checks_of c) vs (opened c page) ≡ 0)
  unfolding after
  code_idle z vs r = idle_after (code_incidence c l) vs r (opened c page) code_opened_sized (sym (code_distance [] tt) ∙ z)

  -- so the passes run are those of which every one is idle
  pub code_minima : distance_to c page (opened c page) ≡ 0 → (ts : List ℕ) → passes_of c ts page ≡ minima none ts
  unfolding passes_of
  code_minima z ts =
      let js : List ℕ = data_symbols c in
      idle_run c.q (checks_of c) js (opened c page) (λ t. code_idle z (pass js t) (range_pass (data_count c) js t (symbols_range c))) none ts
