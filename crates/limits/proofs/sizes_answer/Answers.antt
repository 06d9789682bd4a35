-- `sizes_answer` walks tests 2, 10 and 3: a return names the tests passed on the way to it, whose calls are looked for.
use Rattle.std.proofs.Common.{◌≡◌, Bool, true, false, List, ℕ, ◌≤◌, sym, ◌∙◌, [], rules}
use Rattle.model.specs.Calls.{first_that_applies, within, branches_fit, runs_fit}
use Rattle.params.specs.Codes.{code_by}
use Rattle.params.specs.declared.Params.{Params}
use Rattle.theory.specs.Answers.{and_true, within_facts, refused_by, passed_by, nothing_applies}
use Rattle.limits.specs.Sizes.{shape_tests}
use Rattle.limits.proofs.sizes_answer.Goals as goal

-- test 2 passed, b that of test 10
module _ (code : Params) (ps : List ℕ) (w : Bool) (k : w ≡ within 1 4096 code.k) (in_k : w ≡ true) (b : Bool) (fits : (x : List ℕ) → b ≡ branches_fit (code_by code x)) where
  refused_b : b ≡ false → 10 ≡ first_that_applies (shape_tests (code_by code ps))
  refused_b n = sym (passed_by 2 _ _ (sym k ∙ in_k) ∙ refused_by 10 _ _ (sym (fits []) ∙ n))

  b_low : b ≡ true → 1 ≤ code.b
  b_low y = (within_facts 1 8 _ (and_true _ _ (sym (fits []) ∙ y)).0).0

  -- test 10 passed, r that of test 3
  module _ (in_b : b ≡ true) (r : Bool) (runs : r ≡ runs_fit (code_by code ps)) where
    refused_r : r ≡ false → 3 ≡ first_that_applies (shape_tests (code_by code ps))
    refused_r n = sym (passed_by 2 _ _ (sym k ∙ in_k) ∙ passed_by 10 _ _ (sym (fits []) ∙ in_b) ∙ refused_by 3 _ _ (sym runs ∙ n))

    passed_r : r ≡ true → 0 ≡ first_that_applies (shape_tests (code_by code ps))
    passed_r y = sym (passed_by 2 _ _ (sym k ∙ in_k) ∙ passed_by 10 _ _ (sym (fits []) ∙ in_b) ∙ passed_by 3 _ _ (sym runs ∙ y) ∙ nothing_applies)

pub returns-then-not-within : goal.returns-then-not-within
returns-then-not-within c = sym (refused_by 2 _ _ (sym c.within.ensures ∙ c.if-not-within.true))

pub branches_fit-requires : goal.branches_fit-requires
branches_fit-requires c = (within_facts 1 4096 _ (sym c.within.ensures ∙ c.if-not-within.false)).1

pub returns-then-not-branches_fit : goal.returns-then-not-branches_fit
returns-then-not-branches_fit c = search (rules, refused_b)

pub returns-then-not-runs_fit : goal.returns-then-not-runs_fit
returns-then-not-runs_fit c = search (rules, refused_r)

pub returns : goal.returns
returns c = search (rules, passed_r)

pub runs_fit-requires : goal.runs_fit-requires
runs_fit-requires c = search (rules, b_low)
