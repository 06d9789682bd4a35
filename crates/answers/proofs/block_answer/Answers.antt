-- `block_answer`: blocks of less than 2 symbols are refused; of others, whether they make up the data decides.
use Rattle.std.proofs.Common.{◌≡◌, ℕ, ◌%◌, ◌&&◌, Bool, eqb, leb, le-leb, ap, sym, ◌∙◌, refl, ◌≤◌, arith}
use Rattle.std.proofs.lemmas.Bool.{lt-leb}
use Rattle.model.specs.Calls.{block_test}
use Rattle.theory.specs.Answers.{refused_by, passed_by, nothing_applies}
use Rattle.answers.proofs.block_answer.Goals as goal

-- what the test says of blocks of 2 or more
fit : (block n m : ℕ) (d : Bool) → 2 ≤ block → m ≡ n → d ≡ eqb (m % block) 0 → (leb 2 block && eqb (n % block) 0) ≡ d
fit block n m d low e r = rw (le-leb 2 block low) (sym (r ∙ ap (λ (x : ℕ). eqb (x % block) 0) e))

pub returns-then-block-lt2 : goal.returns-then-block-lt2
unfolding block_test
returns-then-block-lt2 c = λ ps. sym (refused_by 12 _ _ (rw (lt-leb 2 c.args.block (omega arith)) refl))

pub returns-then-not-divides : goal.returns-then-not-divides
unfolding block_test
returns-then-not-divides c = λ ps. sym (refused_by 12 _ _ (fit _ _ _ _ (omega arith) c.data_count.ensures c.divides.ensures ∙ c.if-not-divides.true))

pub returns : goal.returns
unfolding block_test
returns c = λ ps. sym (passed_by 12 _ _ (fit _ _ _ _ (omega arith) c.data_count.ensures c.divides.ensures ∙ c.if-not-divides.false) ∙ nothing_applies)
