-- The number of each refusal, as documents 01 and 02 have them, and the number that a call answers.
use Rattle.std.specs.Prelude.{◌≡◌, ◌≢◌, ℕ, Result, Ok, Err, OnOk, refl}
use Rattle.std.proofs.Common.{sym, ◌∙◌}
use Rattle.refusals.specs.declared.Refusal.{Refusal}
use Rattle.refusals.specs.declared.Refusal.TheVariants.{Q, K, Branches, J, Position, NotSelfOrthogonal, Length, Symbol, ThresholdCount, Threshold, SymbolNumber, Block, Contents, Entry, Body}

abbrev pub number : Refusal → ℕ
number Q = 1
number K = 2
number J = 3
number Position = 4
number NotSelfOrthogonal = 5
number Length = 6
number Symbol = 7
number ThresholdCount = 8
number Threshold = 9
number Branches = 10
number SymbolNumber = 11
number Block = 12
number Contents = 13
number Entry = 14
number Body = 15

-- 0 where a call was done, and else the number of its refusal
abbrev pub answer : {A : Type 0} → Result A Refusal → ℕ
answer (Ok _) = 0
answer (Err refusal) = number refusal

-- no refusal has the number 0
pub not_zero : (r : Refusal) → number r ≡ 0 → ⊥
not_zero Q = λ e. cc
not_zero K = λ e. cc
not_zero J = λ e. cc
not_zero Position = λ e. cc
not_zero NotSelfOrthogonal = λ e. cc
not_zero Length = λ e. cc
not_zero Symbol = λ e. cc
not_zero ThresholdCount = λ e. cc
not_zero Threshold = λ e. cc
not_zero Branches = λ e. cc
not_zero SymbolNumber = λ e. cc
not_zero Block = λ e. cc
not_zero Contents = λ e. cc
not_zero Entry = λ e. cc
not_zero Body = λ e. cc

-- a refusal that is handed on: its number is m, where m is n for every n that is not 0
pub handed_on : (r : Refusal) (n m : ℕ) → number r ≡ n → (n ≢ 0 → m ≡ n) → number r ≡ m
handed_on r n m e same = e ∙ sym (same (λ z. not_zero r (e ∙ z)))

-- what is said on Ok is what is said where the number is 0
pub on_zero : {A P : Type 0} (r : Result A Refusal) → OnOk r P → answer r ≡ 0 → P
on_zero (Ok _) p e = p
on_zero (Err refusal) p e = absurd (not_zero refusal e)

pub zero_on : {A P : Type 0} (r : Result A Refusal) → (answer r ≡ 0 → P) → OnOk r P
zero_on (Ok _) p = p refl
zero_on (Err _) p = tt
