use Rattle.std.proofs.Common.{arith}
use Rattle.c_files.specs.Lists.{fit_numbers, fit_sizes, fit_last}
use Rattle.c_files.proofs.lists_fit.Goals as goal

pub returns-then-numbers-ne0 : goal.returns-then-numbers-ne0
returns-then-numbers-ne0 c = fit_numbers _ _ _ _ (λ e. omega arith)

pub returns-then-numbers-tops : goal.returns-then-numbers-tops
returns-then-numbers-tops c = fit_numbers _ _ _ _ (λ e. omega arith)

pub returns-then-sizes-ne0 : goal.returns-then-sizes-ne0
returns-then-sizes-ne0 c = fit_sizes _ _ _ _ (omega arith) (λ e. omega arith)

pub returns-then-sizes-tops : goal.returns-then-sizes-tops
returns-then-sizes-tops c = fit_sizes _ _ _ _ (omega arith) (λ e. omega arith)

pub returns : goal.returns
returns c = fit_last _ _ _ _ (omega arith) (omega arith)
