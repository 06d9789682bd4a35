-- `weakest_of`: each turn compares one reliability more, as integers.
use Rattle.model.specs.Decoder.{state_by}
use Rattle.model.specs.Outer.{reliability_of}
use Rattle.params.specs.Codes.{code_by}
use Rattle.outer_steps.specs.Weakest.{LeastTo}
use Rattle.outer_steps.proofs.weakest_of.Given as goal

abbrev pub invariant-loop-j : goal.invariant-loop-j
invariant-loop-j l =
    LeastTo (reliability_of (code_by l.code l.positions) l.e (state_by l.d l.s l.d)) l.first l.last l.j l.best l.least
