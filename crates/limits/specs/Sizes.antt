-- The tests of the sizes of a code but for its q.
use Rattle.std.specs.Prelude.{not, List, [], ◌∷◌}
use Rattle.model.specs.Calls.{Test, test, within, branches_fit, runs_fit}
use Rattle.model.specs.Code.{Code}

-- tests 2, 10 and 3
abbrev pub shape_tests : Code → List Test
shape_tests c = test 2 (not (within 1 4096 c.k)) ∷ test 10 (not (branches_fit c)) ∷ test 3 (not (runs_fit c)) ∷ []
