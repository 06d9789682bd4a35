-- The code that parameters and a table stand for, where symbols are wide: q is that of the profile, whatever the parameters say.
use Rattle.std.specs.Prelude.{ℕ, List}
use Rattle.model.specs.Code.{Profile, Code, wide_code}
use Rattle.params.specs.declared.Params.{Params}

abbrev pub wide_code_by : Profile → Params → List ℕ → Code
wide_code_by f p positions = wide_code f p.k p.b positions
