-- The numbers of the calls in a file of reference pages.
use Rattle.std.specs.Prelude.{ℕ, ◌+◌}
use Rattle.records.specs.declared.call.Profile.{Profile}
use Rattle.records.specs.declared.call.Profile.TheVariants.{Bytes, Bits, U16, U32}
use Rattle.records.specs.declared.call.Step.{Step}
use Rattle.records.specs.declared.call.Step.TheVariants.{CheckTable, Encode, Syndrome, Decode, Open, Pass, Explain}
use Rattle.records.specs.declared.call.Call.{Call}
use Rattle.records.specs.declared.call.Call.TheVariants.{Of, DecodeCounters, EncodeOuter, DecodeOuter, FileRead, FileWrite}

-- a profile's first call
abbrev pub first_call : Profile → ℕ
first_call Bytes = 1
first_call Bits = 11
first_call U16 = 18
first_call U32 = 25

-- a call's place among those of its profile
abbrev pub place_of : Step → ℕ
place_of CheckTable = 0
place_of Encode = 1
place_of Syndrome = 2
place_of Decode = 3
place_of Open = 4
place_of Pass = 5
place_of Explain = 6

abbrev pub call_number : Call → ℕ
call_number (Of profile step) = first_call profile + place_of step
call_number DecodeCounters = 8
call_number EncodeOuter = 9
call_number DecodeOuter = 10
call_number FileRead = 32
call_number FileWrite = 33
