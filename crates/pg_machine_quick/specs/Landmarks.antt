-- What is known of places in the code.
use Rattle.std.specs.Prelude.{◌≡◌, ◌+◌, ℕ, zero, suc, Bool, List, Some, slice_get}
use Rattle.pg_machine_plan.specs.Plans.{Plan}
use Rattle.pg_machine_plan.specs.declared.instruction.Instruction.TheVariants.{Enter, Read, Span, Open, Close, ReadPrefix, ReadPostfix, ReadInfix, Settle}
use Rattle.pg_machine_plan.specs.declared.instruction.Keep.{Keep}
use Rattle.pg_machine_plan.specs.declared.instruction.Keep.TheVariants.{Hidden}
use Rattle.pg_machine_quick.specs.declared.landmarks.Landmark.{Landmark}
use Rattle.pg_machine_quick.specs.declared.landmarks.Landmark.TheVariants.{Plain, EndsRow, BeginsPrefixes, BeginsToken, BeginsWrapped}
use Rattle.pg_machine_quick.specs.declared.passing.RowEnd.{RowEnd}
use Rattle.pg_machine_quick.specs.declared.tokens.Token.{Token}
use Rattle.pg_machine_quick.specs.declared.tokens.Wrapped.{Wrapped}

-- the end of a row of an expression is there
abbrev pub IsRowEnd : Plan → ℕ → RowEnd → Type 0
IsRowEnd plan pc e = (first second third : Keep) × (slice_get plan.code pc ≡ Some (Settle first e.node e.rank))
    × (slice_get plan.code (pc + 1) ≡ Some (ReadPostfix second e.node e.row)) × (slice_get plan.code (pc + 1 + 1) ≡ Some (ReadInfix third e.node e.row))

-- from there on so many prefix operators are read, one row after another
abbrev pub ArePrefixes : Plan → ℕ → ℕ → Type 0
ArePrefixes plan pc zero = Unit {0}
ArePrefixes plan pc (suc n) = ArePrefixes plan pc n × (row : ℕ) × (slice_get plan.code (pc + n) ≡ Some (ReadPrefix row))

-- behind the beginning of a form, the code of a token and the end of the form
abbrev pub IsToken : Plan → ℕ → Token → Type 0
IsToken plan pc t = (slice_get plan.code (pc + 1) ≡ Some Enter) × (slice_get plan.code (pc + 1 + 1) ≡ Some (Read Hidden t.first))
    × (slice_get plan.code (pc + 1 + 1 + 1) ≡ Some (Span Hidden t.rest)) × (slice_get plan.code (pc + 1 + 1 + 1 + 1) ≡ Some (Close t.keep t.node))

-- behind the beginning of a form, the code of one around a token, and the end of the form
abbrev pub IsWrapped : Plan → ℕ → Wrapped → Type 0
IsWrapped plan pc w = (counts : Bool) × (slice_get plan.code (pc + 1) ≡ Some (Open counts)) × IsToken plan (pc + 1) w.token × (slice_get plan.code (pc + 1 + 5) ≡ Some (Close w.keep w.node))

-- this is so at the place
abbrev pub IsLandmark : Plan → ℕ → Landmark → Type 0
IsLandmark plan pc Plain = Unit {0}
IsLandmark plan pc (EndsRow end) = IsRowEnd plan pc end
IsLandmark plan pc (BeginsPrefixes count) = ArePrefixes plan pc count
IsLandmark plan pc (BeginsToken token) = IsToken plan pc token
IsLandmark plan pc (BeginsWrapped wrapped) = IsWrapped plan pc wrapped

-- each of these is so at its place
abbrev pub AreLandmarks : Plan → List Landmark → Type 0
AreLandmarks plan ls = (pc : ℕ) (l : Landmark) → slice_get ls pc ≡ Some l → IsLandmark plan pc l
