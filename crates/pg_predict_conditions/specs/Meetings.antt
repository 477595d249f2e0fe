-- The first two starts of two sets that meet, by their numbers.
use Rattle.std.specs.Prelude.{ℕ, zero, suc, Bool, ◌&&◌, nat_le, if◌then◌else◌, List, length, Option, Some, None, is_some}
use Rattle.std.specs.Option.{option_map, option_and_then}
use Rattle.pg_graph_bits.specs.Numbers.{contains, in_both, set_at}
use Rattle.pg_predict_conditions.specs.declared.meetings.Meeting.{Meeting}

-- the least number below a limit that passes a test
abbrev pub least : (ℕ → Bool) → ℕ → Option ℕ
least passes zero = None
least passes (suc n) = if is_some (least passes n) then least passes n else (if passes n then Some n else None)

-- the first start of a set that is in another
abbrev pub first_met : List Bool → List Bool → Option ℕ
first_met met set = least (in_both met set) (length set)

-- the first start in a set that meets a start; for each start, the list has the set of those that meet it
abbrev pub least_met : List (List Bool) → List Bool → ℕ → Option ℕ
least_met meetings other s = first_met (set_at meetings s) other

-- whether a start in one set meets a start in another
abbrev pub is_met : List (List Bool) → List Bool → List Bool → ℕ → Bool
is_met meetings one other s = contains one s && is_some (least_met meetings other s)

-- a start and the first that it meets in the other set
abbrev pub with_least_met : List (List Bool) → List Bool → ℕ → Option Meeting
with_least_met meetings other s = option_map (λ t. record { one = s; other = t }) (least_met meetings other s)

-- the first two that meet
abbrev pub first_meeting : List (List Bool) → List Bool → List Bool → Option Meeting
first_meeting meetings one other = option_and_then (with_least_met meetings other) (least (is_met meetings one other) (length one))

-- of two meetings, the one whose first start comes first
abbrev pub earlier : Option Meeting → Option Meeting → Option Meeting
earlier None other = other
earlier (Some meeting) None = Some meeting
earlier (Some meeting) (Some other) = if nat_le meeting.one other.one then Some meeting else Some other
