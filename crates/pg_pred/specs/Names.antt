-- Names, and what is stored under them.
use Rattle.std.specs.Prelude.{ℕ, Bool, false, ◌||◌, if◌then◌else◌, List, [], ◌∷◌, Option, Some, None}
use Rattle.std.specs.List.{list_any}
use Rattle.std.specs.Str.{bytes_eq}

-- a name, as its bytes in UTF-8
abbrev pub Name : Type 0
Name = List ℕ

-- whether a name is among these
abbrev pub has_name : List Name → Name → Bool
has_name names name = list_any (λ other. bytes_eq other name) names

-- whether a name occurs twice
abbrev pub has_twice : List Name → Bool
has_twice [] = false
has_twice (name ∷ names) = has_name names name || has_twice names

-- the first thing stored under a name
abbrev pub under_name : {A : Type 0} → List (Name × A) → Name → Option A
under_name [] name = None
under_name (entry ∷ entries) name = if bytes_eq entry.0 name then Some entry.1 else under_name entries name
