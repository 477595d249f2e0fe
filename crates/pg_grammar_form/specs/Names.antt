-- Names in a list of names.
use Rattle.std.specs.Prelude.{◌≡◌, ℕ, zero, suc, Bool, false, List, [], ◌∷◌, Option, unwrap_or, position}
use Rattle.std.specs.List.{list_any, AllByRecursion}
use Rattle.std.specs.Str.{bytes_eq}

-- a name, as the list of its characters
abbrev pub Name : Type 0
Name = List ℕ

-- whether a name is among these
abbrev pub has_name : List Name → Name → Bool
has_name names name = list_any (λ other. bytes_eq other name) names

-- the index of the first occurrence of a name
abbrev pub place_of_name : List Name → Name → Option ℕ
place_of_name names name = position (λ other. bytes_eq other name) names

-- the number of a name that is among these
abbrev pub number_of : List Name → Name → ℕ
number_of names name = unwrap_or (place_of_name names name) 0

-- the name with a number
abbrev pub name_at : List Name → ℕ → Name
name_at [] r = []
name_at (name ∷ names) zero = name
name_at (name ∷ names) (suc r) = name_at names r

-- no name occurs twice
abbrev pub AreDistinct : List Name → Type 0
AreDistinct [] = Unit {0}
AreDistinct (name ∷ names) = AllByRecursion (λ other. bytes_eq name other ≡ false) names × AreDistinct names
