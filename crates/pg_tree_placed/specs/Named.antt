-- Labels in a list, each by its number.
use Rattle.std.specs.Prelude.{◌≡◌, ◌<◌, ℕ, List, [], ◌++◌, length, get_or}

-- the label with this number
abbrev pub label_at : List (List ℕ) → ℕ → List ℕ
label_at labels n = get_or labels n []

-- this label has this number
pub record IsNumber (labels : List (List ℕ)) (n : ℕ) (label : List ℕ) : Type 0 where
  pub within : n < length labels
  pub is : label_at labels n ≡ label

-- labels, and perhaps more after them
abbrev pub Extends : List (List ℕ) → List (List ℕ) → Type 0
Extends old new = (more : List (List ℕ)) × (new ≡ old ++ more)
