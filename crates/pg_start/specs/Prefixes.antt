-- The beginnings of texts.
use Rattle.std.specs.Prelude.{◌≡◌, ℕ, Bool, false, List, [], ◌∷◌, length, take}
use Rattle.std.specs.List.{take_while}
use Rattle.pg_class.specs.Ranges.{Range, has}

-- whether a text begins with a character of a class
abbrev pub begins_in : List Range → List ℕ → Bool
begins_in class [] = false
begins_in class (c ∷ cs) = has class c

-- a text begins with another, perhaps the whole of it
abbrev pub IsPrefix : List ℕ → List ℕ → Type 0
IsPrefix prefix text = take (length prefix) text ≡ prefix

-- the run of a class: the longest list of its characters at the beginning of a text
abbrev pub run : List Range → List ℕ → List ℕ
run class text = take_while (has class) text

-- the first character of a text and the run after it
abbrev pub word_prefix : List Range → List ℕ → List ℕ
word_prefix rest [] = []
word_prefix rest (c ∷ cs) = c ∷ run rest cs
