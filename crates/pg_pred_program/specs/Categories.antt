-- The characters of the program's predicates that are defined by Unicode's general categories.
use Rattle.std.specs.Prelude.{◌≡◌, ℕ, Bool, ◌||◌, List}
use Rattle.std.specs.Char.{IsScalar}
use Rattle.pg_class.specs.Ranges.{Range, in_range, has}
use Rattle.unicode.specs.GeneralCategory.{general_category, general_category_eq}
use Rattle.unicode.specs.GeneralCategoryGroup.{in_group}
use Rattle.unicode.specs.declared.properties.GeneralCategory.TheVariants.{SpaceSeparator}
use Rattle.unicode.specs.declared.properties.GeneralCategoryGroup.TheVariants.{Letter, Number}

-- whether a character is a letter (category Lu, Ll, Lt, Lm or Lo)
abbrev pub is_letter : ℕ → Bool
is_letter c = in_group Letter (general_category c)

-- whether it is a number (category Nd, Nl or No)
abbrev pub is_number : ℕ → Bool
is_number c = in_group Number (general_category c)

-- whether it is a letter or a number
abbrev pub is_alphanumeric : ℕ → Bool
is_alphanumeric c = is_letter c || is_number c

-- whether it is a space separator (category Zs)
abbrev pub is_separator : ℕ → Bool
is_separator c = general_category_eq (general_category c) SpaceSeparator

-- whether it is a space: a separator, or a control character from the tab to the carriage return
abbrev pub is_space : ℕ → Bool
is_space c = is_separator c || in_range c (9, 13)

-- the ranges have exactly the characters that pass a test; surrogates aren't characters
abbrev pub HasJust : List Range → (ℕ → Bool) → Type 0
HasJust ranges test = (c : ℕ) → IsScalar c → has ranges c ≡ test c
