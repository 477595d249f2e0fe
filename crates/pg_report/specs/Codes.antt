-- The codes of faults.
use Rattle.std.specs.Prelude.{◌≡◌, ◌++◌, ℕ, List, codes}

-- a text is a code, a blank and words
abbrev pub BeginsWithCode : List ℕ → List ℕ → Type 0
BeginsWithCode text code = (words : List ℕ) × (text ≡ code ++ (codes " " ++ words))
