-- What a stored function owes to its class.
use Rattle.std.specs.Prelude.{◌≡◌, ℕ, Bool, List}
use Rattle.std.specs.Char.{IsScalar}
use Rattle.pg_class.specs.Ranges.{Range, has}

-- a relation of characters and answers that decides membership in a class: the answer for a character is whether the class has it
abbrev pub Tells : List Range → (ℕ → Bool → Type 0) → Type 0
Tells class answers = (c : ℕ) → IsScalar c → (b : Bool) → answers c b → b ≡ has class c
