-- The lengths of literals and names, in characters.
use Rattle.std.specs.Prelude.{ℕ, Bool, ◌==◌, nat_lt, List, length}

-- whether a literal is empty
abbrev pub is_empty_literal : List ℕ → Bool
is_empty_literal literal = length literal == 0

-- whether a literal has more than 1,024 characters
abbrev pub is_long_literal : List ℕ → Bool
is_long_literal literal = nat_lt 1024 (length literal)
