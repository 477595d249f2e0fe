-- The tokens that are left.
use Rattle.std.specs.Prelude.{◌≡◌, ◌++◌, List}
use Rattle.pg_file_tokens.specs.declared.token.Lexeme.{Lexeme}

-- these are the last tokens, each at its place
pub record EndsWith (tokens rest : List Lexeme) : Type 0 where
  pub front : List Lexeme
  pub is : tokens ≡ front ++ rest
