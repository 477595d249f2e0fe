-- The code's tokens as contracts see them.
use Rattle.std.specs.Prelude.{◌≡◌, ℕ, Bool, ◌==◌, ◌&&◌, List, map, drop, Option, Some, None}
use Rattle.std.specs.Borrow.{Bor}
use Rattle.pg_file_tokens.specs.declared.token.Mark.{Mark}
use Rattle.pg_file_tokens.specs.declared.token.Token as declared
use Rattle.pg_file_tokens.specs.declared.token.Token.TheVariants.{Name, Number, Literal, Mark as MarkToken, WrongLiteral, Bad}
use Rattle.pg_file_tokens.specs.declared.token.Lexeme.{Lexeme}
use Rattle.pg_file_tokens.specs.declared.token.Prefix as prefixes
use Rattle.pg_file_tokens.specs.declared.token.Prefix.TheVariants as prefix
use Rattle.pg_file_tokens.specs.Tokens.{Token, name, number, literal, mark, wrong, bad, is_bad}
use Rattle.pg_file_tokens.specs.Lexing.{Prefix, nothing, blank, token, broken, prefix_at, token_prefix}

abbrev pub token_of : declared.Token → Token
token_of (Name s) = name s.items
token_of (Number s) = number s.items
token_of (Literal s) = literal s.items
token_of (MarkToken m) = mark m
token_of WrongLiteral = wrong
token_of Bad = bad

-- the tokens without their places
abbrev pub tokens_of : List Lexeme → List Token
tokens_of lexemes = map (λ (l : Lexeme). token_of l.token) lexemes

-- the tokens with their places
abbrev pub placed_tokens_of : List Lexeme → List (ℕ × Token)
placed_tokens_of lexemes = map (λ (l : Lexeme). (l.place, token_of l.token)) lexemes

-- whether a bad token is at the place
abbrev pub is_bad_at : ℕ → Lexeme → Bool
is_bad_at place l = (l.place == place) && is_bad (token_of l.token)

-- the token is the one that the characters spell at its place
abbrev pub StandsIn : List ℕ → Lexeme → Type 0
StandsIn cs l = token_prefix (prefix_at (drop l.place cs)) ≡ Some (token_of l.token)

abbrev pub prefix_of : prefixes.Prefix → Prefix
prefix_of prefix.End = nothing
prefix_of (prefix.Blank rest) = blank rest.now
prefix_of (prefix.Token t rest) = token (token_of t) rest.now
prefix_of prefix.Bad = broken

abbrev pub mark_read : Option (Mark × Bor (List ℕ)) → Option (Mark × List ℕ)
mark_read (Some x) = Some (x.0, x.1.now)
mark_read None = None

abbrev pub escape_read : Option (ℕ × Bor (List ℕ)) → Option (ℕ × List ℕ)
escape_read (Some x) = Some (x.0, x.1.now)
escape_read None = None
