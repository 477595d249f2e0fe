-- Reading characters from left to right, as functions. The lexer's code is specified by them, and proofs lead from them to Lexical, which says what a
-- file's characters mean.
use Rattle.std.specs.Prelude.{ℕ, zero, suc, ◌-◌, ◌==◌, nat_lt, if◌then◌else◌, List, [], ◌∷◌, take, drop, length, Option, Some, None}
use Rattle.std.specs.List.{prefix_len}
use Rattle.std.specs.Char.{is_ascii_alphabetic, is_ascii_digit}
use Rattle.std.specs.Str.Parse.{digits_value}
use Rattle.pg_file_tokens.specs.declared.token.Mark.{Mark}
use Rattle.pg_file_tokens.specs.declared.token.Mark.TheVariants.{Open, Close, Comma, Semicolon, Equals, Bar, Dots}
use Rattle.pg_file_tokens.specs.Tokens.{Token, name, number, literal, mark, wrong, bad}
use Rattle.pg_file_tokens.specs.Lexical.{is_blank, isnt_line_feed, goes_in_name, passes, short_escape, is_hex, is_code}

-- the number that hexadecimal digits write
abbrev pub hex_value : List ℕ → Option ℕ
hex_value ds = if passes is_hex ds then Some (digits_value 16 ds) else None

-- the character whose code the digits write
abbrev pub code_point : List ℕ → Option ℕ
code_point ds = if is_code ds then Some (digits_value 16 ds) else None

-- a character, and the characters after it
abbrev pub with_rest : List ℕ → Option ℕ → Option (ℕ × List ℕ)
with_rest rest (Some c) = Some (c, rest)
with_rest rest None = None

-- after the digits: the closing brace
abbrev pub brace_at : Option ℕ → List ℕ → Option (ℕ × List ℕ)
brace_at code [] = None
brace_at code (c ∷ cs) = if c == 125 then with_rest cs code else None

-- after `\u`
abbrev pub unicode_at : List ℕ → Option (ℕ × List ℕ)
unicode_at [] = None
unicode_at (c ∷ cs) =
    if c == 123 then brace_at (code_point (take (prefix_len is_hex cs) cs)) (drop (prefix_len is_hex cs) cs)
    else None

-- after a backslash
abbrev pub escape_at : List ℕ → Option (ℕ × List ℕ)
escape_at [] = None
escape_at (c ∷ cs) = if c == 117 then unicode_at cs else with_rest cs (short_escape c)

-- what follows a quote
pub data Quoted : Type 0 where
  -- a literal: its text, and the rest
  text : List ℕ → List ℕ → Quoted
  -- a literal with a wrong escape, and the rest
  spoilt : List ℕ → Quoted
  -- the line ends before the literal does
  unclosed : Quoted

abbrev pub with_char : ℕ → Quoted → Quoted
with_char c (text s rest) = text (c ∷ s) rest
with_char c (spoilt rest) = spoilt rest
with_char c unclosed = unclosed

abbrev pub without_text : Quoted → Quoted
without_text (text s rest) = spoilt rest
without_text (spoilt rest) = spoilt rest
without_text unclosed = unclosed

-- after a backslash that stands before cs: if the escape is wrong, its characters are read as plain ones
abbrev pub after_escape : (List ℕ → Quoted) → List ℕ → Option (ℕ × List ℕ) → Quoted
after_escape others cs (Some x) = with_char x.0 (others x.1)
after_escape others cs None = without_text (others cs)

-- one character or one escape of a literal
abbrev pub literal_turn : (List ℕ → Quoted) → ℕ → List ℕ → Quoted
literal_turn others c cs =
    if c == 34 then text [] cs
    else if c == 10 then unclosed
    else if c == 92 then after_escape others cs (escape_at cs)
    else with_char c (others cs)

-- after a quote; n bounds the steps
unfoldable pub literal_within : ℕ → List ℕ → Quoted
literal_within n [] = unclosed
literal_within zero (c ∷ cs) = unclosed
literal_within (suc n) (c ∷ cs) = literal_turn (literal_within n) c cs

-- after a quote
unfoldable pub literal_at : List ℕ → Quoted
literal_at cs = literal_within (length cs) cs

-- what is at the front
pub data Prefix : Type 0 where
  nothing : Prefix
  -- white space or a comment, and the rest
  blank : List ℕ → Prefix
  token : Token → List ℕ → Prefix
  broken : Prefix

abbrev pub literal_prefix : Quoted → Prefix
literal_prefix (text s rest) = token (literal s) rest
literal_prefix (spoilt rest) = token wrong rest
literal_prefix unclosed = broken

abbrev pub after_line : List ℕ → List ℕ
after_line cs = drop (prefix_len isnt_line_feed cs) cs

abbrev pub name_at : List ℕ → Prefix
name_at cs = token (name (take (prefix_len goes_in_name cs) cs)) (drop (prefix_len goes_in_name cs) cs)

abbrev pub number_at : List ℕ → Prefix
number_at cs = token (number (take (prefix_len is_ascii_digit cs) cs)) (drop (prefix_len is_ascii_digit cs) cs)

-- after a dot: a second one
abbrev pub dots_at : List ℕ → Option (Mark × List ℕ)
dots_at [] = None
dots_at (c ∷ cs) = if c == 46 then Some (Dots, cs) else None

-- a mark, and the rest
unfoldable pub mark_at : List ℕ → Option (Mark × List ℕ)
mark_at [] = None
mark_at (c ∷ cs) =
    if c == 40 then Some (Open, cs)
    else if c == 41 then Some (Close, cs)
    else if c == 44 then Some (Comma, cs)
    else if c == 59 then Some (Semicolon, cs)
    else if c == 61 then Some (Equals, cs)
    else if c == 124 then Some (Bar, cs)
    else if c == 46 then dots_at cs
    else None

abbrev pub mark_prefix : Option (Mark × List ℕ) → Prefix
mark_prefix (Some x) = token (mark x.0) x.1
mark_prefix None = broken

abbrev pub prefix_at : List ℕ → Prefix
prefix_at [] = nothing
prefix_at (c ∷ cs) =
    if c == 35 then blank (after_line cs)
    else if c == 34 then literal_prefix (literal_at cs)
    else if is_blank c then blank cs
    else if is_ascii_alphabetic c then name_at (c ∷ cs)
    else if is_ascii_digit c then number_at (c ∷ cs)
    else mark_prefix (mark_at (c ∷ cs))

abbrev pub after : (List ℕ → List Token) → Prefix → List Token
after others nothing = []
after others (blank rest) = others rest
after others (token t rest) = t ∷ others rest
after others broken = bad ∷ []

-- the tokens; n bounds the number of tokens, blanks and comments
unfoldable pub lex_within : ℕ → List ℕ → List Token
lex_within zero cs = []
lex_within (suc n) cs = after (lex_within n) (prefix_at cs)

-- the tokens, up to and including the first bad one
unfoldable pub lex_of : List ℕ → List Token
lex_of cs = lex_within (length cs) cs

-- the token at the front, if there is one
abbrev pub token_prefix : Prefix → Option Token
token_prefix nothing = None
token_prefix (blank rest) = None
token_prefix (token t rest) = Some t
token_prefix broken = Some bad

-- ---- the places of tokens

-- a token at a place, if there is one, and the tokens after it
abbrev pub placed_after : (List ℕ → List (ℕ × Token)) → ℕ → Prefix → List (ℕ × Token)
placed_after others place nothing = []
placed_after others place (blank rest) = others rest
placed_after others place (token t rest) = (place, t) ∷ others rest
placed_after others place broken = (place, bad) ∷ []

-- the tokens of the rest of a file that has `all` characters; n bounds the number of tokens, blanks and comments
unfoldable pub placed_within : ℕ → ℕ → List ℕ → List (ℕ × Token)
placed_within zero all cs = []
placed_within (suc n) all cs = placed_after (placed_within n all) (all - length cs) (prefix_at cs)

-- the tokens, up to and including the first bad one, each with its place: how many characters stand before it
unfoldable pub placed_of : List ℕ → List (ℕ × Token)
placed_of cs = placed_within (length cs) (length cs) cs

-- the tokens up to and including the first that starts after a place
abbrev pub up_to : ℕ → List (ℕ × Token) → List (ℕ × Token)
up_to last [] = []
up_to last (l ∷ ls) = l ∷ (if nat_lt last l.0 then [] else up_to last ls)
