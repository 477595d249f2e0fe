-- The characters of a grammar file, and the tokens that they spell.
use Rattle.std.specs.Prelude.{◌≡◌, ℕ, Bool, true, false, not, ◌&&◌, ◌||◌, ◌==◌, nat_lt, nat_le, if◌then◌else◌, List, [], ◌∷◌, ◌++◌, length, Option, Some, None}
use Rattle.std.specs.Int.{is_in_range}
use Rattle.std.specs.Char.{is_ascii_alphabetic, is_ascii_alphanumeric, is_ascii_digit, is_digit}
use Rattle.std.specs.Str.Parse.{digits_value}
use Rattle.pg_file_tokens.specs.declared.token.Mark.{Mark}
use Rattle.pg_file_tokens.specs.declared.token.Mark.TheVariants.{Open, Close, Comma, Semicolon, Equals, Bar, Dots}
use Rattle.pg_file_tokens.specs.Tokens.{Token, name, number, literal, mark, AreGood}

-- a space, a tab, a carriage return or a line feed
abbrev pub is_blank : ℕ → Bool
is_blank c = c == 32 || c == 9 || c == 13 || c == 10

abbrev pub isnt_line_feed : ℕ → Bool
isnt_line_feed c = not (c == 10)

-- a letter, a digit or `_`
abbrev pub goes_in_name : ℕ → Bool
goes_in_name c = is_ascii_alphanumeric c || c == 95

-- each character passes
abbrev pub passes : (ℕ → Bool) → List ℕ → Bool
passes p [] = true
passes p (c ∷ cs) = p c && passes p cs

-- there is a first character, and it passes
abbrev pub starts : (ℕ → Bool) → List ℕ → Bool
starts p [] = false
starts p (c ∷ cs) = p c

-- the first character, if there is one, doesn't pass
abbrev pub stops : (ℕ → Bool) → List ℕ → Bool
stops p [] = true
stops p (c ∷ cs) = not (p c)

abbrev pub is_name : List ℕ → Bool
is_name s = starts is_ascii_alphabetic s && passes goes_in_name s

abbrev pub is_number : List ℕ → Bool
is_number s = starts is_ascii_digit s && passes is_ascii_digit s

-- `(` `)` `,` `;` `=` `|` `..`
abbrev pub mark_text : Mark → List ℕ
mark_text Open = 40 ∷ []
mark_text Close = 41 ∷ []
mark_text Comma = 44 ∷ []
mark_text Semicolon = 59 ∷ []
mark_text Equals = 61 ∷ []
mark_text Bar = 124 ∷ []
mark_text Dots = 46 ∷ 46 ∷ []

-- what the character after a backslash stands for: `"`, `\`, `n`, `t`, `r`
abbrev pub short_escape : ℕ → Option ℕ
short_escape c =
    if c == 34 then Some 34
    else if c == 92 then Some 92
    else if c == 110 then Some 10
    else if c == 116 then Some 9
    else if c == 114 then Some 13
    else None

-- a hexadecimal digit, in either case
abbrev pub is_hex : ℕ → Bool
is_hex c = is_digit c 16

-- the code of a Unicode scalar value
abbrev pub is_scalar : ℕ → Bool
is_scalar c = nat_lt c 0xD800 || is_in_range 0xE000 0x10FFFF c

-- one to six hexadecimal digits of the code of a scalar value
abbrev pub is_code : List ℕ → Bool
is_code ds = nat_le 1 (length ds) && (nat_le (length ds) 6 && (passes is_hex ds && is_scalar (digits_value 16 ds)))

-- a character that stands for itself in a literal: not `"`, `\` or a line feed
abbrev pub is_plain : ℕ → Bool
is_plain c = not (c == 34 || c == 92 || c == 10)

-- after a backslash: the character that the escape names, and the rest
pub data Escape : List ℕ → ℕ → List ℕ → Type 0 where
  short : {e c : ℕ} {rest : List ℕ} → short_escape e ≡ Some c → Escape (e ∷ rest) c rest
  unicode : (ds rest : List ℕ) → is_code ds ≡ true → Escape (117 ∷ 123 ∷ (ds ++ 125 ∷ rest)) (digits_value 16 ds) rest

-- after the opening quote: the text up to the closing quote, and the rest
pub data Literal : List ℕ → List ℕ → List ℕ → Type 0 where
  closed : {rest : List ℕ} → Literal (34 ∷ rest) [] rest
  plain : {c : ℕ} {cs s rest : List ℕ} → is_plain c ≡ true → Literal cs s rest → Literal (c ∷ cs) (c ∷ s) rest
  escaped : {c : ℕ} {cs after s rest : List ℕ} → Escape cs c after → Literal after s rest → Literal (92 ∷ cs) (c ∷ s) rest

-- the characters spell the tokens; white space and comments (`#` to the end of the line) separate them, and a name or a number is as long as possible
pub data Spelled : List ℕ → List Token → Type 0 where
  ends : Spelled [] []
  blank : {c : ℕ} {cs : List ℕ} {ts : List Token} → is_blank c ≡ true → Spelled cs ts → Spelled (c ∷ cs) ts
  comment : (xs cs : List ℕ) {ts : List Token} → passes isnt_line_feed xs ≡ true → stops isnt_line_feed cs ≡ true → Spelled cs ts → Spelled (35 ∷ (xs ++ cs)) ts
  a_mark : (m : Mark) (cs : List ℕ) {ts : List Token} → Spelled cs ts → Spelled (mark_text m ++ cs) (mark m ∷ ts)
  a_name : (s cs : List ℕ) {ts : List Token} → is_name s ≡ true → stops goes_in_name cs ≡ true → Spelled cs ts → Spelled (s ++ cs) (name s ∷ ts)
  a_number : (s cs : List ℕ) {ts : List Token} → is_number s ≡ true → stops is_ascii_digit cs ≡ true → Spelled cs ts → Spelled (s ++ cs) (number s ∷ ts)
  a_literal : {cs s rest : List ℕ} {ts : List Token} → Literal cs s rest → Spelled rest ts → Spelled (34 ∷ cs) (literal s ∷ ts)

-- the characters spell the tokens, if none of these is wrong or bad
abbrev pub SpelledIfGood : List ℕ → List Token → Type 0
SpelledIfGood cs ts = AreGood ts → Spelled cs ts

-- the characters spell no other tokens
abbrev pub OnlySpelled : List ℕ → List Token → Type 0
OnlySpelled cs ts = (us : List Token) → Spelled cs us → ts ≡ us
