-- The tokens of a grammar file, as contracts see them.
use Rattle.std.specs.Prelude.{ℕ, Bool, true, false, ◌==◌, List, [], ◌∷◌}
use Rattle.std.specs.Str.{bytes_eq}
use Rattle.pg_file_tokens.specs.declared.token.Mark.{Mark}
use Rattle.pg_file_tokens.specs.declared.token.Mark.TheVariants.{Open, Close, Comma, Semicolon, Equals, Bar, Dots}

-- a name, a number, a literal with its text, or a mark
pub data Token : Type 0 where
  name : List ℕ → Token
  number : List ℕ → Token
  -- the text that it stands for, with its escapes resolved
  literal : List ℕ → Token
  mark : Mark → Token
  -- a closed literal with an invalid escape
  wrong : Token
  -- no token; nothing after it is read
  bad : Token

-- neither wrong nor bad
abbrev pub IsGood : Token → Type 0
IsGood (name s) = Unit {0}
IsGood (number s) = Unit {0}
IsGood (literal s) = Unit {0}
IsGood (mark m) = Unit {0}
IsGood wrong = ⊥
IsGood bad = ⊥

abbrev pub AreGood : List Token → Type 0
AreGood [] = Unit {0}
AreGood (t ∷ ts) = IsGood t × AreGood ts

-- the marks as numbers
abbrev pub mark_number : Mark → ℕ
mark_number Open = 0
mark_number Close = 1
mark_number Comma = 2
mark_number Semicolon = 3
mark_number Equals = 4
mark_number Bar = 5
mark_number Dots = 6

-- whether a token is this mark
abbrev pub is_mark : Mark → Token → Bool
is_mark m (name s) = false
is_mark m (number s) = false
is_mark m (literal s) = false
is_mark m (mark n) = mark_number n == mark_number m
is_mark m wrong = false
is_mark m bad = false

-- whether a token is this word
abbrev pub is_word : List ℕ → Token → Bool
is_word word (name s) = bytes_eq word s
is_word word (number s) = false
is_word word (literal s) = false
is_word word (mark m) = false
is_word word wrong = false
is_word word bad = false

-- whether a token is bad
abbrev pub is_bad : Token → Bool
is_bad (name s) = false
is_bad (number s) = false
is_bad (literal s) = false
is_bad (mark m) = false
is_bad wrong = false
is_bad bad = true
