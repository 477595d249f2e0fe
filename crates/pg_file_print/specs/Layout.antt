-- Printing tokens with the spaces between them.
use Rattle.std.specs.Prelude.{ℕ, ◌||◌, if◌then◌else◌, Bool, List, [], ◌∷◌, ◌++◌, codes}
use Rattle.std.specs.Str.{bytes_eq}
use Rattle.pg_file_tokens.specs.declared.token.Mark.{Mark}
use Rattle.pg_file_tokens.specs.declared.token.Mark.TheVariants.{Open, Close, Comma, Semicolon, Equals, Bar, Dots}
use Rattle.pg_file_print.specs.declared.layout.Edge.{Edge}
use Rattle.pg_file_print.specs.declared.layout.Edge.TheVariants.{Tight, Word, Loose}
use Rattle.pg_file_tokens.specs.Tokens.{Token, name, number, literal, mark, wrong, bad}
use Rattle.pg_file_tokens.specs.Lexical.{mark_text}
use Rattle.pg_file_print.specs.Printed.{quoted}

-- ---- tokens

-- the characters of a mark; a semicolon also ends the line
abbrev pub printed_mark : Mark → List ℕ
printed_mark Open = mark_text Open
printed_mark Close = mark_text Close
printed_mark Comma = mark_text Comma
printed_mark Semicolon = mark_text Semicolon ++ 10 ∷ []
printed_mark Equals = mark_text Equals
printed_mark Bar = mark_text Bar
printed_mark Dots = mark_text Dots

abbrev pub token_text : Token → List ℕ
token_text (name s) = s
token_text (number s) = s
token_text (literal s) = quoted s
token_text (mark m) = printed_mark m
token_text wrong = []
token_text bad = []

-- ---- spaces

abbrev pub mark_edge : Mark → Edge
mark_edge Open = Tight
mark_edge Close = Loose
mark_edge Comma = Loose
mark_edge Semicolon = Tight
mark_edge Equals = Loose
mark_edge Bar = Loose
mark_edge Dots = Tight

-- whether a class expression may follow this word, which may begin with a parenthesis
abbrev pub comes_before_class : List ℕ → Bool
comes_before_class s =
    bytes_eq (codes "not") s || (bytes_eq (codes "head") s || (bytes_eq (codes "rest") s || (bytes_eq (codes "operators") s || bytes_eq (codes "gap") s)))

-- how the text ends after a token
abbrev pub edge_after : Token → Edge
edge_after (name s) = if comes_before_class s then Loose else Word
edge_after (number s) = Loose
edge_after (literal s) = Loose
edge_after (mark m) = mark_edge m
edge_after wrong = Loose
edge_after bad = Loose

-- a space, unless the text ends tightly
abbrev pub space : Edge → List ℕ
space Tight = []
space Word = 32 ∷ []
space Loose = 32 ∷ []

-- the space before a parenthesis that opens
abbrev pub opening_space : Edge → List ℕ
opening_space Tight = []
opening_space Word = []
opening_space Loose = 32 ∷ []

abbrev pub mark_space : Edge → Mark → List ℕ
mark_space edge Open = opening_space edge
mark_space edge Close = []
mark_space edge Comma = []
mark_space edge Semicolon = []
mark_space edge Equals = space edge
mark_space edge Bar = space edge
mark_space edge Dots = []

-- the space before a token
abbrev pub space_before : Edge → Token → List ℕ
space_before edge (name s) = space edge
space_before edge (number s) = space edge
space_before edge (literal s) = space edge
space_before edge (mark m) = mark_space edge m
space_before edge wrong = []
space_before edge bad = []

-- the tokens printed after a text that ends so
abbrev pub laid_out : Edge → List Token → List ℕ
laid_out edge [] = []
laid_out edge (t ∷ ts) = space_before edge t ++ (token_text t ++ laid_out (edge_after t) ts)

-- ---- one token after another

-- the characters printed so far, and how they end
pub record Laid : Type 0 where
  pub text : List ℕ
  pub edge : Edge

-- nothing printed yet
abbrev pub nothing_laid : Laid
nothing_laid = record { text = []; edge = Tight }

-- with one token more
abbrev pub with_token : Laid → Token → Laid
with_token laid t = record { text = laid.text ++ (space_before laid.edge t ++ token_text t); edge = edge_after t }

-- with these tokens more
abbrev pub with_tokens : Laid → List Token → Laid
with_tokens laid [] = laid
with_tokens laid (t ∷ ts) = with_tokens (with_token laid t) ts
