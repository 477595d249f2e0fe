-- The printed form of an error, as bytes.
use Rattle.std.specs.Prelude.{ℕ, Bool, ◌==◌, not, if◌then◌else◌, List, [], ◌∷◌, ◌++◌, length, filter, codes}
use Rattle.std.specs.Fmt.{decimal}
use Rattle.pg_message.specs.Messages.{Text, Messages, is_empty, with_texts}
use Rattle.pg_message.specs.declared.error.ParseError.{ParseError}

abbrev pub has_bytes : Text → Bool
has_bytes text = not (length text == 0)

-- the texts that aren't empty, each once, in the order of their first occurrence
abbrev pub shown_texts : List Text → List Text
shown_texts texts = with_texts [] (filter has_bytes texts)

-- the joint before a text, from the texts after it
abbrev pub joint : List Text → List ℕ
joint [] = codes " or "
joint (next ∷ rest) = codes ", "

-- the texts after the first, with their joints
abbrev pub further_texts : List Text → List ℕ
further_texts [] = []
further_texts (next ∷ rest) = joint rest ++ (next ++ further_texts rest)

-- a line of some words and the texts, or nothing if there are none
abbrev pub line_of : List ℕ → List Text → List ℕ
line_of words [] = []
line_of words (first ∷ rest) = words ++ (first ++ (further_texts rest ++ codes "\n"))

-- the line for what stopped a leaf; the empty text stands for the end of input
abbrev pub system_text : Text → List ℕ
system_text text = if length text == 0 then codes "unexpected end of input\n" else
    codes "unexpected " ++ (text ++ codes "\n")

-- only the first system-unexpected text is shown
abbrev pub system_line : List Text → List ℕ
system_line [] = []
system_line (first ∷ rest) = system_text first

-- unexpected texts take precedence over system-unexpected ones
abbrev pub unexpected_line : Messages → List ℕ
unexpected_line m = if length m.unexpected == 0 then system_line m.system_unexpected else
    line_of (codes "unexpected ") (shown_texts m.unexpected)

-- everything after the colon
abbrev pub messages_text : Messages → List ℕ
messages_text m = if is_empty m then codes "unknown parse error\n" else
    codes "\n" ++ (unexpected_line m ++ (line_of (codes "expecting ") (shown_texts m.expected) ++
    line_of [] (shown_texts m.plain)))

-- the file's name unescaped, the line and the column, and the messages
abbrev pub printed : ParseError → Text → List ℕ
printed error name = codes "\"" ++ name ++ codes "\" (line " ++ decimal error.position.line ++
    codes ", column " ++ decimal error.position.column ++ codes "):" ++ messages_text error.messages
