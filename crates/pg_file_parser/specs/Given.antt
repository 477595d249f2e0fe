-- The results of the parser's functions, without places.
use Rattle.std.specs.Prelude.{◌≡◌, ◌+◌, ◌-◌, ◌^◌, ℕ, min, List, [], ◌∷◌, map, Option, Some, None, Result, Ok, Err}
use Rattle.std.specs.Global.{Vec}
use Rattle.std.specs.Borrow.{Bor}
use Rattle.pg_file_items.specs.declared.written.WrittenPart.{WrittenPart}
use Rattle.pg_file_items.specs.declared.written.WrittenForm.{WrittenForm}
use Rattle.pg_file_tokens.specs.declared.token.Lexeme.{Lexeme}
use Rattle.pg_file_items.specs.declared.item.PlacedForm.{PlacedForm}
use Rattle.pg_file_items.specs.declared.span.Span.{Span}
use Rattle.pg_file_parser.specs.declared.head.Form.{Form}
use Rattle.pg_file_parser.specs.declared.error.SyntaxError.{SyntaxError}
use Rattle.pg_file_parser.specs.declared.error.SyntaxError.TheVariants.{Memory, Fault}
use Rattle.pg_file_tokens.specs.Tokens.{Token}
use Rattle.pg_file_tokens.specs.View.{tokens_of}
use Rattle.pg_file_items.specs.Entries.{forms_of}

-- the tokens after a mark or a word, if it is there
abbrev pub after_of : Option (Bor (List Lexeme)) → Option (List Token)
after_of (Some rest) = Some (tokens_of rest.now)
after_of None = None

abbrev pub bodies_of : List (Vec PlacedForm) → List (List WrittenForm)
bodies_of bodies = map (λ (b : Vec PlacedForm). forms_of b.items) bodies

abbrev pub classes_of : List (Vec WrittenPart) → List (List WrittenPart)
classes_of classes = map (λ (c : Vec WrittenPart). c.items) classes

-- a form and its parts
abbrev pub body_of : Form → List WrittenForm
body_of f = f.form ∷ forms_of f.parts.items

-- ---- places

-- the characters of each form
abbrev pub spans_of : List PlacedForm → List Span
spans_of forms = map (λ (f : PlacedForm). f.span) forms

-- the place of the token at the front
abbrev pub place_at : List Lexeme → Option ℕ
place_at [] = None
place_at (token ∷ others) = Some token.place

-- the place after some characters that begin at a place; none is beyond the greatest number
abbrev pub after_characters : ℕ → ℕ → ℕ
after_characters first count = min (first + count) (2 ^ 64 - 1)

-- the place after the mark at the front, which is one character
abbrev pub after_mark_at : List Lexeme → ℕ
after_mark_at [] = 0
after_mark_at (mark ∷ others) = after_characters mark.place 1

-- ---- errors

-- an error is a fault of the file, not out of memory
abbrev pub IsFault : SyntaxError → Type 0
IsFault Memory = ⊥
IsFault (Fault kind place) = Unit {0}

-- with this error nothing could be read, unless memory ran out
abbrev pub Fails : {Y : Type 0} → SyntaxError → Option Y → Type 0
Fails Memory read = Unit {0}
Fails (Fault kind place) read = read ≡ None

-- the result of a function, seen by `view`, agrees with the reading, unless memory ran out
abbrev pub Gives : {X Y : Type 0} → (X → Y) → Result X SyntaxError → Option Y → Type 0
Gives view (Ok x) read = read ≡ Some (view x)
Gives view (Err e) read = Fails e read
