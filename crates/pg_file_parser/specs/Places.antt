-- The characters of a form: from its word to its closing parenthesis, or its name.
use Rattle.std.specs.Prelude.{◌≡◌, ◌++◌, ℕ, List, [], ◌∷◌, length, map, Option, Some, None}
use Rattle.std.specs.List.{AllByRecursion}
use Rattle.std.specs.Global.{Vec}
use Rattle.pg_file_tokens.specs.declared.token.Lexeme.{Lexeme}
use Rattle.pg_file_tokens.specs.Tokens.{Token, name, number, literal, mark, wrong, bad}
use Rattle.pg_file_tokens.specs.View.{token_of, tokens_of}
use Rattle.pg_file_items.specs.declared.written.WrittenForm.{WrittenForm}
use Rattle.pg_file_items.specs.declared.item.PlacedForm.{PlacedForm}
use Rattle.pg_file_items.specs.declared.item.Item as declared
use Rattle.pg_file_items.specs.declared.item.Item.TheVariants as item
use Rattle.pg_file_items.specs.declared.span.Span.{Span}
use Rattle.pg_file_items.specs.Tree.{Value}
use Rattle.pg_file_items.specs.Syntax.{written}
use Rattle.pg_file_items.specs.Heads.{heads}
use Rattle.pg_file_items.specs.Entries.{forms_of}
use Rattle.pg_file_parser.specs.Given.{after_characters, place_at, spans_of}

-- how many characters a token has that ends a value: a name, or the parenthesis that closes; no other token does
abbrev pub width : Token → ℕ
width (name s) = length s
width (number s) = 0
width (literal s) = 0
width (mark m) = 1
width wrong = 0
width bad = 0

-- the place after the last of these tokens
abbrev pub end_at : List Lexeme → Option ℕ
end_at [] = None
end_at (last ∷ []) = Some (after_characters last.place (width (token_of last.token)))
end_at (token ∷ other ∷ others) = end_at (other ∷ others)

-- the span is from the first of some tokens to the end of the last, and just these write the value with which the forms in preorder begin
pub record Covers (tokens : List Lexeme) (span : Span) (forms : List WrittenForm) : Type 0 where
  pub front : List Lexeme
  pub own : List Lexeme
  pub back : List Lexeme
  pub is : tokens ≡ front ++ (own ++ back)
  pub value : Value
  pub spells : tokens_of (own ++ back) ≡ written value (tokens_of back)
  pub others : List WrittenForm
  pub begins : forms ≡ heads value ++ others
  pub first : place_at own ≡ Some span.first
  pub after : end_at own ≡ Some span.after

-- each of the spans covers the form at its place in the list
abbrev pub AreCovered : List Lexeme → List Span → List WrittenForm → Type 0
AreCovered tokens [] forms = Unit {0}
AreCovered tokens (span ∷ spans) [] = ⊥
AreCovered tokens (span ∷ spans) (form ∷ forms) = Covers tokens span (form ∷ forms) × AreCovered tokens spans forms

-- each form has the span of its characters
abbrev pub AreInPlace : List Lexeme → List PlacedForm → Type 0
AreInPlace tokens forms = AreCovered tokens (spans_of forms) (forms_of forms)

-- the forms of each body
abbrev pub placed_of : List (Vec PlacedForm) → List (List PlacedForm)
placed_of bodies = map (λ (b : Vec PlacedForm). b.items) bodies

-- each form of these bodies has the span of its characters
abbrev pub AreAllInPlace : List Lexeme → List (Vec PlacedForm) → Type 0
AreAllInPlace tokens bodies = AllByRecursion (AreInPlace tokens) (placed_of bodies)

-- the forms of the item, if it is a rule, have the spans of their characters
abbrev pub IsInPlace : List Lexeme → declared.Item → Type 0
IsInPlace tokens (item.Class s place c) = Unit {0}
IsInPlace tokens (item.Word s place head rest reserved) = Unit {0}
IsInPlace tokens (item.Operators c gap reserved most place) = Unit {0}
IsInPlace tokens (item.Table role precedence symbol place symbol_place) = Unit {0}
IsInPlace tokens (item.Start s place name_place) = Unit {0}
IsInPlace tokens (item.Rule s place body) = AreInPlace tokens body.items

abbrev pub AreItemsInPlace : List Lexeme → List declared.Item → Type 0
AreItemsInPlace tokens items = AllByRecursion (IsInPlace tokens) items
