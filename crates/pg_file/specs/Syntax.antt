-- The tokens of a grammar file, the items that they spell, and the grammar that these make.
use Rattle.std.specs.Prelude.{◌≡◌, ℕ, List, length}
use Rattle.pg_pred.specs.Offer.{Offer}
use Rattle.pg_grammar_value.specs.Fits.{Fits}
use Rattle.pg_grammar_value.specs.Grammar.{Grammar}
use Rattle.pg_table.specs.Tables.{initial, whole, ComesFrom}
use Rattle.pg_file_tokens.specs.declared.token.Lexeme.{Lexeme}
use Rattle.pg_file_tokens.specs.Lexical.{SpelledIfGood, OnlySpelled}
use Rattle.pg_file_tokens.specs.Lexing.{placed_of}
use Rattle.pg_file_tokens.specs.View.{tokens_of, placed_tokens_of}
use Rattle.pg_file_items.specs.Entries.{entries_of}
use Rattle.pg_file_items.specs.declared.item.Item.{Item}
use Rattle.pg_file_items.specs.declared.span.Span.{Span}
use Rattle.pg_file_items.specs.declared.written.WrittenForm.{WrittenForm}
use Rattle.pg_file_parser.specs.Items.{AreItems, OnlyItems}
use Rattle.pg_file_parser.specs.Places.{Covers, AreItemsInPlace}
use Rattle.pg_file_making.specs.Spells.{SpelledWithinDepth}
use Rattle.pg_file_making.specs.Spans.{items_spans}
use Rattle.pg_file_making.specs.declared.making.PlacedGrammar.{PlacedGrammar}
use Rattle.pg_file.specs.declared.syntax.Syntax.{Syntax}

-- these are the tokens of the characters, each at its place, and they spell these items and no others, each of whose forms has the span of its characters
pub record IsSyntaxOf (characters : List ℕ) (lexemes : List Lexeme) (items : List Item) : Type 0 where
  pub places : placed_tokens_of lexemes ≡ placed_of characters
  pub spelled : SpelledIfGood characters (tokens_of lexemes)
  pub only_tokens : OnlySpelled characters (tokens_of lexemes)
  pub written : AreItems (tokens_of lexemes) (entries_of items)
  pub only_items : OnlyItems (tokens_of lexemes) (entries_of items)
  pub in_place : AreItemsInPlace lexemes items

-- these are the spans of the nodes of the grammar that the characters spell: each is that of the form that its node comes from, from its word to its closing
-- parenthesis, or its name
pub record AreSpansOf (characters : List ℕ) (spans : List Span) : Type 0 where
  pub lexemes : List Lexeme
  pub items : List Item
  pub syntax_is : IsSyntaxOf characters lexemes items
  pub are : spans ≡ items_spans items

-- the span is from the first of some tokens of the characters to the end of the last, and just these write a value: a form from its word to its closing
-- parenthesis, or a name
pub record IsSpanOfForm (characters : List ℕ) (span : Span) : Type 0 where
  pub lexemes : List Lexeme
  pub places : placed_tokens_of lexemes ≡ placed_of characters
  pub forms : List WrittenForm
  pub covers : Covers lexemes span forms

-- the syntax is that of the characters, which spell this grammar and no other; the offer fits it, and the spans and the table are its own
pub record IsReadFrom (offer : Offer) (characters : List ℕ) (syntax : Syntax) (placed : PlacedGrammar) : Type 0 where
  pub syntax_is : IsSyntaxOf characters syntax.lexemes.items syntax.items.items
  pub spelled : SpelledWithinDepth offer characters placed.grammar
  pub only : (g : Grammar) → SpelledWithinDepth offer characters g → placed.grammar ≡ g
  pub fits : Fits offer placed.grammar
  pub spans : length placed.spans.items ≡ length placed.grammar.nodes
  pub spans_are : placed.spans.items ≡ items_spans syntax.items.items
  pub initial_is : initial placed.grammar ≡ whole placed.table
  pub comes : ComesFrom placed.grammar placed.table
