-- Tokens whose printed characters spell them again: names and numbers that are some, and literals of characters.
use Rattle.std.specs.Prelude.{◌≡◌, true, List, [], ◌∷◌}
use Rattle.std.specs.List.{AllByRecursion}
use Rattle.pg_pred.specs.Offer.{Offer}
use Rattle.pg_grammar_value.specs.Grammar.{Grammar}
use Rattle.pg_grammar.specs.Made.{nothing_made}
use Rattle.pg_file_tokens.specs.Tokens.{Token, name, number, literal, mark, wrong, bad}
use Rattle.pg_file_tokens.specs.Lexical.{passes, is_name, is_number, is_scalar}
use Rattle.pg_file_items.specs.Syntax.{file_written}
use Rattle.pg_file_print.specs.Canonical.{items_of}
use Rattle.pg_file_items.specs.Proper.{IsProperItem}
use Rattle.pg_file_making.specs.Spells.{AreInOrder, HasInitialTable}
use Rattle.pg_file.proofs.AgainLemmas.PrintedNames.{IsNamedGrammar}

abbrev pub IsPrintable : Token → Type 0
IsPrintable (name s) = is_name s ≡ true
IsPrintable (number s) = is_number s ≡ true
IsPrintable (literal s) = passes is_scalar s ≡ true
IsPrintable (mark m) = Unit {0}
IsPrintable wrong = ⊥
IsPrintable bad = ⊥

abbrev pub ArePrintable : List Token → Type 0
ArePrintable [] = Unit {0}
ArePrintable (t ∷ ts) = IsPrintable t × ArePrintable ts

-- what a grammar has that is printed as a file which spells it: its names stand for what they are printed for, and its
-- items are such as a file may have
pub record MayBePrinted (offer : Offer) (g : Grammar) : Type 0 where
  pub named : IsNamedGrammar offer g
  pub printable : ArePrintable (file_written (items_of g))
  pub proper : AllByRecursion IsProperItem (items_of g)
  pub ordered : AreInOrder offer nothing_made (items_of g)
  pub admitted : HasInitialTable g
