-- What is written of a grammar file as a Haskell module, with a registry that offers predicates and builders. Nothing is claimed about a module's text.
use Rattle.std.specs.Prelude.{ℕ, List, Option}
use Rattle.std.specs.Io.KnownBytes.{Appends}
use Rattle.pg_tree.specs.Bytes.{AppendsPrefix}
use Rattle.pg_pred.specs.Offer.{Offer}
use Rattle.pg_grammar_value.specs.Grammar.{Grammar}
use Rattle.pg_file_making.specs.Spells.{SpellsWithinLimits}

-- some page was written
pub record WritesSome (writer held : Option (List ℕ)) : Type 0 where
  pub page : List ℕ
  pub written : Appends writer held page

-- a prefix of some page was written
pub record WritesPartOfSome (writer held : Option (List ℕ)) : Type 0 where
  pub page : List ℕ
  pub written : AppendsPrefix writer held page

-- some page was written, and the file spells a grammar
pub record IsTranslatedFile (offer : Offer) (file : List ℕ) (writer held : Option (List ℕ)) : Type 0 where
  pub grammar : Grammar
  pub spelled : SpellsWithinLimits offer file grammar
  pub written : WritesSome writer held

-- a prefix of some page was written, and the file spells a grammar
pub record IsPartlyTranslatedFile (offer : Offer) (file : List ℕ) (writer held : Option (List ℕ)) : Type 0 where
  pub grammar : Grammar
  pub spelled : SpellsWithinLimits offer file grammar
  pub written : WritesPartOfSome writer held
