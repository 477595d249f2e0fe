-- What the printing of a grammar file writes, with a registry that offers predicates and builders.
use Rattle.std.specs.Prelude.{ℕ, List, Option}
use Rattle.std.specs.Io.KnownBytes.{Appends}
use Rattle.pg_tree.specs.Bytes.{AppendsPrefix}
use Rattle.pg_pred.specs.Offer.{Offer}
use Rattle.pg_grammar_value.specs.Grammar.{Grammar}
use Rattle.pg_file_making.specs.Spells.{Spells, SpellsWithinLimits}
use Rattle.pg_file_print.specs.Printed.{printed}

-- the canonical form of the grammar that the file spells was written, and spells that grammar again
pub record IsPrinted (offer : Offer) (file : List ℕ) (writer held : Option (List ℕ)) : Type 0 where
  pub grammar : Grammar
  pub spelled : SpellsWithinLimits offer file grammar
  pub again : Spells offer (printed grammar) grammar
  pub written : Appends writer held (printed grammar)

-- a prefix of the canonical form was written
pub record IsPartlyPrinted (offer : Offer) (file : List ℕ) (writer held : Option (List ℕ)) : Type 0 where
  pub grammar : Grammar
  pub spelled : SpellsWithinLimits offer file grammar
  pub written : AppendsPrefix writer held (printed grammar)
