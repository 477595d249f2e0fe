-- What the printing of a grammar file's sets writes, with a registry that offers predicates and builders.
use Rattle.std.specs.Prelude.{ℕ, List, Option}
use Rattle.std.specs.Io.KnownBytes.{Appends}
use Rattle.pg_tree.specs.Bytes.{AppendsPrefix}
use Rattle.pg_pred.specs.Offer.{Offer}
use Rattle.pg_grammar_value.specs.Grammar.{Grammar}
use Rattle.pg_file_making.specs.Spells.{SpellsWithinLimits}
use Rattle.pg_sets_page.specs.SetsPage.{IsSetsPage}

-- the page of the sets of the grammar that the file spells was written
pub record IsShownFile (offer : Offer) (file : List ℕ) (writer held : Option (List ℕ)) : Type 0 where
  pub grammar : Grammar
  pub spelled : SpellsWithinLimits offer file grammar
  pub page : List ℕ
  pub shown : IsSetsPage grammar page
  pub written : Appends writer held page

-- a prefix of that page was written
pub record IsPartlyShownFile (offer : Offer) (file : List ℕ) (writer held : Option (List ℕ)) : Type 0 where
  pub grammar : Grammar
  pub spelled : SpellsWithinLimits offer file grammar
  pub page : List ℕ
  pub shown : IsSetsPage grammar page
  pub written : AppendsPrefix writer held page
