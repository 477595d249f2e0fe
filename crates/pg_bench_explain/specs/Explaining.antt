-- What the explanation of a grammar file writes, with a registry that offers predicates and builders.
use Rattle.std.specs.Prelude.{◌≡◌, ◌++◌, ◌<◌, ℕ, List, [], Option, codes, length}
use Rattle.std.specs.Io.KnownBytes.{Appends}
use Rattle.pg_tree.specs.Bytes.{AppendsPrefix}
use Rattle.pg_pred.specs.Offer.{Offer}
use Rattle.pg_grammar_value.specs.Grammar.{Grammar}
use Rattle.pg_file_making.specs.Spells.{SpellsWithinLimits}
use Rattle.pg_predict.specs.Conditions.{IsFaultless}
use Rattle.pg_predict.specs.Findings.{Finding, AreFindings}
use Rattle.pg_bench_explain.specs.declared.explain.Explained.{Explained}
use Rattle.pg_bench_explain.specs.declared.explain.Explained.TheVariants.{Accepted, Refused, NotThere}

-- `accepted` on a line, and then any notes
abbrev pub IsAcceptedPage : List ℕ → Type 0
IsAcceptedPage page = (notes : List ℕ) × (page ≡ codes "accepted\n" ++ notes)

-- the grammar has no findings, and the page says so; or it has findings, and nothing further is claimed about the page; or there is no such rule or node
abbrev pub Tells : Grammar → Explained → List ℕ → Type 0
Tells g Accepted page = IsFaultless g × IsAcceptedPage page
Tells g Refused page = (findings : List Finding) × AreFindings g findings × (0 < length findings)
Tells g NotThere page = page ≡ []

-- it was written
pub record IsExplained (g : Grammar) (writer held : Option (List ℕ)) (told : Explained) : Type 0 where
  pub page : List ℕ
  pub tells : Tells g told page
  pub written : Appends writer held page

-- a prefix of it was written
pub record IsPartlyExplained (g : Grammar) (writer held : Option (List ℕ)) : Type 0 where
  pub told : Explained
  pub page : List ℕ
  pub tells : Tells g told page
  pub written : AppendsPrefix writer held page

-- as `IsExplained`, for the grammar that a file spells
pub record IsExplainedFile (offer : Offer) (file : List ℕ) (writer held : Option (List ℕ)) (told : Explained) : Type 0 where
  pub grammar : Grammar
  pub spelled : SpellsWithinLimits offer file grammar
  pub explained : IsExplained grammar writer held told

-- as `IsPartlyExplained`, for the grammar that a file spells
pub record IsPartlyExplainedFile (offer : Offer) (file : List ℕ) (writer held : Option (List ℕ)) : Type 0 where
  pub grammar : Grammar
  pub spelled : SpellsWithinLimits offer file grammar
  pub explained : IsPartlyExplained grammar writer held
