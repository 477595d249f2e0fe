-- What is listed for a grammar file, with a registry that offers predicates and builders.
use Rattle.std.specs.Prelude.{◌≡◌, ◌<◌, ℕ, List, [], Bool, true, false, Option, length}
use Rattle.std.specs.Io.KnownBytes.{Appends}
use Rattle.pg_tree.specs.Bytes.{AppendsPrefix}
use Rattle.pg_pred.specs.Offer.{Offer}
use Rattle.pg_grammar_value.specs.Grammar.{Grammar}
use Rattle.pg_file_making.specs.Spells.{SpellsWithinLimits}
use Rattle.pg_predict.specs.Conditions.{IsFaultless}
use Rattle.pg_predict.specs.Findings.{Finding, AreFindings}

-- the grammar has no findings and nothing is listed; or it has findings, and nothing further is claimed about the page
abbrev pub Lists : Grammar → Bool → List ℕ → Type 0
Lists g true page = IsFaultless g × (page ≡ [])
Lists g false page = (findings : List Finding) × AreFindings g findings × (0 < length findings)

-- it was written, and the answer says whether the grammar is accepted
pub record IsListed (g : Grammar) (writer held : Option (List ℕ)) (accepted : Bool) : Type 0 where
  pub page : List ℕ
  pub lists : Lists g accepted page
  pub written : Appends writer held page

-- a prefix of it was written
pub record IsPartlyListed (g : Grammar) (writer held : Option (List ℕ)) : Type 0 where
  pub accepted : Bool
  pub page : List ℕ
  pub lists : Lists g accepted page
  pub written : AppendsPrefix writer held page

-- as `IsListed`, for the grammar that a file spells
pub record IsListedFile (offer : Offer) (file : List ℕ) (writer held : Option (List ℕ)) (accepted : Bool) : Type 0 where
  pub grammar : Grammar
  pub spelled : SpellsWithinLimits offer file grammar
  pub listed : IsListed grammar writer held accepted

-- as `IsPartlyListed`, for the grammar that a file spells
pub record IsPartlyListedFile (offer : Offer) (file : List ℕ) (writer held : Option (List ℕ)) : Type 0 where
  pub grammar : Grammar
  pub spelled : SpellsWithinLimits offer file grammar
  pub listed : IsPartlyListed grammar writer held
