-- What the check of a grammar file prints, with a registry that offers predicates and builders.
use Rattle.std.specs.Prelude.{◌<◌, ◌++◌, ℕ, List, Bool, true, false, Option, codes, length}
use Rattle.std.specs.Io.KnownBytes.{Appends}
use Rattle.pg_tree.specs.Bytes.{AppendsPrefix}
use Rattle.pg_pred.specs.Offer.{Offer}
use Rattle.pg_grammar_value.specs.Grammar.{Grammar}
use Rattle.pg_file_making.specs.Spells.{SpellsWithinLimits}
use Rattle.pg_predict.specs.Conditions.{IsFaultless}
use Rattle.pg_predict.specs.Findings.{Finding, AreFindings, lines_of}
use Rattle.pg_certificate_own.specs.Own.{IsOwnCertificate}

-- what is printed of a grammar, depending on whether its certificate is wanted, and whether the grammar is accepted: the grammar has no findings, or the
-- printed ones are all of them
pub data IsJudged (g : Grammar) : Bool → Bool → List ℕ → Type 0 where
  is_accepted : IsFaultless g → IsJudged g false true (codes "accepted\n")
  is_certified : {certificate : List ℕ} → IsFaultless g → IsOwnCertificate g certificate → IsJudged g true true (certificate ++ codes "\n")
  is_refused : {asked : Bool} {findings : List Finding} → AreFindings g findings → 0 < length findings → IsJudged g asked false (lines_of findings)

-- the result was written
pub record IsTold (g : Grammar) (asked : Bool) (writer held : Option (List ℕ)) (accepted : Bool) : Type 0 where
  pub said : List ℕ
  pub judged : IsJudged g asked accepted said
  pub written : Appends writer held said

-- a prefix of the result was written
pub record IsPartlyTold (g : Grammar) (asked : Bool) (writer held : Option (List ℕ)) : Type 0 where
  pub accepted : Bool
  pub said : List ℕ
  pub judged : IsJudged g asked accepted said
  pub written : AppendsPrefix writer held said

-- the grammar's certificate was written as a line
abbrev pub WritesCertificate : Grammar → Option (List ℕ) → Option (List ℕ) → Type 0
WritesCertificate g writer held = (certificate : List ℕ) × IsOwnCertificate g certificate × Appends writer held (certificate ++ codes "\n")

-- a prefix of that line was written
abbrev pub WritesPartly : Grammar → Option (List ℕ) → Option (List ℕ) → Type 0
WritesPartly g writer held = (certificate : List ℕ) × IsOwnCertificate g certificate × AppendsPrefix writer held (certificate ++ codes "\n")

-- the file spells a grammar, and this is printed of it
pub record IsJudgedFile (offer : Offer) (file : List ℕ) (asked accepted : Bool) (said : List ℕ) : Type 0 where
  pub grammar : Grammar
  pub spelled : SpellsWithinLimits offer file grammar
  pub judged : IsJudged grammar asked accepted said

-- the file spells a grammar, and what is printed of it was written
pub record IsChecked (offer : Offer) (file : List ℕ) (asked : Bool) (writer held : Option (List ℕ)) (accepted : Bool) : Type 0 where
  pub said : List ℕ
  pub judged : IsJudgedFile offer file asked accepted said
  pub written : Appends writer held said

-- the file spells a grammar, and a prefix of what is printed of it was written
pub record IsPartlyChecked (offer : Offer) (file : List ℕ) (asked : Bool) (writer held : Option (List ℕ)) : Type 0 where
  pub accepted : Bool
  pub said : List ℕ
  pub judged : IsJudgedFile offer file asked accepted said
  pub written : AppendsPrefix writer held said
