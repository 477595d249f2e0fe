-- What the check of a grammar file prints, with a prefix on each line.
use Rattle.std.specs.Prelude.{◌++◌, ℕ, List, Bool, true, false, Option}
use Rattle.std.specs.Io.KnownBytes.{Appends}
use Rattle.pg_tree.specs.Bytes.{AppendsPrefix}
use Rattle.pg_pred.specs.Offer.{Offer}
use Rattle.pg_grammar_value.specs.Grammar.{Grammar}
use Rattle.pg_file_making.specs.Spells.{SpellsWithinLimits}
use Rattle.pg_predict.specs.Refusals.{RefusedGrammar, IsRefused}
use Rattle.pg_bench_grammar.specs.Checking.{IsJudged}
use Rattle.pg_predict_lines.specs.Lines.{IsFronted}
use Rattle.pg_predict_lines.specs.declared.fronts.Front.{Front}

-- what is printed of a grammar: for an accepted one, what the check prints, after a prefix; for another, a line for each finding, after the prefix of its
-- node
pub data IsJudgedBehind (g : Grammar) : Bool → Bool → List ℕ → Type 0 where
  accepted_behind : {asked : Bool} {said : List ℕ} (front : List ℕ) → IsJudged g asked true said → IsJudgedBehind g asked true (front ++ said)
  refused_behind : {asked : Bool} {refused : RefusedGrammar} {page : List ℕ} (front : ℕ → Front) → IsRefused g refused → IsFronted refused front page
      → IsJudgedBehind g asked false page

-- it was written, and the answer says whether the grammar is accepted
pub record IsPlaced (g : Grammar) (asked : Bool) (writer held : Option (List ℕ)) (accepted : Bool) : Type 0 where
  pub page : List ℕ
  pub judged : IsJudgedBehind g asked accepted page
  pub written : Appends writer held page

-- a prefix of it was written
pub record IsPartlyPlaced (g : Grammar) (asked : Bool) (writer held : Option (List ℕ)) : Type 0 where
  pub accepted : Bool
  pub page : List ℕ
  pub judged : IsJudgedBehind g asked accepted page
  pub written : AppendsPrefix writer held page

-- as `IsPlaced`, for the grammar that a file spells
pub record IsPlacedFile (offer : Offer) (file : List ℕ) (asked : Bool) (writer held : Option (List ℕ)) (accepted : Bool) : Type 0 where
  pub grammar : Grammar
  pub spelled : SpellsWithinLimits offer file grammar
  pub placed : IsPlaced grammar asked writer held accepted

-- as `IsPartlyPlaced`, for the grammar that a file spells
pub record IsPartlyPlacedFile (offer : Offer) (file : List ℕ) (asked : Bool) (writer held : Option (List ℕ)) : Type 0 where
  pub grammar : Grammar
  pub spelled : SpellsWithinLimits offer file grammar
  pub placed : IsPartlyPlaced grammar asked writer held
