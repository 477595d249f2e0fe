-- What is promised about a text: it has a forest exactly where the grammar derives it, the forest is the only one, the steps are bounded, and on the way no
-- alternative is lost and nothing is read twice.
use Rattle.std.specs.Prelude.{◌≡◌, ◌≤◌, ◌+◌, ◌-◌, ◌*◌, ◌^◌, ℕ, min, List, Bool, length}
use Rattle.pg_message.specs.declared.error.ParseError.{ParseError}
use Rattle.pg_tree.specs.Trees.{Tree}
use Rattle.pg_grammar_value.specs.Grammar.{Grammar}
use Rattle.pg_grammar_value.specs.declared.trail.TrailItem.{TrailItem}
use Rattle.pg_language.specs.Derives.{DerivesText}
use Rattle.pg_table.specs.Tables.{Table, initial, whole}
use Rattle.pg_language.specs.Answers.{given}
use Rattle.pg_language.specs.Errors.{Error, in_text}
use Rattle.pg_language.specs.Outcomes.{Outcome, ok, failed}
use Rattle.pg_language.specs.WholeTexts.{AnswersText}
use Rattle.pg_language.specs.declared.reading.Reading.TheVariants.{Library}
use Rattle.pg_sets.specs.Sets.{Sets, AreSets}
use Rattle.pg_predict.specs.Conditions.{IsFaultless, HasStepCost}
use Rattle.pg_derive.specs.LeastSets.{node_sets}
use Rattle.pg_derive.specs.PredictiveLaws.{LosesNoAlternative, EachRoundConsumes, EachLinkConsumes}
use Rattle.pg_derive_backtracking.specs.Backtracking.{StartReadsNothingTwice}
use Rattle.pg_bench.specs.declared.done.Done.{Done}

-- the grammar has no findings, and its step cost is within the limit
pub record IsAccepted (g : Grammar) : Type 0 where
  pub faultless : IsFaultless g

-- On this text, no choice loses an alternative to consumed input, where what can follow the choice is its least follow set. Each round of a repetition and
-- each link of a chain consumes. Nothing is read twice: after a place that a `try` gave back nothing is consumed.
pub record CommitsRightly (g : Grammar) (text : List ℕ) : Type 0 where
  pub sets : Sets
  pub least : AreSets g sets
  pub choices : LosesNoAlternative (given Library g text) (node_sets g sets)
  pub rounds : EachRoundConsumes (given Library g text)
  pub links : EachLinkConsumes (given Library g text)
  pub once : StartReadsNothingTwice (given Library g text)

-- the most steps that a run takes on a text with this many places, its end among them, by a grammar of this step cost; up to the greatest number of 64 bits
abbrev pub most_steps : ℕ → ℕ → ℕ
most_steps cost places = min (cost * places) (2 ^ 64 - 1)

-- The start rule, with the end of the text after it, has this answer under the table. It enters some number of nodes. A run takes two steps for each but one
-- for the first, and counts them up to the greatest number of 64 bits. They are at most the grammar's step cost for each character of the text and for its
-- end.
pub record IsAnsweredIn (g : Grammar) (text : List ℕ) (table : Table) (o : Outcome) (done : Done) : Type 0 where
  pub nodes : ℕ
  pub answers : AnswersText (given Library g text) table o nodes
  pub steps : done.steps ≡ min (2 * nodes - 1) (2 ^ 64 - 1)
  pub cost : HasStepCost g done.cost
  pub few : done.steps ≤ done.cost * (length text + 1)
  pub most : done.most ≡ most_steps done.cost (length text + 1)

-- under the initial table the grammar derives the text to this forest along this trail, and has no second derivation of it
pub record IsForestOfText (g : Grammar) (text : List ℕ) (forest : List Tree) (trail : List TrailItem) (done : Done) : Type 0 where
  pub table : Table
  pub is_table : initial g ≡ whole table
  pub after : Table
  pub consumed : Bool
  pub error : Error
  pub answered : IsAnsweredIn g text table (ok consumed (record { place = length text; table = after }) forest trail error) done
  pub derives : DerivesText g text table after forest trail
  pub only : (other : Table) (others : List Tree) (items : List TrailItem) → DerivesText g text table other others items →
      (after ≡ other) × (forest ≡ others) × (trail ≡ items)
  pub commits : CommitsRightly g text

-- the same along some trail
pub record HasForestOfText (g : Grammar) (text : List ℕ) (forest : List Tree) (done : Done) : Type 0 where
  pub trail : List TrailItem
  pub is : IsForestOfText g text forest trail done

-- under the initial table nothing derives the text, and this is the error that the start rule, or the end after it, answers
pub record IsErrorOfText (g : Grammar) (text : List ℕ) (e : ParseError) : Type 0 where
  pub table : Table
  pub is_table : initial g ≡ whole table
  pub none : (after : Table) (forest : List Tree) (trail : List TrailItem) → ¬ (DerivesText g text table after forest trail)
  pub consumed : Bool
  pub error : Error
  pub done : Done
  pub answered : IsAnsweredIn g text table (failed consumed error) done
  pub stands : in_text text error ≡ e
  pub commits : CommitsRightly g text
