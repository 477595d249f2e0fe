-- What a run of an accepted grammar shows about a whole text.
use Rattle.std.specs.Prelude.{◌≡◌, ◌+◌, ◌-◌, ◌*◌, ◌^◌, ℕ, min, List, length}
use Rattle.pg_text.specs.Position.{position_of}
use Rattle.pg_tree.specs.Trees.{Tree}
use Rattle.pg_grammar_value.specs.Grammar.{Grammar}
use Rattle.pg_grammar_value.specs.declared.trail.TrailItem.{TrailItem}
use Rattle.pg_sets.specs.Sets.{Sets}
use Rattle.pg_language.specs.Derives.{DerivesText}
use Rattle.pg_table.specs.Tables.{Table}
use Rattle.pg_derive.specs.Accepted.{Accepts}
use Rattle.pg_language.specs.Answers.{Given}
use Rattle.pg_language.specs.Outcomes.{Outcome, ok, failed, empty_round}
use Rattle.pg_language.specs.WholeTexts.{AnswersText}
use Rattle.pg_machine.specs.Outcomes.{outcome_of}
use Rattle.pg_machine.specs.declared.answer.Answer.{Answer}
use Rattle.pg_machine.specs.declared.answer.Success.{Success}

-- some sets show that nothing is wrong with the grammar; the text is one of characters
abbrev pub HasAcceptedGrammar : Given → Type 0
HasAcceptedGrammar G = (sets : Sets) × Accepts G sets

-- the answer is the relation's, of the start rule with the end of the text after it, with its error's position, after two
-- turns for each node but one for the first, counted up to the greatest number
pub record IsTextAnswer (G : Given) (table : Table) (a : Answer) : Type 0 where
  pub nodes : ℕ
  pub answers : AnswersText G table (outcome_of a) nodes
  pub position : a.error.position ≡ position_of G.text a.error.place
  pub steps : a.steps ≡ min (2 * nodes - 1) (2 ^ 64 - 1)

-- this derives the text to its end, and nothing else does
pub record IsOnlyDerivation (g : Grammar) (text : List ℕ) (table : Table) (s : Success) : Type 0 where
  pub end : s.place ≡ length text
  pub derives : DerivesText g text table s.table s.forest s.trail
  pub only : (after : Table) (forest : List Tree) (trail : List TrailItem) → DerivesText g text table after forest trail →
      (s.table ≡ after) × (s.forest ≡ forest) × (s.trail ≡ trail)

-- nothing derives the text
abbrev pub IsUnderivable : Grammar → List ℕ → Table → Type 0
IsUnderivable g text table = (after : Table) (forest : List Tree) (trail : List TrailItem) → ¬ (DerivesText g text table after forest trail)

-- ---- steps

-- the number of turns, with those for the end of the text after an ok answer: the end is entered, and its answer is passed
-- on
abbrev pub steps_to_end : Outcome → ℕ → ℕ
steps_to_end (ok c b v t e) k = min (k + 2) (2 ^ 64 - 1)
steps_to_end (failed c e) k = k
steps_to_end empty_round k = k
