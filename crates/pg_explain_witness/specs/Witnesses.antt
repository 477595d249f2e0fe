-- What is claimed of a witness.
use Rattle.std.specs.Prelude.{◌≡◌, ℕ, List, IfSome}
use Rattle.pg_grammar_value.specs.Grammar.{Grammar}
use Rattle.pg_table.specs.Tables.{Table}
use Rattle.pg_language.specs.Answers.{given}
use Rattle.pg_language.specs.declared.reading.Reading.TheVariants.{Library}
use Rattle.pg_explain_witness.specs.declared.found.Witness.{Witness}
use Rattle.pg_explain_witness.specs.declared.found.Found.{Found}
use Rattle.pg_explain_witness.specs.declared.judging.Verdict.{Verdict}
use Rattle.pg_explain_witness.specs.Shown.{IsShownBy}

-- it belongs to the finding at the node, and its text shows the finding
abbrev pub IsWitness : Grammar → Table → ℕ → Witness → Type 0
IsWitness g table node w = (w.node ≡ node) × IsShownBy (given Library g w.text) table w.node w.place w.shown

-- what was found for the finding at the node is a witness, if anything was found
abbrev pub IsWitnessIn : Grammar → Table → ℕ → Found → Type 0
IsWitnessIn g table node found = (found.node ≡ node) × IfSome found.best (IsWitness g table node)

-- what is shown of the text, if anything, holds because of the node
abbrev pub IsSound : Grammar → Table → List ℕ → ℕ → Verdict → Type 0
IsSound g table text node v = IfSome v.shown (IsShownBy (given Library g text) table node v.place)
