-- Runs of the start rule, followed by the end of the text.
use Rattle.std.specs.Prelude.{◌≡◌, ℕ, zero, suc, List, Some, slice_get}
use Rattle.pg_grammar_value.specs.declared.grammar.Rule as declared
use Rattle.pg_table.specs.Tables.{Table}
use Rattle.pg_language.specs.Answers.{Given, Answers}
use Rattle.pg_language.specs.Derives.{Spot}
use Rattle.pg_language.specs.Leaves.{end_outcome}
use Rattle.pg_language.specs.Outcomes.{Outcome, ok, failed, empty_round}
use Rattle.pg_language.specs.Reactions.{then_rest}

-- the spot at the start of a text, with a table
abbrev pub beginning : Table → Spot
beginning table = record { place = zero; table = table }

-- the outcome of the start rule followed by the end of the text, from that of the start rule
abbrev pub at_end : List ℕ → Outcome → Outcome
at_end text (ok c b v t e) = then_rest c v t e (end_outcome text b)
at_end text (failed c e) = failed c e
at_end text empty_round = empty_round

-- the end of the text counts as one node more, which is entered after an ok answer
abbrev pub nodes_to_end : Outcome → ℕ → ℕ
nodes_to_end (ok c b v t e) m = suc m
nodes_to_end (failed c e) m = m
nodes_to_end empty_round m = m

-- the start rule, followed by the end of the text, has this outcome
pub data AnswersText (G : Given) (table : Table) : Outcome → ℕ → Type 0 where
  from_start : {start : declared.Rule} {o : Outcome} {m : ℕ} → slice_get G.grammar.rules G.grammar.start ≡ Some start →
      Answers G start.body (beginning table) o m → AnswersText G table (at_end G.text o) (nodes_to_end o m)
