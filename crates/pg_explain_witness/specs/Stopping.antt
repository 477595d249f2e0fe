-- How a run gets stuck at a node.
use Rattle.std.specs.Prelude.{◌≡◌, ℕ, Some, slice_get}
use Rattle.pg_grammar_form.specs.declared.form.Form.TheVariants as form
use Rattle.pg_grammar_form.specs.declared.side.Side.{Side}
use Rattle.pg_grammar_form.specs.declared.used.ChainBuilder.{ChainBuilder}
use Rattle.pg_table.specs.Tables.{Table}
use Rattle.pg_language.specs.Answers.{Given}
use Rattle.pg_machine_turns.specs.Spots.{spot_at}
use Rattle.pg_explain_witness.specs.declared.answering.Manner.TheVariants.{Idle}
use Rattle.pg_explain_witness.specs.Running.{IsEntered, IsSo, AnswersAs, OperandAnswers, ComesAgain}

-- the node is a repetition. The run enters its part at the place, where the part is ok without consuming
pub record RoundIdles (G : Given) (table : Table) (node place : ℕ) : Type 0 where
  pub part : ℕ
  pub repeats : slice_get G.grammar.nodes node ≡ Some (form.Many part)
  pub under : Table
  pub entered : IsEntered G table part place under
  pub idle : AnswersAs G (IsSo Idle) part (spot_at under place)

-- the node is a chain. The run enters its separator at the place, where the separator and the operand after it are ok without consuming
pub record LinkIdles (G : Given) (table : Table) (node place : ℕ) : Type 0 where
  pub side : Side
  pub used : ChainBuilder
  pub operand : ℕ
  pub separator : ℕ
  pub chains : slice_get G.grammar.nodes node ≡ Some (form.Chain side used operand separator)
  pub under : Table
  pub entered : IsEntered G table separator place under
  pub idle : OperandAnswers G Idle operand separator (spot_at under place)

-- the run enters the node at the place, and then enters it again there
pub record IsReentered (G : Given) (table : Table) (node place : ℕ) : Type 0 where
  pub under : Table
  pub entered : IsEntered G table node place under
  pub again : ComesAgain G node place under

-- the run never leaves the node: it enters it again at one place, or a link of it consumes nothing there
pub data NeverEndsAt (G : Given) (table : Table) (node place : ℕ) : Type 0 where
  entered_again : IsReentered G table node place → NeverEndsAt G table node place
  link_idles : LinkIdles G table node place → NeverEndsAt G table node place
