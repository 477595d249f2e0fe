-- Plans: what a grammar is laid out as, and a plan over a text.
use Rattle.std.specs.Prelude.{◌+◌, ◌*◌, ℕ, List, Option, slice_get}
use Rattle.pg_grammar_value.specs.Grammar.{Grammar}
use Rattle.pg_language.specs.Answers.{Given, given}
use Rattle.pg_language.specs.declared.reading.Reading.TheVariants.{Library}
use Rattle.pg_machine_plan.specs.Verdicts.{next_of, slot}
use Rattle.pg_machine_plan.specs.declared.instruction.Arm.{Arm}
use Rattle.pg_machine_plan.specs.declared.instruction.Instruction.{Instruction}
use Rattle.pg_machine_plan.specs.declared.instruction.Stretch.{Stretch}

-- code, its tables of 130 arms each, the stretches by where they begin, and where a text's run begins
pub record Plan : Type 0 where
  pub code : List Instruction
  pub arms : List Arm
  pub stretches : List (Option Stretch)
  pub entry : ℕ

-- a grammar and a text, and a plan for the grammar
pub record Program : Type 0 where
  pub given : Given
  pub plan : Plan

-- the arm of a table for what comes next
abbrev pub chosen : Plan → ℕ → Option ℕ → Option Arm
chosen plan table next = slice_get plan.arms (130 * table + slot (next_of next))

-- a plan for a grammar and a text, read as the library does
abbrev pub program : Grammar → Plan → List ℕ → Program
program g plan text = record { given = given Library g text; plan = plan }
