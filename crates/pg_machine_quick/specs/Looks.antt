-- What stands at a place, and where turns lead.
use Rattle.std.specs.Prelude.{◌≡◌, ◌+◌, ℕ, List, Option, Some, None}
use Rattle.pg_grammar_form.specs.declared.decl.Role.{Role}
use Rattle.pg_grammar_form.specs.declared.decl.Role.TheVariants.{InfixRight, InfixLeft, InfixNone, Prefix, Postfix}
use Rattle.pg_grammar_form.specs.declared.operators_item.OperatorsItem.{OperatorsItem}
use Rattle.pg_language.specs.Answers.{Given}
use Rattle.pg_language_operators.specs.Standings.{Stands}
use Rattle.pg_machine_plan.specs.Plans.{Program, program}
use Rattle.pg_machine_plan.specs.declared.instruction.Instruction.{Instruction}
use Rattle.pg_machine_quick.specs.Landmarks.{ArePrefixes, IsRowEnd}
use Rattle.pg_machine_quick.specs.Ran.{LeadsTo, Makes}
use Rattle.pg_machine_quick.specs.Tape.{Tape, found_at, tape_act, tape_passed}
use Rattle.pg_machine_quick.specs.declared.context.Context.{Context}
use Rattle.pg_machine_quick.specs.declared.context.Look.{Look}
use Rattle.pg_machine_quick.specs.declared.frame.Frame.{Frame}
use Rattle.pg_machine_quick.specs.declared.passing.RowEnd.{RowEnd}
use Rattle.pg_machine_quick.specs.declared.step.Step.{Step}
use Rattle.pg_table.specs.Tables.{Table}

-- the grammar has operators, and of those in force this stands at the place
abbrev pub IsLook : Look → Type 0
IsLook l = (item : OperatorsItem) × (l.context.grammar.now.operators ≡ Some item)
    × Stands l.context.grammar.now l.context.text.now item l.context.operators.now l.place l.standing

abbrev pub program_of : Context → Program
program_of c = program c.grammar.now c.plan.now c.text.now

abbrev pub given_of : Context → Given
given_of c = (program_of c).given

-- some turns came to this tape, with any table of the operators in force
abbrev pub Leads : Context → Tape → Step → Tape → Type 0
Leads c s step z = (table : Table) → table.operators ≡ c.operators.now → Makes (program_of c) table s step z

-- at this place and with these frames the instruction only passes: it goes on after so many
abbrev pub Passes : Context → ℕ → List Frame → Instruction → ℕ → Type 0
Passes c place k i count = (table : Table) (s : Tape) → table.operators ≡ c.operators.now → s.place ≡ place → s.stack ≡ k
    → tape_act (program_of c) table s (Some i) ≡ tape_passed count s

-- nothing is read at the place by a row and a role
abbrev pub NoneRead : Context → ℕ → ℕ → Role → Type 0
NoneRead c place row role = (table : Table) → table.operators ≡ c.operators.now → None ≡ found_at (given_of c) table place row role

-- from one place in the code to another it only passes
abbrev pub IsPassedTo : Context → Tape → ℕ → ℕ → Type 0
IsPassedTo c s pc next = (table : Table) → table.operators ≡ c.operators.now → LeadsTo (program_of c) table (record s { pc = pc }) (record s { pc = next })

-- how many instructions pass at the end of a row of which nothing stands there, by the operator of the row that waits: up to what applies it, or all
abbrev pub unread_length : Option Role → ℕ
unread_length None = 5
unread_length (Some InfixRight) = 4
unread_length (Some InfixLeft) = 4
unread_length (Some InfixNone) = 4
unread_length (Some Prefix) = 2
unread_length (Some Postfix) = 2

-- from the end of a row it only passes, so many instructions
abbrev pub PassesEnd : Context → Tape → RowEnd → ℕ → Type 0
PassesEnd c s e count = (pc : ℕ) → IsRowEnd c.plan.now pc e → IsPassedTo c s pc (pc + count)

-- where so many prefix operators are read it only passes at this place, this many instructions
abbrev pub PassesPrefixes : Context → ℕ → ℕ → ℕ → Type 0
PassesPrefixes c place n count = (s : Tape) (pc : ℕ) → s.place ≡ place → ArePrefixes c.plan.now pc n → IsPassedTo c s pc (pc + count)
