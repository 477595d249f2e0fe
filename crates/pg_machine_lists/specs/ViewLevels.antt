-- Views of the code's values while an expression runs, as the definitions have them.
use Rattle.std.specs.Prelude.{ℕ, zero, suc, ◌-◌, Bool, true, false, Option, Some, None, List, [], ◌∷◌, ◌++◌, codes}
use Rattle.std.specs.Option.{option_copied}
use Rattle.pg_language.specs.Answers as language
use Rattle.pg_language.specs.Answers.{given}
use Rattle.pg_language.specs.Errors.{seen_at}
use Rattle.pg_message_tape.specs.Messages.{TapeMessage, tape_message_of}
use Rattle.pg_message_tape.specs.declared.message.Message.{Message}
use Rattle.pg_message_tape.specs.declared.message.Sided.{Sided}
use Rattle.pg_message_tape.specs.declared.message.Sided.TheVariants as sided
use Rattle.pg_message_tape.specs.TapeErrors.{tape_error, kept_at}
use Rattle.pg_language_operators.specs.Standings.{Stands}
use Rattle.pg_machine_lists.specs.TapeLevels as on
use Rattle.pg_machine_lists.specs.TapeLevels.{OnOperator, OnPreceding, on_nothing, on_right, on_left, on_non, OnLevel, on_row, on_right_side, OnSetting, OnStretch, Lists, OnFollowed, on_hands, on_runs, OnClimbed, on_ended, on_again, OnFailure, saw, wanted}
use Rattle.pg_machine_lists.specs.declared.level.Given.{Given}
use Rattle.pg_machine_lists.specs.declared.level.InfixRead.{InfixRead}
use Rattle.pg_machine_lists.specs.declared.level.Preceding.{Preceding}
use Rattle.pg_machine_lists.specs.declared.level.Preceding.TheVariants as preceding
use Rattle.pg_machine_lists.specs.declared.level.RowLevel.{RowLevel}
use Rattle.pg_machine_lists.specs.declared.level.Level.{Level}
use Rattle.pg_machine_lists.specs.declared.level.Level.TheVariants as level
use Rattle.pg_machine_lists.specs.declared.together.Together.{Together}
use Rattle.pg_machine_lists.specs.declared.levels.Stored.{Stored}
use Rattle.pg_machine_lists.specs.declared.levels.Stored.TheVariants as stored
use Rattle.pg_machine_lists.specs.declared.level.Setting.{Setting}
use Rattle.pg_machine_lists.specs.declared.level.Stretch.{Stretch}
use Rattle.pg_machine_lists.specs.declared.level.Begun.{Begun}
use Rattle.pg_machine_lists.specs.declared.level.Followed.{Followed}
use Rattle.pg_machine_lists.specs.declared.level.Followed.TheVariants as followed
use Rattle.pg_machine_lists.specs.declared.level.Climbed.{Climbed}
use Rattle.pg_machine_lists.specs.declared.level.Climbed.TheVariants as climbed
use Rattle.pg_machine_lists.specs.declared.level.Failure.{Failure}
use Rattle.pg_machine_lists.specs.declared.level.Look.{Look}
use Rattle.pg_machine_lists.specs.declared.lists.Lists as run
use Rattle.pg_machine_lists.specs.declared.said.Said.{Said}

abbrev pub given_of : Given → language.Given
given_of g = given g.reading g.grammar.now g.text.now

abbrev pub setting_of : Setting → OnSetting
setting_of s = record { parts = record { item = s.item.now; builders = s.builders.now; term = s.term }; operators = s.in_force.value; slot = s.slot }

-- ---- levels

abbrev pub operator_of : InfixRead → OnOperator
operator_of q = record { symbol = q.symbol.now; forest = q.forest; after = q.after }

abbrev pub preceding_of : Preceding → OnPreceding
preceding_of preceding.Nothing = on_nothing
preceding_of (preceding.Right q) = on_right (operator_of q)
preceding_of (preceding.Left q) = on_left (operator_of q)
preceding_of (preceding.Non q) = on_non (operator_of q)

-- an operator of this associativity precedes an operand
abbrev pub on_side : Sided → OnOperator → OnPreceding
on_side sided.Left q = on_left q
on_side sided.Right q = on_right q
on_side sided.Neither q = on_non q

abbrev pub row_level_of : RowLevel → OnLevel
row_level_of l = on_row l.row (option_copied l.prefix) l.entry l.forest l.messages (preceding_of l.before)

abbrev pub level_of : Level → OnLevel
level_of (level.Row l) = row_level_of l
level_of (level.RightSide q) = on_right_side (operator_of q)

-- the tightest of rows that began together
abbrev pub tightest_on : Together → OnLevel
tightest_on r = on_row (r.loosest - r.looser) None (kept_at r.upto (tape_error r.place r.from)) r.forest r.from on_nothing

-- over these levels, rows that began together without the tightest: by the number of the loosest, their place, their trees, the
-- number of messages before and after the tightest, and how many rows are looser than it; each row added equally many messages
abbrev pub fewer_on : (loosest place forest from upto looser : ℕ) → List OnLevel → List OnLevel
fewer_on l i n m k zero levels = levels
fewer_on l i n m k (suc j) levels =
    on_row (l - j) None (kept_at m (tape_error i (m - (k - m)))) n (m - (k - m)) on_nothing ∷ fewer_on l i n (m - (k - m)) m j levels

-- over these levels, all rows of the group
abbrev pub together_on : Together → List OnLevel → List OnLevel
together_on r levels = tightest_on r ∷ fewer_on r.loosest r.place r.forest r.from r.upto r.looser levels

abbrev pub all_on : Option Together → List OnLevel → List OnLevel
all_on None levels = levels
all_on (Some r) levels = together_on r levels

abbrev pub stored_on : Stored → List OnLevel → List OnLevel
stored_on (stored.Row l) levels = row_level_of l ∷ levels
stored_on (stored.RightSide q) levels = on_right_side (operator_of q) ∷ levels
stored_on (stored.Rows r) levels = together_on r levels

-- the code keeps the innermost levels last
abbrev pub levels_on : List OnLevel → List Stored → List OnLevel
levels_on levels [] = levels
levels_on levels (s ∷ more) = levels_on (stored_on s levels) more

abbrev pub levels_of : List Stored → List OnLevel
levels_of stored = levels_on [] stored

-- the level that waits for the right side of an operator, if there is one
abbrev pub between_of : Option InfixRead → List OnLevel
between_of None = []
between_of (Some q) = on_right_side (operator_of q) ∷ []

-- ---- the lists

abbrev pub lists_of : run.Lists → Lists
lists_of m = record { v = m.forest; t = m.trail.items; x = m.messages }

abbrev pub stretch_of : Stretch → run.Lists → OnStretch
stretch_of z m = record { consumed = z.consumed; place = z.place; error = z.error; lists = lists_of m }

abbrev pub begun_of : Begun → run.Lists → on.Begun
begun_of b m = record { place = b.place; level = level_of b.level; lists = lists_of m }

abbrev pub followed_of : Followed → run.Lists → OnFollowed
followed_of (followed.Hands z) m = on_hands (stretch_of z m)
followed_of (followed.Runs r) m = on_runs r.tighter r.place (preceding_of r.before) (between_of r.between) (lists_of m)

abbrev pub down_of : ℕ → List OnLevel → run.Lists → on.Down
down_of place levels m = record { place = place; levels = levels; lists = lists_of m }

-- a row that has begun, over these levels
abbrev pub down_on : on.Begun → List OnLevel → on.Down
down_on b levels = record { place = b.place; levels = b.level ∷ levels; lists = b.lists }

abbrev pub climbed_of : Climbed → List OnLevel → run.Lists → OnClimbed
climbed_of (climbed.Ended z) levels m = on_ended (stretch_of z m)
climbed_of (climbed.Again place) levels m = on_again (down_of place levels m)

abbrev pub failure_of : Failure → run.Lists → OnFailure
failure_of f m = record { consumed = f.consumed; error = f.error; messages = m.messages }

-- ---- what stands at a place, for the rows of the expression

abbrev pub IsLook : {T M : Type 0} {F : T → Type 0} {G : M → Type 0} {f : _} {g : _} → Look T M F G f g → Type 0
IsLook l = Stands l.context.given.grammar.now l.context.given.text.now l.setting.now.item.now l.setting.now.in_force.value l.place l.standing

-- ---- messages

abbrev pub messages_in : Option Message → List TapeMessage
messages_in None = []
messages_in (Some m) = tape_message_of m ∷ []

abbrev pub said_of : Said → on.Said
said_of s = record { place = s.place; messages = messages_in s.first ++ messages_in s.second }

-- the name of what stands at the place, if there is anything to name it
abbrev pub seen_if : Bool → List ℕ → ℕ → List TapeMessage
seen_if true text i = saw (seen_at text i) ∷ []
seen_if false text i = []

-- the message that an operator was expected, if there is any
abbrev pub operator_if : Bool → List TapeMessage
operator_if true = wanted (codes "operator") ∷ []
operator_if false = []
