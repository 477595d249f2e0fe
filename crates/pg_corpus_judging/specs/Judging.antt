-- What a text comes to by a grammar, and when that is what a case wants; 10 is a line feed.
use Rattle.std.specs.Prelude.{◌≡◌, ◌<◌, ◌⊎◌, ◌==◌, ◌-◌, ℕ, Bool, false, List, [], ◌∷◌, ◌++◌, Option, Some, None, codes, length, take, slice_get, if◌then◌else◌}
use Rattle.std.specs.Fmt.{decimal}
use Rattle.std.specs.Str.{bytes_eq, chars, IsUtf8}
use Rattle.pg_text.specs.declared.text.TheConstants.{LIMIT}
use Rattle.pg_text.specs.declared.position.Pos.{Pos}
use Rattle.pg_message.specs.Printed.{messages_text}
use Rattle.pg_message.specs.declared.error.ParseError.{ParseError}
use Rattle.pg_tree.specs.Trees.{Tree}
use Rattle.pg_tree.specs.Json.{json}
use Rattle.pg_grammar_value.specs.Grammar.{Grammar}
use Rattle.pg_grammar_value.specs.declared.trail.TrailItem.{TrailItem}
use Rattle.pg_table.specs.Tables.{Table, initial, whole}
use Rattle.pg_language.specs.Derives.{DerivesText}
use Rattle.pg_language.specs.Answers.{given}
use Rattle.pg_language.specs.Errors.{Error as Wrong, in_text}
use Rattle.pg_language.specs.Outcomes.{failed}
use Rattle.pg_language.specs.WholeTexts.{AnswersText}
use Rattle.pg_language.specs.declared.reading.Reading.TheVariants.{Library}
use Rattle.pg_corpus.specs.Wanted.{Kind, accepted, error, json as wanted_json, outline, kind_of}
use Rattle.pg_corpus_outline.specs.Outlines.{forest_outline}
use Rattle.pg_corpus_judging.specs.declared.came.Came.{Came}
use Rattle.pg_corpus_judging.specs.declared.came.Came.TheVariants.{Trees, Error}
use Rattle.pg_corpus_judging.specs.declared.trial.Trial.{Trial}
use Rattle.pg_corpus_judging.specs.declared.trial.Trial.TheVariants.{Passed, Failed, Untried}

-- ---- what a text comes to

-- under the initial table the grammar derives the text to this forest, and to no other
pub record IsForestOf (g : Grammar) (text : List ℕ) (forest : List Tree) : Type 0 where
  pub table : Table
  pub is_table : initial g ≡ whole table
  pub after : Table
  pub trail : List TrailItem
  pub derives : DerivesText g text table after forest trail
  pub only : (other : Table) (others : List Tree) (items : List TrailItem) → DerivesText g text table other others items → forest ≡ others

-- under the initial table nothing derives the text, and this is the error that the start rule, or the end after it, answers
pub record IsErrorOf (g : Grammar) (text : List ℕ) (e : ParseError) : Type 0 where
  pub table : Table
  pub is_table : initial g ≡ whole table
  pub none : (after : Table) (forest : List Tree) (trail : List TrailItem) → ¬ (DerivesText g text table after forest trail)
  pub consumed : Bool
  pub error : Wrong
  pub nodes : ℕ
  pub answers : AnswersText (given Library g text) table (failed consumed error) nodes
  pub stands : in_text text error ≡ e

abbrev pub ComesTo : Grammar → List ℕ → Came → Type 0
ComesTo g text (Trees forest) = IsForestOf g text forest
ComesTo g text (Error e) = IsErrorOf g text e

-- ---- the lines of an error

abbrev pub place_line : Pos → List ℕ
place_line p = codes "line " ++ (decimal p.line ++ (codes ", column " ++ decimal p.column))

-- messages begin with a line feed, but for those of an error that has none
abbrev pub begins_line : Option ℕ → Bool
begins_line None = false
begins_line (Some b) = b == 10

abbrev pub below : List ℕ → List ℕ
below messages = (if begins_line (slice_get messages 0) then [] else 10 ∷ []) ++ messages

abbrev pub error_page : ParseError → List ℕ
error_page e = place_line e.position ++ below (messages_text e.messages)

-- without the last line feed
abbrev pub error_lines : ParseError → List ℕ
error_lines e = take (length (error_page e) - 1) (error_page e)

-- ---- what a case wants, and what came instead

abbrev pub as_error : List ℕ → List ℕ
as_error lines = codes "error\n" ++ lines

-- nothing if the two are the same
abbrev pub instead : List ℕ → List ℕ → Option (List ℕ)
instead wanted came = if bytes_eq wanted came then None else Some came

-- an error without lines is any error
abbrev pub instead_of_error : List ℕ → List ℕ → Option (List ℕ)
instead_of_error [] came = None
instead_of_error (b ∷ bs) came = if bytes_eq (b ∷ bs) came then None else Some (as_error came)

-- what came instead of what is wanted, as a case would want it; nothing if it is what is wanted
abbrev pub came_instead : Kind → Came → Option (List ℕ)
came_instead accepted (Trees forest) = None
came_instead (outline lines) (Trees forest) = instead lines (forest_outline forest)
came_instead (wanted_json text) (Trees forest) = instead text (json forest)
came_instead (error lines) (Trees forest) = Some (forest_outline forest)
came_instead accepted (Error e) = Some (as_error (error_lines e))
came_instead (outline lines) (Error e) = Some (as_error (error_lines e))
came_instead (wanted_json text) (Error e) = Some (as_error (error_lines e))
came_instead (error lines) (Error e) = instead_of_error lines (error_lines e)

-- the text comes to something by the grammar, and this came instead of what is wanted
pub record ComesInstead (g : Grammar) (text wanted : List ℕ) (other : Option (List ℕ)) : Type 0 where
  pub came : Came
  pub comes : ComesTo g text came
  pub is : came_instead (kind_of wanted) came ≡ other

-- a case passes if what the text comes to is what is wanted, and fails if something else came instead
abbrev pub IsTrialOfText : Grammar → List ℕ → List ℕ → Trial → Type 0
IsTrialOfText g text wanted Passed = ComesInstead g text wanted None
IsTrialOfText g text wanted (Failed other) = ComesInstead g text wanted (Some other.items)
IsTrialOfText g text wanted (Untried why) = ⊥

-- that of a text that these bytes spell; it is not tried if they spell none, or one that is too long
abbrev pub IsTrialOf : Grammar → List ℕ → List ℕ → Trial → Type 0
IsTrialOf g bytes wanted Passed = IsUtf8 bytes × IsTrialOfText g (chars bytes) wanted Passed
IsTrialOf g bytes wanted (Failed other) = IsUtf8 bytes × IsTrialOfText g (chars bytes) wanted (Failed other)
IsTrialOf g bytes wanted (Untried why) = (¬ (IsUtf8 bytes)) ⊎ (LIMIT < length (chars bytes))

-- the trial for what came instead
abbrev pub IsTrialFor : Option (List ℕ) → Trial → Type 0
IsTrialFor other Passed = None ≡ other
IsTrialFor other (Failed page) = Some page.items ≡ other
IsTrialFor other (Untried why) = ⊥

abbrev pub IsUntried : Trial → Type 0
IsUntried Passed = ⊥
IsUntried (Failed other) = ⊥
IsUntried (Untried why) = Unit {0}

-- ---- laws

-- a text that the grammar derives comes to its forest alone, whatever a case wants of it
abbrev pub TextsComeToOneEnd : Type 0
TextsComeToOneEnd = (g : Grammar) (text wanted : List ℕ) (forest : List Tree) (other : Option (List ℕ)) → IsForestOf g text forest →
    ComesInstead g text wanted other → came_instead (kind_of wanted) (Trees forest) ≡ other

-- a case that wants an error, without its lines, passes exactly where nothing derives its text
abbrev pub UnderivableTextsPassAsErrors : Type 0
UnderivableTextsPassAsErrors = (g : Grammar) (text : List ℕ) (table : Table) (other : Option (List ℕ)) → initial g ≡ whole table →
    ((after : Table) (forest : List Tree) (trail : List TrailItem) → ¬ (DerivesText g text table after forest trail)) →
    ComesInstead g text (codes "error") other → None ≡ other
