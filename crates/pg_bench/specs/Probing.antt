-- What a run of a grammar's start rule prints, from bytes to bytes.
use Rattle.std.specs.Prelude.{◌≡◌, ◌≤◌, ◌<◌, ◌+◌, ◌*◌, ℕ, List, ◌++◌, Bool, true, false, Option, Some, None, codes}
use Rattle.std.specs.Fmt.{decimal}
use Rattle.std.specs.Io.KnownBytes.{Appends}
use Rattle.pg_tree.specs.Bytes.{AppendsPrefix}
use Rattle.pg_message.specs.Printed.{printed}
use Rattle.pg_message.specs.declared.error.ParseError.{ParseError}
use Rattle.pg_tree.specs.Json.{json}
use Rattle.pg_tree.specs.Trees.{Tree}
use Rattle.pg_pred.specs.Offer.{Offer}
use Rattle.pg_grammar_value.specs.Grammar.{Grammar}
use Rattle.pg_grammar_value.specs.declared.trail.TrailItem.{TrailItem}
use Rattle.pg_language.specs.Derives.{Spot}
use Rattle.pg_table.specs.Tables.{Table, initial, whole}
use Rattle.pg_language.specs.Answers.{Given, given, AnswersStart}
use Rattle.pg_language.specs.Errors.{Error, in_text}
use Rattle.pg_language.specs.Outcomes.{Outcome, ok, failed, empty_round}
use Rattle.pg_language.specs.declared.reading.Reading.{Reading}
use Rattle.pg_machine.specs.declared.answer.Success.{Success}
use Rattle.pg_machine.specs.declared.answer.Outcome as ended
use Rattle.pg_bench.specs.Showing.{IsShownBy, IsWrittenBy, IsPartlyWrittenBy, IsWrittenTo, IsPartlyWrittenTo}
use Rattle.pg_machine.specs.declared.answer.Outcome.TheVariants.{Answered, StepsUsed, EmptyRound}

abbrev pub consumption : Bool → List ℕ
consumption true = codes "consumed"
consumption false = codes "empty"

-- an ok answer: whether it consumed, then the place where it ends, in characters, then the forest's JSON
abbrev pub ok_text : Bool → ℕ → List Tree → List ℕ
ok_text c place forest = (consumption c ++ codes " ok\nplace " ++ decimal place ++ codes "\n") ++ (json forest ++ codes "\n")

-- an error answer: whether it consumed, then the printed error
abbrev pub error_text : Bool → List ℕ → List ℕ
error_text c error = consumption c ++ codes " error\n" ++ error

abbrev pub steps_used_text : List ℕ
steps_used_text = codes "P5 steps used up\n"

abbrev pub empty_round_text : List ℕ
empty_round_text = codes "P6 empty repetition\n"

-- what is printed about a run of at most this many steps on a text with this name, and whether its answer is ok: m nodes take 2m - 1 steps
pub data Shows (G : Given) (table : Table) (name : List ℕ) (most : ℕ) : Bool → List ℕ → Type 0 where
  is_ok : {c : Bool} {end : Spot} {forest : List Tree} {trail : List TrailItem} {e : Error} {m : ℕ} →
      AnswersStart G table (ok c end forest trail e) m → 2 * m ≤ most + 1 → Shows G table name most true (ok_text c end.place forest)
  is_error : {c : Bool} {e : Error} {m : ℕ} →
      AnswersStart G table (failed c e) m → 2 * m ≤ most + 1 → Shows G table name most false (error_text c (printed (in_text G.text e) name))
  is_stuck : {m : ℕ} → AnswersStart G table empty_round m → 2 * m ≤ most + 1 → Shows G table name most false empty_round_text
  -- exactly when every outcome takes more steps
  is_used_up : ((o : Outcome) (m : ℕ) → AnswersStart G table o m → most + 1 < 2 * m) → Shows G table name most false steps_used_text

-- this is printed about the grammar's run on a text under its initial table
pub record IsShownOfText (g : Grammar) (name : List ℕ) (most : ℕ) (reading : Reading) (text : List ℕ) (accepted : Bool) (said : List ℕ) : Type 0 where
  pub table : Table
  pub is_table : initial g ≡ whole table
  pub shows : Shows (given reading g text) table name most accepted said

-- the file spells a grammar, and this is printed about its run on the reader's whole bytes
abbrev pub IsShown : Offer → List ℕ → Option (List ℕ) → Option (List ℕ) → List ℕ → ℕ → Reading → Bool → List ℕ → Type 0
IsShown offer file reader left name most reading = IsShownBy (λ g. IsShownOfText g name most reading) offer file reader left

-- that was written
abbrev pub IsProbed : Offer → List ℕ → Option (List ℕ) → Option (List ℕ) → List ℕ → ℕ → Reading → Option (List ℕ) → Option (List ℕ) → Bool → Type 0
IsProbed offer file reader left name most reading writer held = IsWrittenBy (λ g. IsShownOfText g name most reading) offer file reader left writer held

-- a prefix of that was written
abbrev pub IsPartlyProbed : Offer → List ℕ → Option (List ℕ) → Option (List ℕ) → List ℕ → ℕ → Reading → Option (List ℕ) → Option (List ℕ) → Type 0
IsPartlyProbed offer file reader left name most reading writer held =
    IsPartlyWrittenBy (λ g. IsShownOfText g name most reading) offer file reader left writer held

-- as `IsProbed`, for a grammar that is read already
abbrev pub IsProbedBy : Grammar → Option (List ℕ) → Option (List ℕ) → List ℕ → ℕ → Reading → Option (List ℕ) → Option (List ℕ) → Bool → Type 0
IsProbedBy g reader left name most reading writer held = IsWrittenTo (IsShownOfText g name most reading) reader left writer held

abbrev pub IsPartlyProbedBy : Grammar → Option (List ℕ) → Option (List ℕ) → List ℕ → ℕ → Reading → Option (List ℕ) → Option (List ℕ) → Type 0
IsPartlyProbedBy g reader left name most reading writer held = IsPartlyWrittenTo (IsShownOfText g name most reading) reader left writer held

-- as `IsProbed`, for a grammar and a text that are read already
pub record IsTextProbed (g : Grammar) (text name : List ℕ) (most : ℕ) (reading : Reading) (writer held : Option (List ℕ)) (accepted : Bool) : Type 0 where
  pub said : List ℕ
  pub shown : IsShownOfText g name most reading text accepted said
  pub written : Appends writer held said

pub record IsTextPartlyProbed (g : Grammar) (text name : List ℕ) (most : ℕ) (reading : Reading) (writer held : Option (List ℕ)) : Type 0 where
  pub accepted : Bool
  pub said : List ℕ
  pub shown : IsShownOfText g name most reading text accepted said
  pub written : AppendsPrefix writer held said

-- ---- the page of an outcome of the machine

abbrev pub answer_text : Bool → ParseError → Option Success → List ℕ → List ℕ
answer_text c e None name = error_text c (printed e name)
answer_text c e (Some s) name = ok_text c s.place s.forest

-- what is printed about the machine's outcome; only inner contracts cite it
abbrev pub outcome_text : ended.Outcome → List ℕ → List ℕ
outcome_text (Answered a) name = answer_text a.consumed a.error a.success name
outcome_text StepsUsed name = steps_used_text
outcome_text EmptyRound name = empty_round_text

abbrev pub is_some : Option Success → Bool
is_some None = false
is_some (Some s) = true

abbrev pub is_ok_outcome : ended.Outcome → Bool
is_ok_outcome (Answered a) = is_some a.success
is_ok_outcome StepsUsed = false
is_ok_outcome EmptyRound = false
