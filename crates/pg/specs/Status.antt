-- The exit status of the program, and what it says about the files.
use Rattle.std.specs.Prelude.{ℕ, List, Bool, true, false, Option, ◌⊎◌}
use Rattle.pg_message.specs.declared.error.ParseError as message
use Rattle.pg_tree.specs.Trees.{Tree}
use Rattle.pg_grammar_value.specs.Grammar.{Grammar}
use Rattle.pg_grammar_value.specs.declared.trail.TrailItem.{TrailItem}
use Rattle.pg_pred.specs.Offer.{Offer}
use Rattle.pg_language.specs.declared.reading.Reading.{Reading}
use Rattle.pg_predict.specs.Findings.{Finding}
use Rattle.pg_bench_grammar.specs.Checking.{IsJudged, IsJudgedFile}
use Rattle.pg_bench_grammar.specs.Files.{AreFindingsOf, SpellsAny}
use Rattle.pg_bench_grammar.specs.Verifying.{IsVerifiedFile, IsVerdictOf}
use Rattle.pg_bench.specs.declared.done.Done.{Done}
use Rattle.pg_bench.specs.Parsed.{IsForestOf, IsForestBy, IsErrorOf, IsErrorBy}
use Rattle.pg_bench.specs.Probing.{IsShown, IsShownOfText}
use Rattle.pg_bench.specs.Showing.{IsShownBy, IsShownTo}
use Rattle.pg_bench.specs.Replaying.{IsReplayOfText}

-- the exit status of a command: yes, no, something can't be used, or memory ran out
pub data IsStatus (Yes No : Type 0) : ℕ → Type 0 where
  yes : Yes → IsStatus Yes No 0
  no : No → IsStatus Yes No 1
  unusable : IsStatus Yes No 2
  out_of_memory : IsStatus Yes No 3

-- the check of a grammar has this result
abbrev pub JudgesGrammar : Grammar → Bool → Type 0
JudgesGrammar g accepted = (asked : Bool) × (said : List ℕ) × IsJudged g asked accepted said

-- the exit status of a check of a grammar: whether it is accepted
abbrev pub IsJudgedStatus : Grammar → ℕ → Type 0
IsJudgedStatus g = IsStatus (JudgesGrammar g true) (JudgesGrammar g false)

-- that status, where everything can be used
abbrev pub check_status : Bool → ℕ
check_status true = 0
check_status false = 1

-- the check of a grammar file has this result
abbrev pub Judges : Offer → List ℕ → Bool → Type 0
Judges offer file accepted = (asked : Bool) × (said : List ℕ) × IsJudgedFile offer file asked accepted said

-- the exit status of a check: whether the grammar is accepted
abbrev pub IsCheckStatus : Offer → List ℕ → ℕ → Type 0
IsCheckStatus offer file = IsStatus (Judges offer file true) (Judges offer file false)

-- the exit status of the verdict on a certificate: it shows that the grammar is accepted, or this is why it doesn't
abbrev pub IsVerifyStatus : Offer → List ℕ → List ℕ → ℕ → Type 0
IsVerifyStatus offer file certificate = IsStatus (IsVerifiedFile offer file certificate) ((said : List ℕ) × IsVerdictOf offer file certificate said)

-- the grammar is accepted, and derives the reader's text at some cost
abbrev pub DerivesReader : Offer → List ℕ → Option (List ℕ) → Type 0
DerivesReader offer file reader = (left : Option (List ℕ)) × (forest : List Tree) × (trail : List TrailItem) × (done : Done) × IsForestOf offer file reader left forest trail done

-- the grammar isn't accepted, or doesn't derive the reader's text
abbrev pub Refuses : Offer → List ℕ → Option (List ℕ) → Type 0
Refuses offer file reader =
    ((findings : List Finding) × AreFindingsOf offer file findings)
    ⊎ ((left : Option (List ℕ)) × (error : message.ParseError) × IsErrorOf offer file reader left error)

-- the exit status of a parse
abbrev pub IsParseStatus : Offer → List ℕ → Option (List ℕ) → ℕ → Type 0
IsParseStatus offer file reader = IsStatus (DerivesReader offer file reader) (Refuses offer file reader)

-- an accepted grammar derives the reader's text at some cost
abbrev pub DerivesBy : Grammar → Option (List ℕ) → Type 0
DerivesBy g reader = (left : Option (List ℕ)) × (forest : List Tree) × (trail : List TrailItem) × (done : Done) × IsForestBy g reader left forest trail done

-- an accepted grammar doesn't derive the reader's text
abbrev pub FailsBy : Grammar → Option (List ℕ) → Type 0
FailsBy g reader = (left : Option (List ℕ)) × (error : message.ParseError) × IsErrorBy g reader left error

-- the exit status of a parse by an accepted grammar, once it is loaded
abbrev pub IsTextStatus : Grammar → Option (List ℕ) → ℕ → Type 0
IsTextStatus g reader = IsStatus (DerivesBy g reader) (FailsBy g reader)

-- the start rule of the file's grammar has an answer, or none, to the reader's text, and this is whether that is ok
abbrev pub AnswersReader : Offer → List ℕ → Option (List ℕ) → List ℕ → ℕ → Reading → Bool → Type 0
AnswersReader offer file reader name most reading accepted =
    (left : Option (List ℕ)) × (said : List ℕ) × IsShown offer file reader left name most reading accepted said

-- the exit status of a probe: whether the answer is ok
abbrev pub IsProbeStatus : Offer → List ℕ → Option (List ℕ) → List ℕ → ℕ → Reading → ℕ → Type 0
IsProbeStatus offer file reader name most reading =
    IsStatus (AnswersReader offer file reader name most reading true) (AnswersReader offer file reader name most reading false)

-- the start rule of a grammar has an answer, or none, to the reader's text, and this is whether that is ok
abbrev pub AnswersBy : Grammar → Option (List ℕ) → List ℕ → ℕ → Reading → Bool → Type 0
AnswersBy g reader name most reading accepted =
    (left : Option (List ℕ)) × (said : List ℕ) × IsShownTo (IsShownOfText g name most reading) reader left accepted said

-- the exit status of a probe by a grammar, once it is read
abbrev pub IsRunStatus : Grammar → Option (List ℕ) → List ℕ → ℕ → Reading → ℕ → Type 0
IsRunStatus g reader name most reading = IsStatus (AnswersBy g reader name most reading true) (AnswersBy g reader name most reading false)

-- as `AnswersBy`, for a text that is read already
abbrev pub AnswersText : Grammar → List ℕ → List ℕ → ℕ → Reading → Bool → Type 0
AnswersText g text name most reading accepted = (said : List ℕ) × IsShownOfText g name most reading text accepted said

abbrev pub IsTracedStatus : Grammar → List ℕ → List ℕ → ℕ → Reading → ℕ → Type 0
IsTracedStatus g text name most reading = IsStatus (AnswersText g text name most reading true) (AnswersText g text name most reading false)

-- replaying the trail with these bytes leads to a forest of the reader's text, or stops
abbrev pub ReplaysReader : Offer → List ℕ → Option (List ℕ) → List ℕ → List ℕ → Bool → Type 0
ReplaysReader offer file reader name trail accepted =
    (left : Option (List ℕ)) × (said : List ℕ) × IsShownBy (λ g. IsReplayOfText g name trail) offer file reader left accepted said

-- the exit status of a replay: whether it leads to a forest
abbrev pub IsReplayStatus : Offer → List ℕ → Option (List ℕ) → List ℕ → List ℕ → ℕ → Type 0
IsReplayStatus offer file reader name trail =
    IsStatus (ReplaysReader offer file reader name trail true) (ReplaysReader offer file reader name trail false)

-- the exit status of printing a grammar or its sets: whether the file spells a grammar
abbrev pub IsPrintStatus : Offer → List ℕ → ℕ → Type 0
IsPrintStatus offer file = IsStatus (SpellsAny offer file) ⊥
