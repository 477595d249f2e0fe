-- What a text shows of a grammar: that the grammar derives it, and the outcome of running the start rule on it.
use Rattle.std.specs.Prelude.{◌≡◌, ◌<◌, ◌+◌, ◌*◌, ℕ, List, Bool, Option, Some, None, length}
use Rattle.pg_tree.specs.Trees.{Tree}
use Rattle.pg_grammar_value.specs.declared.trail.TrailItem.{TrailItem}
use Rattle.pg_table.specs.Tables.{Table}
use Rattle.pg_language.specs.Answers.{Given, AnswersStart}
use Rattle.pg_language.specs.Errors.{Error, without_position}
use Rattle.pg_language.specs.Outcomes.{Outcome, ok, failed, empty_round}
use Rattle.pg_trail_replay.specs.Ends.{IsDerived}
use Rattle.pg_message.specs.declared.error.ParseError.{ParseError}
use Rattle.pg_machine.specs.declared.answer.Success.{Success}
use Rattle.pg_explain_witness.specs.Losing.{LosesAt, PartAt}
use Rattle.pg_explain_witness.specs.Stopping.{RoundIdles, NeverEndsAt}
use Rattle.pg_explain_witness.specs.declared.judging.Shown.{Shown}
use Rattle.pg_explain_witness.specs.declared.judging.Shown.TheVariants.{Lost, LeftOver, TwoReadings, EmptyRound, NoAnswer}

-- running the start rule has this outcome
pub record ComesTo (G : Given) (table : Table) (o : Outcome) : Type 0 where
  pub nodes : ℕ
  pub answers : AnswersStart G table o nodes

-- the grammar derives the whole text with this trail
pub record IsDerivedAlong (G : Given) (table : Table) (trail : List TrailItem) : Type 0 where
  pub forest : List Tree
  pub derived : IsDerived G.grammar G.text table trail forest

-- the grammar derives the whole text
pub record IsOfGrammar (G : Given) (table : Table) : Type 0 where
  pub trail : List TrailItem
  pub derived : IsDerivedAlong G table trail

-- the start rule is ok, and ends at this place, which isn't the end of the text
pub record StopsAt (G : Given) (table : Table) (place : ℕ) : Type 0 where
  pub after : Table
  pub consumed : Bool
  pub forest : List Tree
  pub trail : List TrailItem
  pub error : Error
  pub stops : ComesTo G table (ok consumed (record { place = place; table = after }) forest trail error)
  pub short : place ≡ length G.text → ⊥

-- the grammar derives the whole text with two trails
pub record IsReadTwice (G : Given) (table : Table) : Type 0 where
  pub one : List TrailItem
  pub other : List TrailItem
  pub by_one : IsDerivedAlong G table one
  pub by_other : IsDerivedAlong G table other
  pub differ : one ≡ other → ⊥

-- what is shown holds
abbrev pub IsShown : Given → Table → Shown → Type 0
IsShown G table (Lost consumed error) = IsOfGrammar G table × ComesTo G table (failed consumed (without_position error))
IsShown G table (LeftOver place) = IsOfGrammar G table × StopsAt G table place
IsShown G table (TwoReadings apart) = IsReadTwice G table
IsShown G table EmptyRound = ComesTo G table empty_round
IsShown G table (NoAnswer steps) = (o : Outcome) (m : ℕ) → AnswersStart G table o m → steps + 1 < 2 * m

-- what a success shows of a text that the grammar derives with this trail
abbrev pub IsReadSo : List ℕ → List TrailItem → Success → Shown → Type 0
IsReadSo text trail s (Lost consumed error) = ⊥
IsReadSo text trail s (LeftOver place) = (place ≡ s.place) × (s.place ≡ length text → ⊥)
IsReadSo text trail s (TwoReadings apart) = (s.place ≡ length text) × (trail ≡ s.trail → ⊥)
IsReadSo text trail s EmptyRound = ⊥
IsReadSo text trail s (NoAnswer steps) = ⊥

-- what an answer shows of a text that the grammar derives with this trail
abbrev pub IsSaid : List ℕ → List TrailItem → Bool → ParseError → Option Success → Shown → Type 0
IsSaid text trail consumed error None shown = shown ≡ Lost consumed error
IsSaid text trail consumed error (Some s) shown = IsReadSo text trail s shown

-- the grammar derives the whole text, and the node loses that derivation at the place
pub record IsLostAt (G : Given) (table : Table) (node place : ℕ) : Type 0 where
  pub trail : List TrailItem
  pub derived : IsDerivedAlong G table trail
  pub loses : LosesAt G table trail node place

-- the grammar derives the whole text in two ways that part at the node; one of the derivations is lost there, at the place
pub record IsPartedAt (G : Given) (table : Table) (node place : ℕ) : Type 0 where
  pub one : List TrailItem
  pub other : List TrailItem
  pub by_one : IsDerivedAlong G table one
  pub by_other : IsDerivedAlong G table other
  pub loses : LosesAt G table one node place
  pub part : PartAt G table one other node

-- what is shown holds, because of the node, at the place
abbrev pub IsShownAt : Given → Table → (node place : ℕ) → Shown → Type 0
IsShownAt G table node place (Lost consumed error) = IsLostAt G table node place
IsShownAt G table node place (LeftOver end) = IsLostAt G table node place
IsShownAt G table node place (TwoReadings apart) = IsPartedAt G table node place
IsShownAt G table node place EmptyRound = RoundIdles G table node place
IsShownAt G table node place (NoAnswer steps) = NeverEndsAt G table node place

-- what is shown holds, because of the node
abbrev pub IsShownBy : Given → Table → (node place : ℕ) → Shown → Type 0
IsShownBy G table node place shown = IsShown G table shown × IsShownAt G table node place shown

-- if the whole text is read, the derivation that the run kept parts at the node from the one with this trail
abbrev pub IsKeptApart : Given → Table → ℕ → List TrailItem → Option Success → Type 0
IsKeptApart G table node trail None = Unit {0}
IsKeptApart G table node trail (Some s) = s.place ≡ length G.text → PartAt G table trail s.trail node
