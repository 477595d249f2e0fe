-- How a node loses a derivation of the whole text: what the derivation does there, compared with what the run does.
use Rattle.std.specs.Prelude.{◌≡◌, ◌<◌, ◌+◌, ℕ, List, Some, slice_get}
use Rattle.pg_grammar_form.specs.declared.form.Form.TheVariants as form
use Rattle.pg_grammar_form.specs.declared.side.Side.{Side}
use Rattle.pg_grammar_form.specs.declared.used.ChainBuilder.{ChainBuilder}
use Rattle.pg_grammar_value.specs.Grammar.{Grammar}
use Rattle.pg_grammar_value.specs.declared.trail.TrailItem.{TrailItem}
use Rattle.pg_grammar_value.specs.declared.trail.TrailItem.TheVariants.{Alt}
use Rattle.pg_table.specs.Tables.{Table}
use Rattle.pg_language.specs.Answers.{Given}
use Rattle.pg_machine_turns.specs.Spots.{spot_at}
use Rattle.pg_explain_witness.specs.declared.answering.Manner.TheVariants.{ForGood, Taking}
use Rattle.pg_explain_witness.specs.Going.{Passes, IsEntering, AreLeft, GoesOn}
use Rattle.pg_explain_witness.specs.Running.{IsEntered, IsSo, IsOther, AnswersAs, LinkTakes}

-- the node is a choice. The run enters it at the place, where an alternative answers for good, and the derivation picks a later one there (trails count
-- alternatives from 1)
pub record ChoiceLoses (G : Given) (table : Table) (trail : List TrailItem) (node place : ℕ) : Type 0 where
  pub parts : List ℕ
  pub chooses : slice_get G.grammar.nodes node ≡ Some (form.Choice parts)
  pub under : Table
  pub entered : IsEntered G table node place under
  pub number : ℕ
  pub alternative : ℕ
  pub is_alternative : slice_get parts number ≡ Some alternative
  pub answers : AnswersAs G (IsSo ForGood) alternative (spot_at under place)
  pub had : ℕ
  pub has : Passes G table trail (IsEntering node place (Alt had))
  pub later : number + 1 < had

-- the node is a repetition. The run enters its part at the place and the part consumes something, but the derivation ends the repetition there
pub record RoundsLose (G : Given) (table : Table) (trail : List TrailItem) (node place : ℕ) : Type 0 where
  pub part : ℕ
  pub repeats : slice_get G.grammar.nodes node ≡ Some (form.Many part)
  pub under : Table
  pub entered : IsEntered G table part place under
  pub takes : AnswersAs G (IsSo Taking) part (spot_at under place)
  pub ends : Passes G table trail (AreLeft part place 0)

-- the node is a chain. The run enters its separator at the place and a link consumes something, but the derivation ends the chain there
pub record LinksLose (G : Given) (table : Table) (trail : List TrailItem) (node place : ℕ) : Type 0 where
  pub side : Side
  pub used : ChainBuilder
  pub operand : ℕ
  pub separator : ℕ
  pub chains : slice_get G.grammar.nodes node ≡ Some (form.Chain side used operand separator)
  pub under : Table
  pub entered : IsEntered G table separator place under
  pub takes : LinkTakes G operand separator (spot_at under place)
  pub ends : Passes G table trail (AreLeft separator place 0)

-- the run enters the expression where the derivation does, but stops there or reads operators other than the derivation's
pub record ExpressionLoses (G : Given) (table : Table) (trail : List TrailItem) (node : ℕ) : Type 0 where
  pub at : ℕ
  pub under : Table
  pub entered : IsEntered G table node at under
  pub item : TrailItem
  pub has : Passes G table trail (IsEntering node at item)
  pub reads : AnswersAs G (IsOther item) node (spot_at under at)

-- the node loses the derivation with this trail, at the place or in the expression that goes on there
pub data LosesAt (G : Given) (table : Table) (trail : List TrailItem) (node place : ℕ) : Type 0 where
  choice_loses : ChoiceLoses G table trail node place → LosesAt G table trail node place
  rounds_lose : RoundsLose G table trail node place → LosesAt G table trail node place
  links_lose : LinksLose G table trail node place → LosesAt G table trail node place
  expression_loses : ExpressionLoses G table trail node → LosesAt G table trail node place

-- ---- two readings

-- at one place, the derivations with the two trails have different items for the node: two alternatives, or different operators
pub record ItemsPart (G : Given) (table : Table) (one other : List TrailItem) (node : ℕ) : Type 0 where
  pub place : ℕ
  pub item : TrailItem
  pub other_item : TrailItem
  pub one_has : Passes G table one (IsEntering node place item)
  pub other_has : Passes G table other (IsEntering node place other_item)
  pub apart : item ≡ other_item → ⊥

-- the rounds of the node begin with this part
pub data BeginsRounds (g : Grammar) (node part : ℕ) : Type 0 where
  repeats : slice_get g.nodes node ≡ Some (form.Many part) → BeginsRounds g node part
  separates : {side : Side} {used : ChainBuilder} {operand : ℕ} → slice_get g.nodes node ≡ Some (form.Chain side used operand part) → BeginsRounds g node part

-- at one place, the derivation with the one trail ends the rounds of the node, and the derivation with the other has one more
pub record RoundsPart (G : Given) (table : Table) (one other : List TrailItem) (node : ℕ) : Type 0 where
  pub part : ℕ
  pub begins : BeginsRounds G.grammar node part
  pub place : ℕ
  pub ends : Passes G table one (AreLeft part place 0)
  pub goes_on : GoesOn G table other part place

-- the derivations with the two trails part at the node
pub data PartAt (G : Given) (table : Table) (one other : List TrailItem) (node : ℕ) : Type 0 where
  items_part : ItemsPart G table one other node → PartAt G table one other node
  rounds_part : RoundsPart G table one other node → PartAt G table one other node
