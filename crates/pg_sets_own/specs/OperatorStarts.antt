-- The starts of operators and of the gaps after them.
use Rattle.std.specs.Prelude.{◌≡◌, ◌↔◌, List, Option, Some, None}
use Rattle.pg_class.specs.Ranges.{Range}
use Rattle.pg_grammar_form.specs.declared.operators_item.OperatorsItem.{OperatorsItem}
use Rattle.pg_grammar_value.specs.Grammar.{Grammar}
use Rattle.pg_start.specs.declared.kind.StartKind.{StartKind}
use Rattle.pg_start.specs.declared.kind.StartKind.TheVariants.{Class}
use Rattle.pg_sets_own.specs.Listed.{IsListed}
use Rattle.pg_sets_own.specs.OwnStarts.{IsClassOf, IsOperatorStart}
use Rattle.pg_sets_own.specs.declared.operators.OperatorStarts.{OperatorStarts}

-- the gap start: a character that is skipped after an operator
pub data IsGapStart (g : Grammar) : StartKind → Type 0 where
  gap : {item : OperatorsItem} {class : List Range} → g.operators ≡ Some item → IsClassOf g item.gap class → IsGapStart g (Class class)

-- these are the operator start, under its name, and the gap start
pub record AreBothStarts (g : Grammar) (starts : OperatorStarts) : Type 0 where
  pub named : IsListed g starts.operator
  pub operator : (start : StartKind) → IsOperatorStart g start ↔ (starts.operator.start ≡ start)
  pub gap : (start : StartKind) → IsGapStart g start ↔ (starts.gap ≡ start)

-- a grammar with an operators item has both, and one without has neither
abbrev pub AreOperatorStarts : Grammar → Option OperatorStarts → Type 0
AreOperatorStarts g None = g.operators ≡ None
AreOperatorStarts g (Some starts) = AreBothStarts g starts
