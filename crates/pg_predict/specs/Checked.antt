-- Grammars that were checked.
use Rattle.std.specs.Prelude.{◌≡◌, ◌≤◌, ℕ}
use Rattle.pg_grammar_value.specs.Grammar.{Grammar}
use Rattle.pg_sets.specs.Sets.{Sets, AreSets}
use Rattle.pg_predict_costs.specs.StepCost.{IsStepCost}
use Rattle.pg_predict_conditions.specs.Conditions.{IsFaultless, cost_limit}
use Rattle.pg_predict.specs.Refusals.{IsRefused}
use Rattle.pg_predict.specs.declared.checking.CheckFault.{CheckFault}
use Rattle.pg_predict.specs.declared.checking.CheckFault.TheVariants as fault

pub record GrammarWithSets : Type 0 where
  pub grammar : Grammar
  pub sets : Sets
  pub cost : ℕ

-- the sets belong to the grammar, nothing is wrong with it, and this is its step cost, which is within the limit
pub record IsChecked (checked : GrammarWithSets) : Type 0 where
  pub sets : AreSets checked.grammar checked.sets
  pub faultless : IsFaultless checked.grammar
  pub cost : IsStepCost checked.grammar checked.sets.nullable checked.cost
  pub within : checked.cost ≤ cost_limit

-- why a grammar isn't accepted: it is refused, or memory ran out; in both cases it is handed back
abbrev pub IsFaultOf : Grammar → CheckFault → Type 0
IsFaultOf g (fault.Refused refused) = IsRefused g refused
IsFaultOf g (fault.Memory grammar) = grammar ≡ g
