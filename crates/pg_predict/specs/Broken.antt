-- The first condition that is broken, and where.
use Rattle.std.specs.Prelude.{◌≡◌, ◌<◌, ℕ, [], ◌∷◌, ◌++◌, codes, List, length, Option, Some, None}
use Rattle.std.specs.Fmt.{decimal}
use Rattle.std.specs.Option.{option_map}
use Rattle.pg_grammar_value.specs.Grammar.{Grammar}
use Rattle.pg_sets_own.specs.declared.listed.ListedStart.{ListedStart}
use Rattle.pg_predict_conditions.specs.Conditions.{NodeFacts, ViolatesBy, IsFaultlessBy}
use Rattle.pg_predict.specs.Findings.{condition_number, rule_of, name_of, number_in_rule}
use Rattle.pg_predict_conditions.specs.Judged.{Facts, all_below, noted_at, noted_grammar}
use Rattle.pg_predict_conditions.specs.Violations.{Violation}
use Rattle.pg_predict.specs.declared.violation.Broken.{Broken}
use Rattle.pg_predict_conditions.specs.declared.violation.ViolationKind.{ViolationKind}

-- ---- definition

-- the condition is broken at the node; none is broken at an earlier node, and none with a smaller number at this one
pub record IsTheFirst (g : Grammar) (facts : NodeFacts) (broken : Broken) : Type 0 where
  pub kind : ViolationKind ListedStart
  pub violates : ViolatesBy g facts broken.node kind
  pub number : broken.condition ≡ condition_number kind
  pub node : broken.node < length g.nodes
  pub none_before : (p : ℕ) (other : ViolationKind ListedStart) → p < broken.node → ViolatesBy g facts p other → ⊥
  pub none_smaller : (other : ViolationKind ListedStart) → condition_number other < broken.condition → ViolatesBy g facts broken.node other → ⊥

-- this is the first broken condition, or nothing is wrong at any node
abbrev pub IsFirstBroken : Grammar → NodeFacts → Option Broken → Type 0
IsFirstBroken g facts None = IsFaultlessBy g facts
IsFirstBroken g facts (Some broken) = IsTheFirst g facts broken

-- ---- by computed violations

-- the number of the first condition that is broken, if any is
abbrev pub first_number : List (Violation ℕ) → Option ℕ
first_number [] = None
first_number (v ∷ vs) = Some (condition_number v.kind)

-- the number of the condition that is broken, if any is
abbrev pub number_of : Option (ViolationKind ℕ) → Option ℕ
number_of = option_map condition_number

-- no violation comes before the node, and this is the number of the first violation there
pub record IsNotedFirst (g : Grammar) (facts : Facts) (broken : Broken) : Type 0 where
  pub node : broken.node < length g.nodes
  pub none_before : all_below (noted_at g facts) broken.node ≡ []
  pub number : first_number (noted_at g facts broken.node) ≡ Some broken.condition

abbrev pub IsFirstNoted : Grammar → Facts → Option Broken → Type 0
IsFirstNoted g facts None = noted_grammar g facts ≡ []
IsFirstNoted g facts (Some broken) = IsNotedFirst g facts broken

-- ---- its text

-- a condition's number, a rule's name, and a node's number in it
abbrev pub condition_text : ℕ → List ℕ → ℕ → List ℕ
condition_text condition name node = codes "C" ++ (decimal condition ++ (codes " " ++ (name ++ (codes ":" ++ decimal node))))

-- the text of a condition that is broken at a node of a grammar
abbrev pub broken_text : Grammar → Broken → List ℕ
broken_text g broken = condition_text broken.condition (name_of g.rules (rule_of g.rules broken.node)) (number_in_rule g.rules broken.node)
