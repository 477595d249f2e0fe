-- What the facts of a grammar mean.
use Rattle.std.specs.Prelude.{◌≡◌, ◌↔◌, ◌<◌, ℕ, Bool, true, List, Option, Some, None, slice_get, length}
use Rattle.std.specs.List.Sorted.{IsStrictlySortedBy}
use Rattle.pg_grammar_value.specs.Grammar.{Grammar}
use Rattle.pg_grammar_value.specs.declared.grammar.Rule as declared
use Rattle.pg_graph_bits.specs.Numbers.{contains, set_at}
use Rattle.pg_start.specs.Apart.{Apart}
use Rattle.pg_start.specs.declared.kind.StartKind.{StartKind}
use Rattle.pg_graph.specs.Marks.{is_marked}
use Rattle.pg_sets.specs.Sets.{Sets, AreSets, HasStart}
use Rattle.pg_sets_own.specs.declared.listed.ListedStart.{ListedStart}
use Rattle.pg_sets_own.specs.Listed.{IsListed, start_order}
use Rattle.pg_sets_own.specs.OperatorStarts.{IsGapStart}
use Rattle.pg_sets_own.specs.OwnStarts.{IsOperatorStart}
use Rattle.pg_predict_costs.specs.FoundCost.{IsFoundCost}
use Rattle.pg_predict_conditions.specs.Conditions.{NodeFacts, least_facts, cost_limit}
use Rattle.pg_predict_conditions.specs.Judged.{Facts, is_costly}
use Rattle.pg_predict_conditions.specs.Suspects.{AreSuspects}
use Rattle.pg_predict_conditions.specs.declared.operator_facts.OperatorFacts.{OperatorFacts}

-- ---- sets

-- the starts are in order, each once and under its number, and each node has sets of numbers below the number
-- of starts
pub record AreWellFormed (g : Grammar) (sets : Sets) : Type 0 where
  pub ordered : IsStrictlySortedBy start_order sets.starts
  pub listed : (k : ℕ) (listed : ListedStart) → slice_get sets.starts k ≡ Some listed → IsListed g listed
  pub first_limit : (p : ℕ) → p < length g.nodes → length (set_at sets.firsts p) ≡ length sets.starts
  pub follow_limit : (p : ℕ) → p < length g.nodes → length (set_at sets.follows p) ≡ length sets.starts

-- the sets agree with these facts about nodes
pub record SetsSay (g : Grammar) (asked : NodeFacts) (sets : Sets) : Type 0 where
  pub formed : AreWellFormed g sets
  pub nullable : (p : ℕ) → (is_marked sets.nullable p ≡ true) ↔ asked.nullable p
  pub first : (p : ℕ) (start : StartKind) → p < length g.nodes → HasStart sets.starts (set_at sets.firsts p) start ↔ asked.first p start
  pub follow : (p : ℕ) (start : StartKind) → p < length g.nodes → HasStart sets.starts (set_at sets.follows p) start ↔ asked.follow p start

-- ---- other facts

-- the node is the body of a rule that heads itself
pub record IsRecursive (g : Grammar) (asked : NodeFacts) (p : ℕ) : Type 0 where
  pub number : ℕ
  pub rule : declared.Rule
  pub there : slice_get g.rules number ≡ Some rule
  pub body : rule.body ≡ p
  pub heads_itself : asked.heads_itself number

-- the marks are on exactly those nodes
abbrev pub MarksRecursive : Grammar → NodeFacts → List Bool → Type 0
MarksRecursive g asked marks = (p : ℕ) → (is_marked marks p ≡ true) ↔ IsRecursive g asked p

-- the set has exactly the starts of a list that aren't apart from a given one
abbrev pub IsMetSet : List ListedStart → StartKind → List Bool → Type 0
IsMetSet starts start met = (t : ℕ) (other : ListedStart) → slice_get starts t ≡ Some other → (contains met t ≡ true) ↔ (Apart start other.start → ⊥)

-- there is one such set for each start of the list
pub record AreMeetings (starts : List ListedStart) (meetings : List (List Bool)) : Type 0 where
  pub long : length meetings ≡ length starts
  pub met : (s : ℕ) (listed : ListedStart) → slice_get starts s ≡ Some listed → IsMetSet starts listed.start (set_at meetings s)

-- the operator start under its number, the starts that it meets, the starts that gaps meet, and whether gaps meet operators
pub record AreOfOperators (g : Grammar) (starts : List ListedStart) (facts : OperatorFacts) : Type 0 where
  pub named : IsListed g facts.operator
  pub operator : (start : StartKind) → IsOperatorStart g start ↔ (facts.operator.start ≡ start)
  pub met : IsMetSet starts facts.operator.start facts.met
  pub gap_start : StartKind
  pub gap : (start : StartKind) → IsGapStart g start ↔ (gap_start ≡ start)
  pub met_by_gap : IsMetSet starts gap_start facts.met_by_gap
  pub in_gap : (facts.in_gap ≡ true) ↔ (Apart gap_start facts.operator.start → ⊥)

-- there are such facts exactly if there is an operators item
abbrev pub AreOperatorFacts : Grammar → List ListedStart → Option OperatorFacts → Type 0
AreOperatorFacts g starts None = g.operators ≡ None
AreOperatorFacts g starts (Some facts) = AreOfOperators g starts facts

-- the node is the body of the start rule, and the number is above the limit
pub record IsOver (g : Grammar) (found : Option ℕ) (p : ℕ) : Type 0 where
  pub rule : declared.Rule
  pub there : slice_get g.rules g.start ≡ Some rule
  pub body : rule.body ≡ p
  pub cost : ℕ
  pub is : found ≡ Some cost
  pub over : cost_limit < cost

-- the node is the body of the start rule, and the grammar's step cost is above the limit
pub record IsCostly (g : Grammar) (asked : NodeFacts) (p : ℕ) : Type 0 where
  pub rule : declared.Rule
  pub there : slice_get g.rules g.start ≡ Some rule
  pub body : rule.body ≡ p
  pub cost : ℕ
  pub is : asked.cost cost
  pub over : cost_limit < cost

-- ---- all facts together

-- the facts that are computed from the sets and the cost, whatever these are
pub record AreWorkedOut (g : Grammar) (facts : Facts) : Type 0 where
  pub meetings : AreMeetings facts.sets.starts facts.meetings
  pub operators : AreOperatorFacts g facts.sets.starts facts.operators
  pub suspects : AreSuspects g facts.sets facts.meetings facts.suspects
  pub over : (p : ℕ) → (is_costly facts p ≡ true) ↔ IsOver g facts.cost p

-- the facts have these sets, these marks on the bodies of rules that head themselves, and this cost
pub record AreBySets (g : Grammar) (sets : Sets) (recursive : List Bool) (cost : Option ℕ) (facts : Facts) : Type 0 where
  pub same_sets : facts.sets ≡ sets
  pub same_marks : facts.recursive ≡ recursive
  pub same_cost : facts.cost ≡ cost
  pub worked_out : AreWorkedOut g facts

-- the facts of a grammar agree with these facts about its nodes
pub record AreFacts (g : Grammar) (asked : NodeFacts) (facts : Facts) : Type 0 where
  pub sets : SetsSay g asked facts.sets
  pub recursive : MarksRecursive g asked facts.recursive
  pub worked_out : AreWorkedOut g facts
  pub costly : (p : ℕ) → (is_costly facts p ≡ true) ↔ IsCostly g asked p

-- the facts are the grammar's own: its least sets and its step cost
pub record AreLeastFacts (g : Grammar) (facts : Facts) : Type 0 where
  pub least : AreFacts g (least_facts g) facts
  pub sets : AreSets g facts.sets
  pub cost : IsFoundCost g facts.sets.nullable facts.cost
