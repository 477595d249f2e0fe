-- The violations of a grammar, a condition a line, computed from sets of numbers.
use Rattle.std.specs.Prelude.{◌+◌, ◌-◌, ℕ, zero, suc, Bool, true, false, ◌&&◌, nat_eq, nat_lt, if◌then◌else◌, List, [], ◌∷◌, ◌++◌, length, Option, Some, None, slice_get, slice_index_or}
use Rattle.std.specs.Option.{option_and_then, option_map_or, option_or}
use Rattle.pg_grammar_value.specs.Grammar.{Grammar}
use Rattle.pg_grammar_form.specs.Contents.{is_declaration}
use Rattle.pg_grammar_form.specs.Forms.{Node}
use Rattle.pg_grammar_form.specs.declared.form.Form.TheVariants as form
use Rattle.pg_graph_bits.specs.Numbers.{set_at}
use Rattle.pg_graph.specs.Marks.{is_marked}
use Rattle.pg_sets.specs.Sets.{Sets}
use Rattle.pg_predict_conditions.specs.Meetings.{first_met, first_meeting, earlier}
use Rattle.pg_predict_conditions.specs.Violations.{Violation}
use Rattle.pg_predict_conditions.specs.declared.violation.ViolationKind.{ViolationKind}
use Rattle.pg_predict_conditions.specs.declared.violation.ViolationKind.TheVariants.{LeftRecursion, EmptyRound, EmptyAlternative, AlternativesMeet, AlternativeMeetsFollow, RoundMeetsFollow, EmptyOperand, OperandMeetsOperators, FollowMeetsOperators, GapMeets, StepCostOver}
use Rattle.pg_predict_conditions.specs.declared.meetings.Meeting.{Meeting}
use Rattle.pg_predict_conditions.specs.declared.operator_facts.OperatorFacts.{OperatorFacts}
use Rattle.pg_start.specs.declared.kind.StartKind.TheVariants.{End}
use Rattle.pg_predict_conditions.specs.WithStarts.{Starts}
use Rattle.pg_grammar_form.specs.declared.form.Leaf.{Leaf}

-- ---- facts

-- the sets of a grammar, marks on the bodies of rules that head themselves, for each start the set of starts that aren't
-- apart from it, the facts about operators, if there are any, marks on alternatives that may meet a later one, the step
-- cost, if there is one, and the body of the start rule if the cost is above the limit
pub record Facts : Type 0 where
  pub sets : Sets
  pub recursive : List Bool
  pub meetings : List (List Bool)
  pub operators : Option OperatorFacts
  pub suspects : List Bool
  pub cost : Option ℕ
  pub costly : Option ℕ

-- the first meeting between two nodes, between a node and what follows another, or between a round of a chain and what follows the chain
abbrev pub node_meeting : Facts → ℕ → ℕ → Option Meeting
node_meeting facts q r = first_meeting facts.meetings (set_at facts.sets.firsts q) (set_at facts.sets.firsts r)

abbrev pub follow_meeting : Facts → ℕ → ℕ → Option Meeting
follow_meeting facts q p = first_meeting facts.meetings (set_at facts.sets.firsts q) (set_at facts.sets.follows p)

abbrev pub link_meeting : Facts → ℕ → ℕ → ℕ → Option Meeting
link_meeting facts operand separator p =
    if is_marked facts.sets.nullable separator then earlier (follow_meeting facts separator p) (follow_meeting facts operand p) else follow_meeting facts separator p

-- the first start in a set that operators meet
abbrev pub operators_meet : Facts → List Bool → Option ℕ
operators_meet facts set = option_and_then (λ operators. first_met operators.met set) facts.operators

-- the first start in a set that gaps meet
abbrev pub gaps_meet : Facts → List Bool → Option ℕ
gaps_meet facts set = option_and_then (λ operators. first_met operators.met_by_gap set) facts.operators

-- the starts of the sets, and the operator start, or the end if there are no operators
abbrev pub all_starts : Facts → Starts
all_starts facts = record { listed = facts.sets.starts; own = option_map_or (λ operators. operators.operator) facts.operators (record { start = End; word = 0 }) }

-- the first start that gaps meet at a node: the operator start, whose number comes after the starts of the sets; else one of the
-- term, if there is one; else the first that follows the node
abbrev pub gap_met_by : Facts → Option ℕ → ℕ → OperatorFacts → Option ℕ
gap_met_by facts term p operators =
    if operators.in_gap then Some (length facts.sets.starts) else option_or term (first_met operators.met_by_gap (set_at facts.sets.follows p))

abbrev pub gap_met : Facts → Option ℕ → ℕ → Option ℕ
gap_met facts term p = option_and_then (gap_met_by facts term p) facts.operators

-- ---- violations

-- a violation if a test holds
abbrev pub noted : Bool → ℕ → ViolationKind ℕ → List (Violation ℕ)
noted true p what = record { node = p; kind = what } ∷ []
noted false p what = []

-- a violation at the starts that meet, if there are any
abbrev pub noted_meeting : Option Meeting → ℕ → (ℕ → ℕ → ViolationKind ℕ) → List (Violation ℕ)
noted_meeting None p what = []
noted_meeting (Some meeting) p what = record { node = p; kind = what meeting.one meeting.other } ∷ []

-- a violation at a start, if there is one
abbrev pub noted_start : Option ℕ → ℕ → (ℕ → ViolationKind ℕ) → List (Violation ℕ)
noted_start None p what = []
noted_start (Some start) p what = record { node = p; kind = what start } ∷ []

-- a violation at a start that gaps meet, if there is one
abbrev pub noted_gap : Option ℕ → ℕ → List (Violation ℕ)
noted_gap start p = noted_start start p GapMeets

-- the violations for each number below a limit, in order
abbrev pub all_below : (ℕ → List (Violation ℕ)) → ℕ → List (Violation ℕ)
all_below note zero = []
all_below note (suc n) = all_below note n ++ note n

-- ---- choices

abbrev pub part_at : List ℕ → ℕ → ℕ
part_at parts k = slice_index_or parts k 0

abbrev pub empty_alternative : Facts → ℕ → List ℕ → ℕ → List (Violation ℕ)
empty_alternative facts p parts k = noted (is_marked facts.sets.nullable (part_at parts k)) p (EmptyAlternative (k + 1))

abbrev pub meeting_alternatives : Facts → ℕ → List ℕ → ℕ → ℕ → List (Violation ℕ)
meeting_alternatives facts p parts j k =
    if nat_lt j k then noted_meeting (node_meeting facts (part_at parts j) (part_at parts k)) p (AlternativesMeet (j + 1) (k + 1)) else []

abbrev pub meetings_of_alternative : Facts → ℕ → List ℕ → ℕ → List (Violation ℕ)
meetings_of_alternative facts p parts j = all_below (meeting_alternatives facts p parts j) (length parts)

abbrev pub alternative_and_follow : Facts → ℕ → List ℕ → ℕ → List (Violation ℕ)
alternative_and_follow facts p parts k = noted_meeting (follow_meeting facts (part_at parts k) p) p (AlternativeMeetsFollow (k + 1))

-- whether the last alternative is nullable
abbrev pub ends_nullable : Facts → List ℕ → Bool
ends_nullable facts parts = is_marked facts.sets.nullable (part_at parts (length parts - 1))

-- the three conditions on choices
abbrev pub empty_alternatives : Facts → ℕ → List ℕ → List (Violation ℕ)
empty_alternatives facts p parts = all_below (empty_alternative facts p parts) (length parts - 1)

abbrev pub alternatives_that_meet : Facts → ℕ → List ℕ → List (Violation ℕ)
alternatives_that_meet facts p parts = all_below (meetings_of_alternative facts p parts) (length parts)

abbrev pub alternatives_and_follow : Facts → ℕ → List ℕ → List (Violation ℕ)
alternatives_and_follow facts p parts = if ends_nullable facts parts then all_below (alternative_and_follow facts p parts) (length parts - 1) else []

abbrev pub noted_choice : Facts → ℕ → List ℕ → List (Violation ℕ)
noted_choice facts p parts = empty_alternatives facts p parts ++ (alternatives_that_meet facts p parts ++ alternatives_and_follow facts p parts)

-- ---- repetitions

abbrev pub noted_many : Facts → ℕ → ℕ → List (Violation ℕ)
noted_many facts p q = noted (is_marked facts.sets.nullable q) p EmptyRound ++ noted_meeting (follow_meeting facts q p) p RoundMeetsFollow

abbrev pub noted_chain : Facts → ℕ → ℕ → ℕ → List (Violation ℕ)
noted_chain facts p operand separator =
    noted (is_marked facts.sets.nullable separator && is_marked facts.sets.nullable operand) p EmptyRound
    ++ noted_meeting (link_meeting facts operand separator p) p RoundMeetsFollow

-- ---- expressions

abbrev pub noted_operand : Facts → ℕ → ℕ → List (Violation ℕ)
noted_operand facts p term =
    noted (is_marked facts.sets.nullable term) p EmptyOperand ++ noted_start (operators_meet facts (set_at facts.sets.firsts term)) p OperandMeetsOperators

abbrev pub noted_end : Facts → ℕ → List (Violation ℕ)
noted_end facts p = noted_start (operators_meet facts (set_at facts.sets.follows p)) p FollowMeetsOperators

abbrev pub noted_expression : Facts → ℕ → ℕ → List (Violation ℕ)
noted_expression facts p term =
    noted_operand facts p term ++ (noted_end facts p ++ noted_gap (gap_met facts (gaps_meet facts (set_at facts.sets.firsts term)) p) p)

-- ---- leaves

abbrev pub noted_leaf : Facts → ℕ → Leaf ℕ → List (Violation ℕ)
noted_leaf facts p l = if is_declaration l then noted_gap (gap_met facts None p) p else []

-- ---- all forms

abbrev pub noted_form : Facts → ℕ → Node → List (Violation ℕ)
noted_form facts p (form.Leaf l) = noted_leaf facts p l
noted_form facts p (form.Seq parts) = []
noted_form facts p (form.Choice parts) = noted_choice facts p parts
noted_form facts p (form.Many part) = noted_many facts p part
noted_form facts p (form.Chain side used operand separator) = noted_chain facts p operand separator
noted_form facts p (form.Rule rule) = []
noted_form facts p (form.Expression builders term) = noted_expression facts p term
noted_form facts p (form.Around around part) = []

-- the violations of a node: first whether it is the body of a rule that heads itself
abbrev pub noted_node : Grammar → Facts → ℕ → List (Violation ℕ)
noted_node g facts p = noted (is_marked facts.recursive p) p LeftRecursion ++ option_map_or (noted_form facts p) (slice_get g.nodes p) []

-- the step cost; 0 if there is none
abbrev pub cost_noted : Facts → ℕ
cost_noted facts = option_map_or (λ cost. cost) facts.cost 0

-- whether this is the node at which a step cost above the limit is reported
abbrev pub is_costly : Facts → ℕ → Bool
is_costly facts p = option_map_or (λ q. nat_eq q p) facts.costly false

-- the violations of a node, with a step cost above the limit last
abbrev pub noted_at : Grammar → Facts → ℕ → List (Violation ℕ)
noted_at g facts p = noted_node g facts p ++ noted (is_costly facts p) p StepCostOver

-- the violations of all nodes
abbrev pub noted_grammar : Grammar → Facts → List (Violation ℕ)
noted_grammar g facts = all_below (noted_at g facts) (length g.nodes)
