-- The findings of a grammar that isn't accepted.
use Rattle.std.specs.Prelude.{◌≡◌, ◌+◌, ◌-◌, ◌↔◌, ℕ, nat_le, List, [], ◌∷◌, ◌++◌, map, codes, count_by, slice_get}
use Rattle.std.specs.Cmp.Lexicographic.{slice_cmp}
use Rattle.std.specs.Fmt.{decimal}
use Rattle.std.specs.List.{Contains, flat_map}
use Rattle.std.specs.List.Sorted.{IsStrictlySortedBy}
use Rattle.std.specs.Option.{option_map_or}
use Rattle.std.specs.Ordering.{nat_cmp, on}
use Rattle.std.specs.Str.{encode_utf8_all}
use Rattle.std.specs.declared.cmp.Ordering.{Ordering}
use Rattle.pg_grammar_value.specs.Grammar.{Grammar, rule_body}
use Rattle.pg_grammar_value.specs.declared.grammar.Rule.{Rule}
use Rattle.pg_sets_own.specs.PrintedStarts.{start_text}
use Rattle.pg_sets_own.specs.declared.listed.ListedStart.{ListedStart}
use Rattle.pg_predict_conditions.specs.Conditions.{NodeFacts, ViolatesBy, least_facts}
use Rattle.pg_predict_conditions.specs.Violations.{Violation}
use Rattle.pg_predict_conditions.specs.declared.violation.ViolationKind.{ViolationKind}
use Rattle.pg_predict_conditions.specs.declared.violation.ViolationKind.TheVariants.{LeftRecursion, EmptyRound, EmptyAlternative, AlternativesMeet, AlternativeMeetsFollow, RoundMeetsFollow, EmptyOperand, OperandMeetsOperators, FollowMeetsOperators, GapMeets, StepCostOver}

-- ---- the order

-- the number of the condition that is broken
abbrev pub condition_number : {S : Type 0} → ViolationKind S → ℕ
condition_number LeftRecursion = 1
condition_number EmptyRound = 2
condition_number (EmptyAlternative k) = 3
condition_number (AlternativesMeet j k s t) = 4
condition_number (AlternativeMeetsFollow k s t) = 5
condition_number (RoundMeetsFollow s t) = 6
condition_number EmptyOperand = 7
condition_number (OperandMeetsOperators s) = 7
condition_number (FollowMeetsOperators s) = 8
condition_number (GapMeets s) = 9
condition_number StepCostOver = 11

-- the order among violations of one condition at a node: by the alternatives that they name; an empty operand comes before an
-- operand that meets something
abbrev pub order_within : {S : Type 0} → ViolationKind S → List ℕ
order_within LeftRecursion = []
order_within EmptyRound = []
order_within (EmptyAlternative k) = k ∷ []
order_within (AlternativesMeet j k s t) = j ∷ k ∷ []
order_within (AlternativeMeetsFollow k s t) = k ∷ []
order_within (RoundMeetsFollow s t) = []
order_within EmptyOperand = 1 ∷ []
order_within (OperandMeetsOperators s) = 2 ∷ []
order_within (FollowMeetsOperators s) = []
order_within (GapMeets s) = []
order_within StepCostOver = []

-- first by the number of the node (nodes stand rule by rule), then by the number of the condition, then by the order within it
abbrev pub violation_key : {S : Type 0} → Violation S → List ℕ
violation_key violation = violation.node ∷ condition_number violation.kind ∷ order_within violation.kind

-- violations by the numbers of node and condition, and then by their alternatives
abbrev pub violation_order : {S : Type 0} → Violation S → Violation S → Ordering
violation_order = on violation_key (slice_cmp nat_cmp)

-- all violations of a grammar by these facts, each once and in order
pub record AreViolationsBy (g : Grammar) (facts : NodeFacts) (violations : List (Violation ListedStart)) : Type 0 where
  pub ordered : IsStrictlySortedBy violation_order violations
  pub members : (v : Violation ListedStart) → Contains violations v ↔ ViolatesBy g facts v.node v.kind

-- all violations of a grammar, each once and in order
abbrev pub AreViolations : Grammar → List (Violation ListedStart) → Type 0
AreViolations g = AreViolationsBy g (least_facts g)

-- ---- the texts

-- two starts that meet, with a text for each start
abbrev pub meeting_text : {S : Type 0} → (S → List ℕ) → S → S → List ℕ
meeting_text text s t = text s ++ (codes " and " ++ text t)

-- the code of a condition
abbrev pub code_text : ℕ → List ℕ
code_text number = codes "C" ++ decimal number

-- the words of a violation, with a text for each start
abbrev pub words_text : {S : Type 0} → (S → List ℕ) → ViolationKind S → List ℕ
words_text text LeftRecursion = codes "left recursion"
words_text text EmptyRound = codes "repeated part can be empty"
words_text text (EmptyAlternative k) = codes "alternative " ++ (decimal k ++ codes " can be empty and is not last")
words_text text (AlternativesMeet j k s t) = codes "alternatives " ++ (decimal j ++ (codes " and " ++ (decimal k ++ (codes " meet at " ++ meeting_text text s t))))
words_text text (AlternativeMeetsFollow k s t) = codes "alternative " ++ (decimal k ++ (codes " meets the follow set at " ++ meeting_text text s t))
words_text text (RoundMeetsFollow s t) = codes "repetition meets its follow set at " ++ meeting_text text s t
words_text text EmptyOperand = codes "operand can be empty"
words_text text (OperandMeetsOperators s) = codes "operand meets operators at " ++ text s
words_text text (FollowMeetsOperators s) = codes "follow set meets operators at " ++ text s
words_text text (GapMeets s) = codes "gap meets " ++ text s
words_text text StepCostOver = codes "step cost over 4294967296"

-- the code and the words
abbrev pub kind_text : {S : Type 0} → (S → List ℕ) → ViolationKind S → List ℕ
kind_text text kind = code_text (condition_number kind) ++ (codes " " ++ words_text text kind)

-- the code and the words, with the printed form of each start
abbrev pub violation_text : Grammar → ViolationKind ListedStart → List ℕ
violation_text g = kind_text (start_text g)

-- ---- the places

-- the number of a node's rule: the last rule whose body isn't after the node
abbrev pub rule_of : List Rule → ℕ → ℕ
rule_of rules p = count_by (λ rule. nat_le (rule_body rule) p) rules - 1

-- the rule's name
abbrev pub name_text : Rule → List ℕ
name_text rule = encode_utf8_all rule.name

abbrev pub name_of : List Rule → ℕ → List ℕ
name_of rules r = option_map_or name_text (slice_get rules r) []

-- the rule's body
abbrev pub body_of : List Rule → ℕ → ℕ
body_of rules r = option_map_or rule_body (slice_get rules r) 0

-- a node's number among those of its rule, from 1
abbrev pub number_in_rule : List Rule → ℕ → ℕ
number_in_rule rules p = p - body_of rules (rule_of rules p) + 1

-- ---- findings

-- the number of a rule, from 0, of a node in it, from 1, and of a condition, and a line
pub record Finding : Type 0 where
  pub rule : ℕ
  pub node : ℕ
  pub number : ℕ
  pub line : List ℕ

-- a rule's name, the number of a node in it, and a text
abbrev pub placed_text : List ℕ → ℕ → List ℕ → List ℕ
placed_text name node text = name ++ (codes ":" ++ (decimal node ++ (codes ": " ++ text)))

abbrev pub line_text : Grammar → Violation ListedStart → List ℕ
line_text g v = placed_text (name_of g.rules (rule_of g.rules v.node)) (number_in_rule g.rules v.node) (violation_text g v.kind)

-- the finding of a violation
abbrev pub finding_of : Grammar → Violation ListedStart → Finding
finding_of g v = record {
  rule = rule_of g.rules v.node;
  node = number_in_rule g.rules v.node;
  number = condition_number v.kind;
  line = line_text g v;
}

-- all findings of a grammar
pub record AreFindings (g : Grammar) (findings : List Finding) : Type 0 where
  pub violations : List (Violation ListedStart)
  pub all : AreViolations g violations
  pub says : findings ≡ map (finding_of g) violations

-- ---- lines

-- a finding's line, with its line feed
abbrev pub line_of : Finding → List ℕ
line_of finding = finding.line ++ 10 ∷ []

-- a line for each finding
abbrev pub lines_of : List Finding → List ℕ
lines_of = flat_map line_of
