-- The questions about a node, each with at most one violation. The questions are in series: whether
-- a rule heads itself, and then those of the form. A choice has a series on empty alternatives, then one for each
-- alternative on whether it meets each later one, and a last one on what follows; in other forms each question is a series.
use Rattle.std.specs.Prelude.{◌+◌, ◌-◌, ℕ, zero, suc, ◌&&◌, nat_lt, if◌then◌else◌, List, [], ◌∷◌, length, Option, Some, None}
use Rattle.std.specs.Option.{option_map_or}
use Rattle.pg_grammar_form.specs.Contents.{alternatives_in}
use Rattle.pg_grammar_form.specs.Forms.{Node}
use Rattle.pg_grammar_form.specs.declared.form.Form.TheVariants as form
use Rattle.pg_graph_bits.specs.Numbers.{set_at}
use Rattle.pg_graph.specs.Marks.{is_marked}
use Rattle.pg_predict_conditions.specs.Violations.{Violation}
use Rattle.pg_predict_conditions.specs.declared.violation.ViolationKind.{ViolationKind}
use Rattle.pg_predict_conditions.specs.declared.violation.ViolationKind.TheVariants.{LeftRecursion, EmptyRound, RoundMeetsFollow, EmptyOperand, OperandMeetsOperators}
use Rattle.pg_predict_conditions.specs.Judged.{Facts, part_at, follow_meeting, link_meeting, operators_meet, gaps_meet, gap_met, noted, noted_meeting, noted_start, noted_gap, empty_alternative, empty_alternatives, meeting_alternatives, meetings_of_alternative, ends_nullable, alternative_and_follow, alternatives_and_follow, noted_leaf, noted_end}

-- the violation found at a node, if any
abbrev pub found_at : ℕ → Option (ViolationKind ℕ) → List (Violation ℕ)
found_at p None = []
found_at p (Some kind) = record { node = p; kind = kind } ∷ []

-- ---- what one series finds

abbrev pub choice_series : Facts → ℕ → List ℕ → ℕ → List (Violation ℕ)
choice_series facts p parts zero = empty_alternatives facts p parts
choice_series facts p parts (suc j) = if nat_lt j (length parts) then meetings_of_alternative facts p parts j else alternatives_and_follow facts p parts

abbrev pub many_series : Facts → ℕ → ℕ → ℕ → List (Violation ℕ)
many_series facts p q zero = noted (is_marked facts.sets.nullable q) p EmptyRound
many_series facts p q (suc j) = noted_meeting (follow_meeting facts q p) p RoundMeetsFollow

abbrev pub chain_series : Facts → ℕ → ℕ → ℕ → ℕ → List (Violation ℕ)
chain_series facts p operand separator zero = noted (is_marked facts.sets.nullable separator && is_marked facts.sets.nullable operand) p EmptyRound
chain_series facts p operand separator (suc j) = noted_meeting (link_meeting facts operand separator p) p RoundMeetsFollow

abbrev pub expression_series : Facts → ℕ → ℕ → ℕ → List (Violation ℕ)
expression_series facts p term zero = noted (is_marked facts.sets.nullable term) p EmptyOperand
expression_series facts p term (suc zero) = noted_start (operators_meet facts (set_at facts.sets.firsts term)) p OperandMeetsOperators
expression_series facts p term (suc (suc zero)) = noted_end facts p
expression_series facts p term (suc (suc (suc j))) = noted_gap (gap_met facts (gaps_meet facts (set_at facts.sets.firsts term)) p) p

abbrev pub form_series : Facts → ℕ → Node → ℕ → List (Violation ℕ)
form_series facts p (form.Leaf l) j = noted_leaf facts p l
form_series facts p (form.Seq parts) j = []
form_series facts p (form.Choice parts) j = choice_series facts p parts j
form_series facts p (form.Many part) j = many_series facts p part j
form_series facts p (form.Chain side used operand separator) j = chain_series facts p operand separator j
form_series facts p (form.Rule rule) j = []
form_series facts p (form.Expression builders term) j = expression_series facts p term j
form_series facts p (form.Around around part) j = []

-- how many series there are
abbrev pub form_series_count : Node → ℕ
form_series_count (form.Leaf l) = 1
form_series_count (form.Seq parts) = 0
form_series_count (form.Choice parts) = length parts + 2
form_series_count (form.Many part) = 2
form_series_count (form.Chain side used operand separator) = 2
form_series_count (form.Rule rule) = 0
form_series_count (form.Expression builders term) = 4
form_series_count (form.Around around part) = 0

abbrev pub node_series : Facts → ℕ → Node → ℕ → List (Violation ℕ)
node_series facts p n zero = noted (is_marked facts.recursive p) p LeftRecursion
node_series facts p n (suc j) = form_series facts p n j

-- ---- what one question finds

abbrev pub asked_choice : Facts → ℕ → List ℕ → ℕ → ℕ → List (Violation ℕ)
asked_choice facts p parts zero k = empty_alternative facts p parts k
asked_choice facts p parts (suc j) k =
    if nat_lt j (length parts) then meeting_alternatives facts p parts j k else (if ends_nullable facts parts then alternative_and_follow facts p parts k else [])

abbrev pub asked_form : Facts → ℕ → Node → ℕ → ℕ → List (Violation ℕ)
asked_form facts p (form.Leaf l) j k = noted_leaf facts p l
asked_form facts p (form.Seq parts) j k = []
asked_form facts p (form.Choice parts) j k = asked_choice facts p parts j k
asked_form facts p (form.Many part) j k = many_series facts p part j
asked_form facts p (form.Chain side used operand separator) j k = chain_series facts p operand separator j
asked_form facts p (form.Rule rule) j k = []
asked_form facts p (form.Expression builders term) j k = expression_series facts p term j
asked_form facts p (form.Around around part) j k = []

abbrev pub asked_node : Facts → ℕ → Node → ℕ → ℕ → List (Violation ℕ)
asked_node facts p n zero k = noted (is_marked facts.recursive p) p LeftRecursion
asked_node facts p n (suc j) k = asked_form facts p n j k

-- how many questions a series of a choice has; an alternative without a mark has none
abbrev pub choice_questions : Facts → List ℕ → ℕ → ℕ
choice_questions facts parts zero = length parts - 1
choice_questions facts parts (suc j) =
    if nat_lt j (length parts) then (if is_marked facts.suspects (part_at parts j) then length parts else 0) else length parts - 1

abbrev pub form_questions : Facts → Node → ℕ → ℕ
form_questions facts n j = option_map_or (λ parts. choice_questions facts parts j) (alternatives_in n) 1

abbrev pub node_questions : Facts → Node → ℕ → ℕ
node_questions facts n zero = 1
node_questions facts n (suc j) = form_questions facts n j
