-- Steps: turns of the machine's loop. A node takes one when it is entered and one when its answer is handed on.
use Rattle.std.specs.Prelude.{◌+◌, ◌-◌, ◌*◌, ◌^◌, ℕ, min, if◌then◌else◌, List, [], ◌∷◌, Option, Some, None, slice_get, slice_index_or}
use Rattle.std.specs.Option.{option_map_or}
use Rattle.pg_grammar_form.specs.Contents.{is_declaration}
use Rattle.pg_grammar_form.specs.declared.form.Leaf.{Leaf}
use Rattle.pg_grammar_form.specs.declared.operators_item.OperatorsItem.{OperatorsItem}
use Rattle.pg_grammar_value.specs.Grammar.{Grammar}
use Rattle.pg_grammar_value.specs.declared.grammar.Rule.{Rule}

-- the number at an index; 0 for an index out of range
abbrev pub number_at : List ℕ → ℕ → ℕ
number_at numbers place = slice_index_or numbers place 0

-- the number, or the greatest that 64 bits hold if the number is greater
abbrev pub cut_off : ℕ → ℕ
cut_off n = min n (2 ^ 64 - 1)

-- the sum of these nodes' steps
abbrev pub steps_of_all : (ℕ → ℕ) → List ℕ → ℕ
steps_of_all steps [] = 0
steps_of_all steps (p ∷ ps) = steps p + steps_of_all steps ps

-- the steps of the rule's body
abbrev pub body_steps : List Rule → (ℕ → ℕ) → ℕ → ℕ
body_steps rules steps r = option_map_or (λ rule. steps rule.body) (slice_get rules r) 0

-- the steps of a leaf
abbrev pub leaf_steps : Leaf ℕ → ℕ
leaf_steps leaf = if is_declaration leaf then 40 else 2

-- how many operators a table may hold; 0 without an operators item
abbrev pub operator_limit : Option OperatorsItem → ℕ
operator_limit None = 0
operator_limit (Some item) = item.max

-- the steps of an expression's rows for each operator and each term: enough for every table that the grammar allows
abbrev pub row_steps : Grammar → ℕ
row_steps g = 200 * (operator_limit g.operators + 10)
