-- Which parts the marks of nullable nodes show to be reached, and which rules are used where.
use Rattle.std.specs.Prelude.{ℕ, suc, Bool, if◌then◌else◌, List, [], ◌∷◌}
use Rattle.std.specs.Option.{option_map_or}
use Rattle.pg_grammar_form.specs.Contents.{rule_in}
use Rattle.pg_grammar_form.specs.Forms.{Node}
use Rattle.pg_grammar_form.specs.declared.form.Form.TheVariants as form
use Rattle.pg_graph.specs.Graphs.{joined_each}
use Rattle.pg_graph.specs.Marks.{is_marked}

-- these numbers, up to and with the first that isn't marked
abbrev pub up_to_unmarked : List Bool → List ℕ → List ℕ
up_to_unmarked marks [] = []
up_to_unmarked marks (n ∷ ns) = n ∷ (if is_marked marks n then up_to_unmarked marks ns else [])

-- the parts that a node reaches, where the nullable nodes are marked
abbrev pub reached_parts : List Bool → Node → List ℕ
reached_parts marks (form.Leaf leaf) = []
reached_parts marks (form.Seq parts) = up_to_unmarked marks parts
reached_parts marks (form.Choice parts) = parts
reached_parts marks (form.Many part) = part ∷ []
reached_parts marks (form.Chain side used operand separator) = up_to_unmarked marks (operand ∷ separator ∷ [])
reached_parts marks (form.Around around part) = part ∷ []
reached_parts marks (form.Rule rule) = []
reached_parts marks (form.Expression builders term) = term ∷ []

-- the rule that a node uses, or none
abbrev pub used_rules : Node → List ℕ
used_rules n = option_map_or (λ rule. rule ∷ []) (rule_in n) []

-- the lists, with each node's number added to every list that the node names; the first node has the number p
abbrev pub all_joined : (Node → List ℕ) → ℕ → List Node → List (List ℕ) → List (List ℕ)
all_joined names p [] lists = lists
all_joined names p (n ∷ ns) lists = all_joined names (suc p) ns (joined_each lists (names n) p)
