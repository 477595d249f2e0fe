-- Marks on nodes, and what they show about a node by the marks on its parts.
use Rattle.std.specs.Prelude.{ℕ, Bool, true, false, List, slice_get}
use Rattle.std.specs.List.{list_all, list_any}
use Rattle.std.specs.Option.{option_map_or}
use Rattle.pg_grammar_form.specs.Forms.{Node}
use Rattle.pg_grammar_form.specs.declared.form.Form.TheVariants as form
use Rattle.pg_grammar_form.specs.declared.form.Leaf.{Leaf}
use Rattle.pg_grammar_form.specs.declared.form.Leaf.TheVariants as leaf
use Rattle.pg_grammar_value.specs.declared.grammar.Rule.{Rule}
use Rattle.pg_graph.specs.Marks.{is_marked}

-- whether the body of a rule is marked
abbrev pub body_is_marked : List Rule → List Bool → ℕ → Bool
body_is_marked rules marks r = option_map_or (λ rule. is_marked marks rule.body) (slice_get rules r) false

-- whether a leaf reads no character
abbrev pub reads_nothing : Leaf ℕ → Bool
reads_nothing (leaf.Satisfy class) = false
reads_nothing (leaf.String text) = false
reads_nothing (leaf.Word word) = false
reads_nothing (leaf.NotFollowedBy class) = true
reads_nothing leaf.EndOfText = true
reads_nothing (leaf.Declare class) = false

-- whether a node is nullable if the marked nodes are
abbrev pub looks_nullable : List Rule → List Bool → Node → Bool
looks_nullable rules marks (form.Leaf leaf) = reads_nothing leaf
looks_nullable rules marks (form.Seq parts) = list_all (is_marked marks) parts
looks_nullable rules marks (form.Choice parts) = list_any (is_marked marks) parts
looks_nullable rules marks (form.Many part) = true
looks_nullable rules marks (form.Chain side used operand separator) = is_marked marks operand
looks_nullable rules marks (form.Rule rule) = body_is_marked rules marks rule
looks_nullable rules marks (form.Expression builders term) = is_marked marks term
looks_nullable rules marks (form.Around around part) = is_marked marks part
