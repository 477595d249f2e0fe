-- The nodes of base forms, with numbers in place of parts and names.
use Rattle.std.specs.Prelude.{ℕ, suc, List, [], ◌∷◌, map, take}
use Rattle.pg_grammar_form.specs.Preorder.{roots}
use Rattle.pg_grammar_form.specs.Names.{Name, number_of}
use Rattle.pg_grammar_form.specs.Forms.{BaseForm, Node, part_count, leaf_with}
use Rattle.pg_grammar_form.specs.declared.form.Form.TheVariants as form

-- the first of some parts
abbrev pub first_part : List ℕ → ℕ
first_part [] = 0
first_part (part ∷ parts) = part

-- the second of some parts
abbrev pub second_part : List ℕ → ℕ
second_part [] = 0
second_part (part ∷ parts) = first_part parts

-- the node of a base form with these parts, given the names of the grammar's rules and of its word items
abbrev pub node_of : List Name → List Name → BaseForm → List ℕ → Node
node_of rules words (form.Leaf leaf) parts = form.Leaf (leaf_with (number_of words) leaf)
node_of rules words (form.Seq n) parts = form.Seq parts
node_of rules words (form.Choice n) parts = form.Choice parts
node_of rules words (form.Many part) parts = form.Many (first_part parts)
node_of rules words (form.Chain side used operand separator) parts = form.Chain side used (first_part parts) (second_part parts)
node_of rules words (form.Rule name) parts = form.Rule (number_of rules name)
node_of rules words (form.Expression builders part) parts = form.Expression builders (first_part parts)
node_of rules words (form.Around around part) parts = form.Around around (first_part parts)

-- the nodes of base forms, given a list of parts for each
abbrev pub nodes_with : List Name → List Name → List BaseForm → List (List ℕ) → List Node
nodes_with rules words [] parts = []
nodes_with rules words (f ∷ forms) [] = []
nodes_with rules words (f ∷ forms) (own ∷ parts) = node_of rules words f own ∷ nodes_with rules words forms parts

-- the nodes of base forms in preorder; the first has the number i
abbrev pub nodes_from : List Name → List Name → ℕ → List BaseForm → List Node
nodes_from rules words i [] = []
nodes_from rules words i (f ∷ forms) =
    node_of rules words f (take (part_count f) (roots (suc i) (map part_count forms))) ∷ nodes_from rules words (suc i) forms
