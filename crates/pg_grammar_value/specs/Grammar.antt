-- A grammar as the definitions see it.
use Rattle.std.specs.Prelude.{◌≡◌, ◌<◌, ◌≤◌, ℕ, Bool, false, not, List, length, map, Option}
use Rattle.std.specs.List.{AllByRecursion, list_any}
use Rattle.std.specs.Option.{option_map_or}
use Rattle.std.specs.Str.{all_scalars}
use Rattle.pg_grammar_form.specs.Preorder.{roots}
use Rattle.pg_grammar_form.specs.Names.{Name, AreDistinct}
use Rattle.pg_grammar_form.specs.Contents.{string_in}
use Rattle.pg_grammar_form.specs.Forms.{BaseForm, Node, node_part_count, form_of, has_bad_literal, has_unknown_class, lacks_alternative, InPreorder, NamesRule, NamesWord}
use Rattle.pg_grammar_form.specs.ClassItems.{AreClasses}
use Rattle.pg_grammar_form.specs.WordItems.{word_name, AreWords}
use Rattle.pg_grammar_form.specs.Operators.{Operator, IsOperator}
use Rattle.pg_grammar_form.specs.OperatorsItems.{lacks_operators, AreOperators}
use Rattle.pg_grammar_form.specs.declared.class_item.ClassItem.{ClassItem}
use Rattle.pg_grammar_value.specs.declared.grammar.Rule.{Rule}
use Rattle.pg_grammar_form.specs.declared.operators_item.OperatorsItem.{OperatorsItem}
use Rattle.pg_grammar_form.specs.declared.word_item.WordItem.{WordItem}

-- class items, word items, initial declarations, nodes and rules, each in file order; the operators item, if there is one; and the number of the
-- start rule
pub record Grammar : Type 0 where
  pub classes : List ClassItem
  pub words : List WordItem
  pub operators : Option OperatorsItem
  pub initials : List Operator
  pub nodes : List Node
  pub rules : List Rule
  pub start : ℕ

-- the name of a rule
abbrev pub rule_name : Rule → Name
rule_name rule = rule.name

-- the number of the node that is its body
abbrev pub rule_body : Rule → ℕ
rule_body rule = rule.body

-- the names of the rules, in file order
abbrev pub rule_names : Grammar → List Name
rule_names g = map rule_name g.rules

-- the names of the word items, in file order
abbrev pub word_names : Grammar → List Name
word_names g = map word_name g.words

-- the base forms of the nodes, with names in place of numbers
abbrev pub forms_of : Grammar → List BaseForm
forms_of g = map (form_of (rule_names g) (word_names g)) g.nodes

-- whether a string has a number that isn't a character; never the case, since strings consist of characters
abbrev pub is_misspelled : BaseForm → Bool
is_misspelled form = option_map_or (λ text. not (all_scalars text)) (string_in form) false

-- every number names something, and every part is one that a file may have
pub record IsGrammar (g : Grammar) : Type 0 where
  -- the parts of a node are the next whole forms, and the forms that aren't parts are the rules' bodies
  pub preorder : InPreorder 0 g.nodes
  pub bodies : map rule_body g.rules ≡ roots 0 (map node_part_count g.nodes)
  pub named : AllByRecursion (NamesRule (length g.rules)) g.nodes
  pub words_named : AllByRecursion (NamesWord (length g.words)) g.nodes
  pub start : g.start < length g.rules
  pub distinct : AreDistinct (rule_names g)
  pub classes : AreClasses g.classes
  pub words : AreWords (length g.classes) g.words
  pub operators : AreOperators (length g.classes) g.operators
  pub initials : AllByRecursion IsOperator g.initials
  -- a grammar that reads or declares operators has an operators item
  pub operators_there : lacks_operators g.operators g.initials (forms_of g) ≡ false
  pub classes_named : list_any (has_unknown_class (length g.classes)) (forms_of g) ≡ false
  pub literals : list_any has_bad_literal (forms_of g) ≡ false
  pub alternatives : list_any lacks_alternative (forms_of g) ≡ false
  pub spelled : list_any is_misspelled (forms_of g) ≡ false
  pub few_rules : length g.rules ≤ 512
  pub few_nodes : length g.nodes ≤ 8192
