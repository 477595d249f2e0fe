-- The class expressions of a grammar beside its class items.
use Rattle.std.specs.Prelude.{List, [], ◌∷◌, map, Option, Some, None, slice_get}
use Rattle.pg_class.specs.Ranges.{Range}
use Rattle.pg_grammar_form.specs.declared.class.ClassPart.{ClassPart}
use Rattle.pg_grammar_form.specs.declared.class_item.ClassItem.{ClassItem}
use Rattle.pg_grammar_form.specs.declared.operators_item.OperatorsItem.{OperatorsItem}
use Rattle.pg_grammar_form.specs.declared.word_item.WordItem.{WordItem}
use Rattle.pg_grammar_classes.specs.Sets.{AreSetsOf}
use Rattle.pg_grammar_classes.specs.declared.site.ClassSite.{ClassSite}
use Rattle.pg_grammar_classes.specs.declared.site.ClassSite.TheVariants.{Head, Rest, Operators, Gap, Node}

-- the sets of the heads and rests of words, of operators and gaps, and of forms
pub record Sets : Type 0 where
  pub heads : List (List Range)
  pub rests : List (List Range)
  pub operators : List (List Range)
  pub forms : List (List Range)

-- the class expression of a word item's head
abbrev pub word_head : WordItem → List ClassPart
word_head item = item.head

-- the class expression of a word item's rest
abbrev pub word_rest : WordItem → List ClassPart
word_rest item = item.rest

-- the class expressions of operators and of the gaps after them
abbrev pub operator_expressions : Option OperatorsItem → List (List ClassPart)
operator_expressions None = []
operator_expressions (Some item) = item.class ∷ item.gap ∷ []

-- the sets are those of these word items, of this operators item if there is one, and of the expressions of forms
pub record AreContentSets (items : List ClassItem) (words : List WordItem) (operators_item : Option OperatorsItem) (expressions : List (List ClassPart)) (s : Sets) : Type 0 where
  pub heads : AreSetsOf items (map word_head words) s.heads
  pub rests : AreSetsOf items (map word_rest words) s.rests
  pub operators : AreSetsOf items (operator_expressions operators_item) s.operators
  pub forms : AreSetsOf items expressions s.forms

-- the set of the expression at this site, if there is one
abbrev pub set_at : Sets → ClassSite → Option (List Range)
set_at s (Head word) = slice_get s.heads word
set_at s (Rest word) = slice_get s.rests word
set_at s Operators = slice_get s.operators 0
set_at s Gap = slice_get s.operators 1
set_at s (Node node) = slice_get s.forms node
