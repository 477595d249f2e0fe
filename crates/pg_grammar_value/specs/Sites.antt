-- The class expressions of a grammar, by where they stand.
use Rattle.std.specs.Prelude.{List, [], map, unwrap_or, slice_get}
use Rattle.std.specs.Option.{option_map}
use Rattle.pg_grammar_form.specs.Contents.{class_parts}
use Rattle.pg_grammar_form.specs.declared.class.ClassPart.{ClassPart}
use Rattle.pg_grammar_form.specs.declared.operators_item.OperatorsItem.{OperatorsItem}
use Rattle.pg_grammar_classes.specs.Contents.{Sets, AreContentSets, word_head, word_rest}
use Rattle.pg_grammar_classes.specs.declared.site.ClassSite.{ClassSite}
use Rattle.pg_grammar_classes.specs.declared.site.ClassSite.TheVariants as site
use Rattle.pg_grammar_value.specs.Grammar.{Grammar}

-- the class expression of the operators
abbrev pub operator_class : OperatorsItem → List ClassPart
operator_class item = item.class

-- the class expression of the gaps after operators
abbrev pub operator_gap : OperatorsItem → List ClassPart
operator_gap item = item.gap

-- the parts of the class expression at this site, or none
abbrev pub class_at : Grammar → ClassSite → List ClassPart
class_at g (site.Head word) = unwrap_or (option_map word_head (slice_get g.words word)) []
class_at g (site.Rest word) = unwrap_or (option_map word_rest (slice_get g.words word)) []
class_at g site.Operators = unwrap_or (option_map operator_class g.operators) []
class_at g site.Gap = unwrap_or (option_map operator_gap g.operators) []
class_at g (site.Node node) = unwrap_or (option_map class_parts (slice_get g.nodes node)) []

-- the sets are those of the grammar's class expressions
abbrev pub AreGrammarSets : Grammar → Sets → Type 0
AreGrammarSets g s = AreContentSets g.classes g.words g.operators (map class_parts g.nodes) s
