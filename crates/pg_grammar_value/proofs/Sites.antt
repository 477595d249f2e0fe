-- What stands in a grammar has its set.
use Rattle.std.proofs.Common.{◌≡◌, ℕ, false, List, [], ◌∷◌, map, Option, Some, None, slice_get, unwrap_or, refl, ap, subst, ◌∙◌}
use Rattle.std.proofs.lemmas.Option.{slice_get-map}
use Rattle.std.specs.Char.{IsScalar}
use Rattle.std.specs.Option.{option_map}
use Rattle.pg_class.specs.Ranges.{Range, has}
use Rattle.pg_grammar_form.specs.ClassItems.{has_character}
use Rattle.pg_grammar_form.specs.Contents.{class_parts}
use Rattle.pg_grammar_form.specs.Forms.{Node, form_of}
use Rattle.pg_grammar_form.specs.Names.{Name}
use Rattle.pg_grammar_form.specs.declared.class.ClassPart.{ClassPart}
use Rattle.pg_grammar_form.specs.declared.operators_item.OperatorsItem.{OperatorsItem}
use Rattle.pg_grammar_form.specs.declared.word_item.WordItem.{WordItem}
use Rattle.pg_grammar_classes.specs.Contents.{Sets, operator_expressions, set_at, word_head, word_rest}
use Rattle.pg_grammar_classes.specs.Sets.{IsSetOf}
use Rattle.pg_grammar_classes.specs.declared.site.ClassSite.{ClassSite}
use Rattle.pg_grammar_classes.specs.declared.site.ClassSite.TheVariants as site
use Rattle.pg_grammar_classes.proofs.Contents.{found_at, none_at}
use Rattle.pg_grammar_value.specs.Grammar.{Grammar}
use Rattle.pg_grammar_value.specs.Sites.{class_at, operator_class, operator_gap, AreGrammarSets}
use Rattle.pg_grammar_value.proofs.Items.{class_parts-form_of}

-- ---- expressions in lists

-- the first expression of an operators item is that of operators, the second that of gaps
operators_first : (o : Option OperatorsItem) → unwrap_or (slice_get (operator_expressions o) 0) [] ≡ unwrap_or (option_map operator_class o) []
operators_first None = refl
operators_first (Some item) = refl

gap_second : (o : Option OperatorsItem) → unwrap_or (slice_get (operator_expressions o) 1) [] ≡ unwrap_or (option_map operator_gap o) []
gap_second None = refl
gap_second (Some item) = refl

-- one of several is that of an element
of_element : {X : Type 0} (f : X → List ClassPart) (xs : List X) (k : ℕ) → unwrap_or (slice_get (map f xs) k) [] ≡ unwrap_or (option_map f (slice_get xs k)) []
of_element f xs k = ap (λ o. unwrap_or o []) (slice_get-map f xs k)

-- ---- what is asked of a grammar

-- what stands there has the characters of its set
site_has : (g : Grammar) (s : Sets) (where_it_stands : ClassSite) (own : List Range) → AreGrammarSets g s → set_at s where_it_stands ≡ Some own
    → IsSetOf g.classes (class_at g where_it_stands) own
site_has g s (site.Head word) own are at =
    subst (λ e. IsSetOf g.classes e own) (of_element word_head g.words word) (found_at g.classes (map word_head g.words) s.heads word own are.heads at)
site_has g s (site.Rest word) own are at =
    subst (λ e. IsSetOf g.classes e own) (of_element word_rest g.words word) (found_at g.classes (map word_rest g.words) s.rests word own are.rests at)
site_has g s site.Operators own are at =
    subst (λ e. IsSetOf g.classes e own) (operators_first g.operators) (found_at g.classes (operator_expressions g.operators) s.operators 0 own are.operators at)
site_has g s site.Gap own are at =
    subst (λ e. IsSetOf g.classes e own) (gap_second g.operators) (found_at g.classes (operator_expressions g.operators) s.operators 1 own are.operators at)
site_has g s (site.Node node) own are at =
    subst (λ e. IsSetOf g.classes e own) (of_element class_parts g.nodes node) (found_at g.classes (map class_parts g.nodes) s.forms node own are.forms at)

-- nothing stands where there is no set
site_empty : (g : Grammar) (s : Sets) (where_it_stands : ClassSite) → AreGrammarSets g s → set_at s where_it_stands ≡ None → class_at g where_it_stands ≡ []
site_empty g s (site.Head word) are at = subst (λ e. e ≡ []) (of_element word_head g.words word) (none_at g.classes (map word_head g.words) s.heads word are.heads at)
site_empty g s (site.Rest word) are at = subst (λ e. e ≡ []) (of_element word_rest g.words word) (none_at g.classes (map word_rest g.words) s.rests word are.rests at)
site_empty g s site.Operators are at = subst (λ e. e ≡ []) (operators_first g.operators) (none_at g.classes (operator_expressions g.operators) s.operators 0 are.operators at)
site_empty g s site.Gap are at = subst (λ e. e ≡ []) (gap_second g.operators) (none_at g.classes (operator_expressions g.operators) s.operators 1 are.operators at)
site_empty g s (site.Node node) are at = subst (λ e. e ≡ []) (of_element class_parts g.nodes node) (none_at g.classes (map class_parts g.nodes) s.forms node are.forms at)

-- a character is asked of the set
pub asked_of_set : (g : Grammar) (s : Sets) (where_it_stands : ClassSite) (own : List Range) (c : ℕ) → AreGrammarSets g s → set_at s where_it_stands ≡ Some own
    → IsScalar c → has own c ≡ has_character g.classes (class_at g where_it_stands) c
asked_of_set g s where_it_stands own c are at scalar = site_has g s where_it_stands own are at c scalar

-- and where there is none, no character is there
pub asked_of_none : (g : Grammar) (s : Sets) (where_it_stands : ClassSite) (c : ℕ) → AreGrammarSets g s → set_at s where_it_stands ≡ None
    → false ≡ has_character g.classes (class_at g where_it_stands) c
asked_of_none g s where_it_stands c are at = rw (site_empty g s where_it_stands are at) refl

-- ---- what is known where

-- the class expression of a node
pub class_at_node : (g : Grammar) (p : ℕ) (node : Node) → slice_get g.nodes p ≡ Some node → class_at g (site.Node p) ≡ class_parts node
class_at_node g p node at = ap (λ o. unwrap_or (option_map class_parts o) []) at

-- those of a word item
pub class_at_head : (g : Grammar) (w : ℕ) (item : WordItem) → slice_get g.words w ≡ Some item → class_at g (site.Head w) ≡ item.head
class_at_head g w item at = ap (λ o. unwrap_or (option_map word_head o) []) at

pub class_at_rest : (g : Grammar) (w : ℕ) (item : WordItem) → slice_get g.words w ≡ Some item → class_at g (site.Rest w) ≡ item.rest
class_at_rest g w item at = ap (λ o. unwrap_or (option_map word_rest o) []) at

-- those of the operators item
pub class_at_operators : (g : Grammar) (item : OperatorsItem) → g.operators ≡ Some item → class_at g site.Operators ≡ item.class
class_at_operators g item at = ap (λ o. unwrap_or (option_map operator_class o) []) at

pub class_at_gap : (g : Grammar) (item : OperatorsItem) → g.operators ≡ Some item → class_at g site.Gap ≡ item.gap
class_at_gap g item at = ap (λ o. unwrap_or (option_map operator_gap o) []) at

-- the nodes of base forms have their class expressions
pub nodes_classes : (rules words : List Name) (nodes : List Node) → map class_parts (map (form_of rules words) nodes) ≡ map class_parts nodes
nodes_classes rules words [] = refl
nodes_classes rules words (n ∷ nodes) = ap (λ e. e ∷ map class_parts (map (form_of rules words) nodes)) (class_parts-form_of rules words n) ∙ ap (λ es. class_parts n ∷ es) (nodes_classes rules words nodes)
