-- What a registry has to offer for a grammar, and the class expressions of the grammar.
use Rattle.std.specs.Prelude.{◌≡◌, ℕ, List, Option, Some, None, option_map, slice_get}
use Rattle.std.specs.List.{AllByRecursion}
use Rattle.pg_pred.specs.Offer.{Offer, predicate_class, builder_shape}
use Rattle.pg_grammar_form.specs.Forms.{Node}
use Rattle.pg_grammar_form.specs.ClassItems.{item_class}
use Rattle.pg_grammar_form.specs.Chains.{with_symbol}
use Rattle.pg_grammar_form.specs.Contents.{class_parts, builders_in, chain_builder_in}
use Rattle.pg_grammar_value.specs.Grammar.{Grammar}
use Rattle.pg_grammar_form.specs.declared.class.ClassPart.{ClassPart}
use Rattle.pg_grammar_form.specs.declared.class.ClassPart.TheVariants as part
use Rattle.pg_grammar_form.specs.declared.class_item.ClassItem.{ClassItem}
use Rattle.pg_grammar_form.specs.declared.operators_item.OperatorsItem.{OperatorsItem}
use Rattle.pg_grammar_form.specs.declared.used.BuilderUse.{BuilderUse}
use Rattle.pg_grammar_form.specs.declared.used.ChainBuilder.{ChainBuilder}
use Rattle.pg_grammar_form.specs.declared.word_item.WordItem.{WordItem}

-- the predicate that a part names is offered, with the same class
abbrev pub PartFits : Offer → ClassPart → Type 0
PartFits offer (part.Literal s) = Unit {0}
PartFits offer (part.Range low high) = Unit {0}
PartFits offer (part.Union n) = Unit {0}
PartFits offer part.Complement = Unit {0}
PartFits offer (part.Class k) = Unit {0}
PartFits offer (part.Predicate used) = predicate_class offer used.name ≡ Some used.class

-- each predicate that an expression names is offered, with the same class
abbrev pub ClassFits : Offer → List ClassPart → Type 0
ClassFits offer class = AllByRecursion (PartFits offer) class

-- a builder that is used is offered, with the same shape
abbrev pub BuilderFits : Offer → BuilderUse → Type 0
BuilderFits offer used = builder_shape offer used.name ≡ Some used.shape

-- the builder of a chain is offered, and has the same shape with the chain's symbol
abbrev pub ChainFits : Offer → Option ChainBuilder → Type 0
ChainFits offer None = Unit {0}
ChainFits offer (Some used) = option_map (λ shape. with_symbol shape used.symbol) (builder_shape offer used.name) ≡ Some used.shape

-- each of these builders is offered, with the same shape
abbrev pub BuildersFit : Offer → List BuilderUse → Type 0
BuildersFit offer builders = AllByRecursion (BuilderFits offer) builders

-- the predicates and the builders that a node names are offered, with the same classes and shapes
abbrev pub NodeFits : Offer → Node → Type 0
NodeFits offer node = ClassFits offer (class_parts node) × BuildersFit offer (builders_in node) × ChainFits offer (chain_builder_in node)

-- each predicate that a class item names is offered, with the same class
abbrev pub ItemsFit : Offer → List ClassItem → Type 0
ItemsFit offer items = AllByRecursion (λ item. ClassFits offer (item_class item)) items

-- each predicate that a word item names is offered, with the same class
abbrev pub WordFits : Offer → WordItem → Type 0
WordFits offer item = ClassFits offer item.head × ClassFits offer item.rest

-- each predicate that the word items name is offered, with the same class
abbrev pub WordsFit : Offer → List WordItem → Type 0
WordsFit offer words = AllByRecursion (WordFits offer) words

-- each predicate that the operators item names, if there is one, is offered with the same class
abbrev pub OperatorsFit : Offer → Option OperatorsItem → Type 0
OperatorsFit offer None = Unit {0}
OperatorsFit offer (Some item) = ClassFits offer item.class × ClassFits offer item.gap

-- each predicate and builder that the nodes name is offered, with the same class or shape
abbrev pub NodesFit : Offer → List Node → Type 0
NodesFit offer nodes = AllByRecursion (NodeFits offer) nodes

-- each predicate and builder that the grammar names is offered, with the same class or shape
pub record Fits (offer : Offer) (g : Grammar) : Type 0 where
  pub classes : ItemsFit offer g.classes
  pub words : WordsFit offer g.words
  pub operators : OperatorsFit offer g.operators
  pub nodes : NodesFit offer g.nodes

-- the class expression belongs to a class item, a word item, the operators item or a node
pub data IsClassIn (g : Grammar) : List ClassPart → Type 0 where
  in_item : (k : ℕ) {item : ClassItem} → slice_get g.classes k ≡ Some item → IsClassIn g (item_class item)
  in_head : (k : ℕ) {item : WordItem} → slice_get g.words k ≡ Some item → IsClassIn g item.head
  in_rest : (k : ℕ) {item : WordItem} → slice_get g.words k ≡ Some item → IsClassIn g item.rest
  in_operators : {item : OperatorsItem} → g.operators ≡ Some item → IsClassIn g item.class
  in_gap : {item : OperatorsItem} → g.operators ≡ Some item → IsClassIn g item.gap
  in_node : (p : ℕ) {node : Node} → slice_get g.nodes p ≡ Some node → IsClassIn g (class_parts node)
