-- Names that what is printed of a grammar means the same by: each stands for what it was printed for.
use Rattle.std.specs.Prelude.{◌≡◌, ◌≤◌, ℕ, false, List, [], ◌∷◌, ◌++◌, length, map, Option, Some, None}
use Rattle.std.specs.List.{list_any, AllByRecursion}
use Rattle.std.specs.Str.{chars, encode_utf8_all}
use Rattle.pg_pred.specs.Offer.{Offer}
use Rattle.pg_grammar_form.specs.Names as names
use Rattle.pg_grammar_form.specs.Names.{name_at}
use Rattle.pg_grammar_form.specs.Preorder.{SpellForms}
use Rattle.pg_grammar_form.specs.Forms.{BaseForm, part_count, lacks_alternative}
use Rattle.pg_grammar_form.specs.Classes.{IsExpression}
use Rattle.pg_grammar_value.specs.Grammar.{Grammar, IsGrammar, forms_of}
use Rattle.pg_grammar_form.specs.declared.class_item.ClassItem.{ClassItem}
use Rattle.pg_grammar_form.specs.declared.word_item.WordItem.{WordItem}
use Rattle.pg_grammar_form.specs.declared.operators_item.OperatorsItem.{OperatorsItem}
use Rattle.pg_grammar_form.specs.declared.class.ClassPart.{ClassPart}
use Rattle.pg_grammar_form.specs.declared.class.ClassPart.TheVariants as part
use Rattle.pg_grammar_form.specs.declared.form.Form.TheVariants as form
use Rattle.pg_grammar_form.specs.declared.form.Leaf.TheVariants as leaf
use Rattle.pg_grammar_form.specs.declared.form.Around.TheVariants as around
use Rattle.pg_grammar_form.specs.declared.used.BuilderUse.{BuilderUse}
use Rattle.pg_grammar_form.specs.declared.used.ChainBuilder.{ChainBuilder}
use Rattle.pg_file_print.specs.Canonical.{class_names}
use Rattle.pg_file_meaning.specs.Names.{class_named, builder_named, chain_builder_named}

-- the name that a part is printed with stands for the part, above which class items of these names stand
abbrev pub IsNamed : Offer → (items above : List names.Name) → ClassPart → Type 0
IsNamed offer items above (part.Literal s) = Unit {0}
IsNamed offer items above (part.Range low high) = Unit {0}
IsNamed offer items above (part.Union n) = Unit {0}
IsNamed offer items above part.Complement = Unit {0}
IsNamed offer items above (part.Class k) = class_named offer above (name_at items k) ≡ part.Class k
IsNamed offer items above (part.Predicate used) = class_named offer above (chars used.name) ≡ part.Predicate used

-- a class expression whose names do
pub record IsNamedClass (offer : Offer) (items above : List names.Name) (parts : List ClassPart) : Type 0 where
  pub whole : IsExpression parts
  pub named : AllByRecursion (IsNamed offer items above) parts

-- a builder does
abbrev pub IsNamedBuilder : Offer → BuilderUse → Type 0
IsNamedBuilder offer used = builder_named offer (chars used.name) ≡ used

-- a chain's builder does, with its symbol
abbrev pub IsNamedChain : Offer → ChainBuilder → Type 0
IsNamedChain offer used = chain_builder_named offer (chars used.name) (chars used.symbol) ≡ used

-- the names in a base form do, and a symbol is the text of its characters
abbrev pub IsNamedForm : Offer → (items above : List names.Name) → BaseForm → Type 0
IsNamedForm offer items above (form.Leaf (leaf.Satisfy class)) = IsNamedClass offer items above class
IsNamedForm offer items above (form.Leaf (leaf.NotFollowedBy class)) = IsNamedClass offer items above class
IsNamedForm offer items above (form.Leaf (leaf.Declare class)) = IsNamedClass offer items above class
IsNamedForm offer items above (form.Chain side used operand separator) = IsNamedChain offer used
IsNamedForm offer items above (form.Expression builders part) = IsNamedBuilder offer builders.«infix» × IsNamedBuilder offer builders.prefix × IsNamedBuilder offer builders.postfix
IsNamedForm offer items above (form.Around (around.Build used symbol) part) = IsNamedBuilder offer used × (encode_utf8_all (chars symbol) ≡ symbol)
IsNamedForm offer items above _ = Unit {0}

-- base forms of so many whole bodies, whose choices have an alternative and whose names do
pub record AreNamedBodies (offer : Offer) (items above : List names.Name) (count : ℕ) (forms : List BaseForm) : Type 0 where
  pub whole : SpellForms count (map part_count forms)
  pub alternatives : list_any lacks_alternative forms ≡ false
  pub named : AllByRecursion (IsNamedForm offer items above) forms

-- ---- a grammar

-- the names in class items do, each above which those of these names stand
abbrev pub AreNamedClasses : Offer → (items above : List names.Name) → List ClassItem → Type 0
AreNamedClasses offer items above [] = Unit {0}
AreNamedClasses offer items above (item ∷ others) = IsNamedClass offer items above item.class × AreNamedClasses offer items (above ++ item.name ∷ []) others

abbrev pub AreNamedWords : Offer → List names.Name → List WordItem → Type 0
AreNamedWords offer items [] = Unit {0}
AreNamedWords offer items (item ∷ others) = (IsNamedClass offer items items item.head × IsNamedClass offer items items item.rest) × AreNamedWords offer items others

abbrev pub AreNamedOperators : Offer → List names.Name → Option OperatorsItem → Type 0
AreNamedOperators offer items None = Unit {0}
AreNamedOperators offer items (Some item) = IsNamedClass offer items items item.class × IsNamedClass offer items items item.gap × item.max ≤ 64

-- the names in a grammar do
pub record IsNamedGrammar (offer : Offer) (g : Grammar) : Type 0 where
  pub sound : IsGrammar g
  pub classes : AreNamedClasses offer (class_names g) [] g.classes
  pub words : AreNamedWords offer (class_names g) g.words
  pub operators : AreNamedOperators offer (class_names g) g.operators
  pub forms : AreNamedBodies offer (class_names g) (class_names g) (length g.rules) (forms_of g)
