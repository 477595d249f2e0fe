-- The items that are printed of a grammar whose parts a file may have stand in an order in which a file may have them.
use Rattle.std.proofs.Common.{◌≡◌, false, List, [], ◌∷◌, ◌++◌, map, Option, Some, None, refl, sym, ap, subst, ◌∙◌, append_assoc}
use Rattle.std.proofs.lemmas.List.{map-append}
use Rattle.std.specs.List.{AllByRecursion}
use Rattle.std.specs.Str.{bytes_eq}
use Rattle.pg_pred.specs.Offer.{Offer}
use Rattle.pg_grammar_form.specs.Names as names
use Rattle.pg_grammar_form.specs.Names.{has_name, name_at, AreDistinct}
use Rattle.pg_grammar_form.specs.ClassItems.{item_name}
use Rattle.pg_grammar_form.specs.WordItems.{word_name}
use Rattle.pg_grammar_form.specs.Operators.{Operator}
use Rattle.pg_grammar_value.specs.Grammar.{Grammar, rule_names, forms_of}
use Rattle.pg_grammar.specs.Made.{Made, nothing_made, made_words}
use Rattle.pg_grammar_form.specs.declared.class_item.ClassItem.{ClassItem}
use Rattle.pg_grammar_form.specs.declared.operators_item.OperatorsItem.{OperatorsItem}
use Rattle.pg_grammar_form.specs.declared.word_item.WordItem.{WordItem}
use Rattle.pg_file_items.specs.Tree.{Value, Item, Start, Rule_item}
use Rattle.pg_file_items.specs.Heads.{class_parts, heads}
use Rattle.pg_file_meaning.specs.Names.{ClassIsKnown, FormIsKnown}
use Rattle.pg_file_making.specs.Spells.{made_classes, with_item, with_items, AreInOrder}
use Rattle.pg_file_print.specs.Canonical.{class_names, class_from, values_of, class_item, word_item, operators_items, table_item, rule_items, items_of}
use Rattle.pg_file.proofs.AgainLemmas.PrintedNames.{IsNamedGrammar}
use Rattle.pg_file.proofs.AgainLemmas.ItemsAgain.{classes_made, words_made, operators_made, table_made}
use Rattle.pg_file.proofs.AgainLemmas.WritableClasses.{IsWritableExpression, printed_class_writable}
use Rattle.pg_file.proofs.AgainLemmas.WritableValues.{IsWritableValue, printed_values_writable}
use Rattle.pg_file.proofs.AgainLemmas.WritableItems.{AreWritableClassItems, IsWritableWordItem, AreWritableOperators, IsWritableGrammar}

-- ---- names that are new

-- of distinct names, none stands before
new_name : (before : List names.Name) (s : names.Name) (after : List names.Name) → AreDistinct (before ++ s ∷ after) → has_name before s ≡ false
new_name [] s after h = refl
new_name (other ∷ before) s after h = let others = new_name before s after h.1 in rw (differs before h.0, others) refl
  where
    differs : (names : List names.Name) → AllByRecursion (λ t. bytes_eq other t ≡ false) (names ++ s ∷ after) → bytes_eq other s ≡ false
    differs [] k = k.0
    differs (t ∷ names) k = differs names k.1

-- ---- items after others

both_ordered : (offer : Offer) (made : Made) (items others : List Item) → AreInOrder offer made items → AreInOrder offer (with_items offer made items) others → AreInOrder offer made (items ++ others)
both_ordered offer made [] others h e = e
both_ordered offer made (item ∷ items) others h e = (h.0, h.1, both_ordered offer (with_item offer made item) items others h.2 e)

-- the names in a class expression that is printed are known
class_known : (offer : Offer) (all above : List names.Name) (made : Made) (parts : _) → made_classes made ≡ above → IsWritableExpression offer all above parts
    → ClassIsKnown offer (made_classes made) (class_parts (class_from all parts))
class_known offer all above made parts e h = subst (λ (ns : List names.Name). ClassIsKnown offer ns (class_parts (class_from all parts))) (sym e) (printed_class_writable offer all above parts h.writable).known

classes_ordered : (offer : Offer) (all above : List names.Name) (made : Made) (items : List ClassItem) → made_classes made ≡ above → AreWritableClassItems offer all above items
    → AreInOrder offer made (map (class_item all) items)
classes_ordered offer all above made [] e h = tt
classes_ordered offer all above made (item ∷ items) e h =
    let named : made_classes (with_item offer made (class_item all item)) ≡ above ++ item.name ∷ [] = map-append item_name made.classes _ ∙ ap (λ (ns : List names.Name). ns ++ item.name ∷ []) e in (
      class_known offer all above made item.class e h.0.expression,
      (subst (λ (ns : List names.Name). has_name ns item.name ≡ false) (sym e) h.0.new, h.0.no_predicate),
      classes_ordered offer all (above ++ item.name ∷ []) (with_item offer made (class_item all item)) items named h.1,
    )

words_ordered : (offer : Offer) (all before : List names.Name) (made : Made) (items : List WordItem) → made_classes made ≡ all → made_words made ≡ before → AreDistinct (before ++ map word_name items)
    → AllByRecursion (IsWritableWordItem offer all) items → AreInOrder offer made (map (word_item all) items)
words_ordered offer all before made [] e w d h = tt
words_ordered offer all before made (item ∷ items) e w d h =
    let named : made_words (with_item offer made (word_item all item)) ≡ before ++ item.name ∷ [] = map-append word_name made.words _ ∙ ap (λ (ns : List names.Name). ns ++ item.name ∷ []) w in
    let distinct = subst AreDistinct (sym (append_assoc before (item.name ∷ []) (map word_name items))) d in (
      (class_known offer all all made item.head e h.0.first, class_known offer all all made item.rest e h.0.after),
      subst (λ (ns : List names.Name). has_name ns item.name ≡ false) (sym w) (new_name before item.name (map word_name items) d),
      words_ordered offer all (before ++ item.name ∷ []) (with_item offer made (word_item all item)) items e named distinct h.1,
    )

operators_ordered : (offer : Offer) (all : List names.Name) (made : Made) (operators : Option OperatorsItem) → made_classes made ≡ all → made.operators ≡ None → AreWritableOperators offer all operators
    → AreInOrder offer made (operators_items all operators)
operators_ordered offer all made None e none h = tt
operators_ordered offer all made (Some item) e none h = ((class_known offer all all made item.class e h.symbols, class_known offer all all made item.gap e h.blanks), none, tt)

table_ordered : (offer : Offer) (made : Made) (table : List Operator) → AreInOrder offer made (map table_item table)
table_ordered offer made [] = tt
table_ordered offer made (o ∷ table) = (tt, tt, table_ordered offer (with_item offer made (table_item o)) table)

rules_ordered : (offer : Offer) (all before : List names.Name) (made : Made) (rules : List names.Name) (values : List Value) → made_classes made ≡ all → made.names ≡ before → AreDistinct (before ++ rules)
    → AllByRecursion (IsWritableValue offer all) values → AreInOrder offer made (rule_items rules values)
rules_ordered offer all before made [] values e w d h = tt
rules_ordered offer all before made (s ∷ rules) [] e w d h = tt
rules_ordered offer all before made (s ∷ rules) (v ∷ values) e w d h =
    let distinct = subst AreDistinct (sym (append_assoc before (s ∷ []) rules)) d in (
      subst (λ (ns : List names.Name). AllByRecursion (FormIsKnown offer ns) (heads v)) (sym e) h.0.known,
      subst (λ (ns : List names.Name). has_name ns s ≡ false) (sym w) (new_name before s rules d),
      rules_ordered offer all (before ++ s ∷ []) (with_item offer made (Rule_item s v)) rules values e (ap (λ (ns : List names.Name). ns ++ s ∷ []) w) distinct h.1,
    )

-- ---- all items

pub grammar_ordered : (offer : Offer) (g : Grammar) → IsNamedGrammar offer g → IsWritableGrammar offer g → AreInOrder offer nothing_made (items_of g)
grammar_ordered offer g named h =
    let all : List names.Name = class_names g in
    let values : List Value = values_of all (forms_of g) in
    let start : names.Name = name_at (rule_names g) g.start in
    let rules : List Item = Start start ∷ rule_items (rule_names g) values in
    let table : List Item = map table_item g.initials in
    let operators : List Item = operators_items all g.operators in
    let words : List Item = map (word_item all) g.words in
    let classes : List Item = map (class_item all) g.classes in
    let m1 : Made = record nothing_made { classes = g.classes } in
    let m2 : Made = record m1 { words = g.words } in
    let m3 : Made = record m2 { operators = g.operators } in
    let m4 : Made = record m3 { initials = g.initials } in
    let m5 : Made = record m4 { start = Some start } in
    let sound = named.sound in
    let last : AreInOrder offer m4 rules = (tt, refl, rules_ordered offer all [] m5 (rule_names g) values refl refl sound.distinct (printed_values_writable offer all (forms_of g) h.bodies)) in
    let from_table : AreInOrder offer m3 (table ++ rules) =
    both_ordered offer m3 table rules (table_ordered offer m3 g.initials) (subst (λ (m : Made). AreInOrder offer m rules) (sym (table_made offer m3 g.initials sound.initials)) last) in
    let from_operators : AreInOrder offer m2 (operators ++ (table ++ rules)) =
    both_ordered offer m2 operators (table ++ rules) (operators_ordered offer all m2 g.operators refl refl h.operators_item)
    (subst (λ (m : Made). AreInOrder offer m (table ++ rules)) (sym (operators_made offer all m2 g.operators refl named.operators refl)) from_table) in
    let from_words : AreInOrder offer m1 (words ++ (operators ++ (table ++ rules))) =
    both_ordered offer m1 words (operators ++ (table ++ rules)) (words_ordered offer all [] m1 g.words refl refl sound.words.distinct h.word_items)
    (subst (λ (m : Made). AreInOrder offer m (operators ++ (table ++ rules))) (sym (words_made offer all m1 g.words refl named.words)) from_operators) in
    both_ordered offer nothing_made classes (words ++ (operators ++ (table ++ rules))) (classes_ordered offer all [] nothing_made g.classes refl h.class_items)
    (subst (λ (m : Made). AreInOrder offer m (words ++ (operators ++ (table ++ rules)))) (sym (classes_made offer all [] nothing_made g.classes refl named.classes)) from_words)
