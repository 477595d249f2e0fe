-- The items that are printed of a grammar make it again.
use Rattle.std.proofs.Common.{◌≡◌, ◌≤◌, ℕ, List, [], ◌∷◌, ◌++◌, Option, Some, None, length, map, refl, sym, ap, subst, ◌∙◌, append_assoc, arith}
use Rattle.std.proofs.lemmas.List.{append-nil, length-map, map-append}
use Rattle.std.proofs.lemmas.Fmt.{decimal_is_IsNumeral}
use Rattle.std.specs.List.{AllByRecursion}
use Rattle.std.specs.Fmt.{decimal}
use Rattle.pg_pred.specs.Offer.{Offer}
use Rattle.pg_grammar_form.specs.Names as names
use Rattle.pg_grammar_form.specs.Names.{name_at}
use Rattle.pg_grammar_form.specs.ClassItems.{item_name}
use Rattle.pg_grammar_form.specs.Operators.{Operator, IsOperator}
use Rattle.pg_grammar.specs.Made.{Made, nothing_made, with_class, with_rule, Says}
use Rattle.pg_grammar_value.specs.Grammar.{Grammar, rule_name, rule_names, forms_of}
use Rattle.pg_grammar_form.specs.declared.class.ClassPart.{ClassPart}
use Rattle.pg_grammar_form.specs.declared.class_item.ClassItem.{ClassItem}
use Rattle.pg_grammar_form.specs.declared.operators_item.OperatorsItem.{OperatorsItem}
use Rattle.pg_grammar_form.specs.declared.word_item.WordItem.{WordItem}
use Rattle.pg_file_items.specs.Tree.{Value, Item, Start}
use Rattle.pg_file_items.specs.Proper.{value_of}
use Rattle.pg_file_items.specs.Joined.{joined}
use Rattle.pg_file_meaning.specs.Meaning.{Body, class_meant, meant}
use Rattle.pg_file_making.specs.Spells.{made_classes, with_item, with_items}
use Rattle.pg_file_print.specs.Canonical.{class_names, class_from, values_of, class_item, word_item, operators_items, table_item, rule_items, items_of}
use Rattle.pg_file.proofs.AgainLemmas.PrintedNames.{AreNamedClasses, AreNamedWords, AreNamedOperators, IsNamedGrammar}
use Rattle.pg_file_print.proofs.PrinterLemmas.Grammars.{grammar_bodies}
use Rattle.pg_file.proofs.AgainLemmas.ClassesAgain.{class_again}
use Rattle.pg_file.proofs.AgainLemmas.BodiesAgain.{bodies_again}

pub items_both : (offer : Offer) (made : Made) (items others : List Item) → with_items offer made (items ++ others) ≡ with_items offer (with_items offer made items) others
items_both offer made [] others = refl
items_both offer made (item ∷ items) others = items_both offer (with_item offer made item) items others

-- ---- each group

pub classes_made : (offer : Offer) (all above : List names.Name) (made : Made) (items : List ClassItem) → made_classes made ≡ above → AreNamedClasses offer all above items
    → with_items offer made (map (class_item all) items) ≡ record made { classes = made.classes ++ items }
classes_made offer all above made [] e h = ap (λ (l : List ClassItem). record made { classes = l }) (sym (append-nil made.classes))
classes_made offer all above made (item ∷ items) e h =
    let after : Made = with_class made item.name item.class in
    let same : class_meant offer (made_classes made) (class_from all item.class) ≡ item.class =
    ap (λ (ns : List names.Name). class_meant offer ns (class_from all item.class)) e ∙ class_again offer all above item.class h.0.whole h.0.named in
    let named : made_classes after ≡ above ++ item.name ∷ [] = map-append item_name made.classes (item ∷ []) ∙ ap (λ (ns : List names.Name). ns ++ item.name ∷ []) e in
    ap (λ (class : List ClassPart). with_items offer (with_class made item.name class) (map (class_item all) items)) same
    ∙ classes_made offer all (above ++ item.name ∷ []) after items named h.1
    ∙ ap (λ (l : List ClassItem). record made { classes = l }) (append_assoc made.classes (item ∷ []) items)

pub words_made : (offer : Offer) (all : List names.Name) (made : Made) (items : List WordItem) → made_classes made ≡ all → AreNamedWords offer all items
    → with_items offer made (map (word_item all) items) ≡ record made { words = made.words ++ items }
words_made offer all made [] e h = ap (λ (l : List WordItem). record made { words = l }) (sym (append-nil made.words))
words_made offer all made (item ∷ items) e h =
    let after : Made = record made { words = made.words ++ item ∷ [] } in
    let head : class_meant offer (made_classes made) (class_from all item.head) ≡ item.head =
    ap (λ (ns : List names.Name). class_meant offer ns (class_from all item.head)) e ∙ class_again offer all all item.head h.0.0.whole h.0.0.named in
    let rest : class_meant offer (made_classes made) (class_from all item.rest) ≡ item.rest =
    ap (λ (ns : List names.Name). class_meant offer ns (class_from all item.rest)) e ∙ class_again offer all all item.rest h.0.1.whole h.0.1.named in
    ap (λ (class : List ClassPart). with_items offer (record made { words = made.words ++ record { name = item.name; head = class; rest = class_meant offer (made_classes made) (class_from all item.rest); reserved = item.reserved } ∷ [] }) (map (word_item all) items)) head
    ∙ ap (λ (class : List ClassPart). with_items offer (record made { words = made.words ++ record { name = item.name; head = item.head; rest = class; reserved = item.reserved } ∷ [] }) (map (word_item all) items)) rest
    ∙ words_made offer all after items e h.1
    ∙ ap (λ (l : List WordItem). record made { words = l }) (append_assoc made.words (item ∷ []) items)

-- a number below 2 ^ 64 is written with its digits
number_again : (n : ℕ) → n ≤ 64 → value_of (decimal n) ≡ n
number_again n h = (decimal_is_IsNumeral n (omega (arith, h))).1

pub operators_made : (offer : Offer) (all : List names.Name) (made : Made) (operators : Option OperatorsItem) → made_classes made ≡ all → AreNamedOperators offer all operators → made.operators ≡ None
    → with_items offer made (operators_items all operators) ≡ record made { operators = operators }
operators_made offer all made None e h none = ap (λ (o : Option OperatorsItem). record made { operators = o }) none
operators_made offer all made (Some item) e h none =
    let class : class_meant offer (made_classes made) (class_from all item.class) ≡ item.class =
    ap (λ (ns : List names.Name). class_meant offer ns (class_from all item.class)) e ∙ class_again offer all all item.class h.0.whole h.0.named in
    let gap : class_meant offer (made_classes made) (class_from all item.gap) ≡ item.gap =
    ap (λ (ns : List names.Name). class_meant offer ns (class_from all item.gap)) e ∙ class_again offer all all item.gap h.1.whole h.1.named in
    ap (λ (c : List ClassPart). record made { operators = Some (record { class = c; gap = class_meant offer (made_classes made) (class_from all item.gap); reserved = item.reserved; max = value_of (decimal item.max) }) }) class
    ∙ ap (λ (c : List ClassPart). record made { operators = Some (record { class = item.class; gap = c; reserved = item.reserved; max = value_of (decimal item.max) }) }) gap
    ∙ ap (λ (n : ℕ). record made { operators = Some (record { class = item.class; gap = item.gap; reserved = item.reserved; max = n }) }) (number_again item.max h.2)

pub table_made : (offer : Offer) (made : Made) (table : List Operator) → AllByRecursion IsOperator table
    → with_items offer made (map table_item table) ≡ record made { initials = made.initials ++ table }
table_made offer made [] h = ap (λ (l : List Operator). record made { initials = l }) (sym (append-nil made.initials))
table_made offer made (o ∷ table) h =
    let digit = h.0.digit in
    let after : Made = record made { initials = made.initials ++ o ∷ [] } in
    ap (λ (n : ℕ). with_items offer (record made { initials = made.initials ++ record { role = o.role; precedence = n; symbol = o.symbol } ∷ [] }) (map table_item table)) (number_again o.precedence (omega (arith, digit)))
    ∙ table_made offer after table h.1
    ∙ ap (λ (l : List Operator). record made { initials = l }) (append_assoc made.initials (o ∷ []) table)

pub rules_made : (offer : Offer) (made : Made) (rules : List names.Name) (values : List Value) → length rules ≡ length values
    → with_items offer made (rule_items rules values)
    ≡ record made { names = made.names ++ rules; forms = made.forms ++ joined (map (meant offer (made_classes made)) values) }
rules_made offer made [] [] e =
    ap (λ (l : List names.Name). record made { names = l }) (sym (append-nil made.names))
    ∙ ap (λ (l : Body). record made { names = made.names ++ []; forms = l }) (sym (append-nil made.forms))
rules_made offer made [] (v ∷ values) e = absurd (omega (arith, e))
rules_made offer made (s ∷ rules) [] e = absurd (omega (arith, e))
rules_made offer made (s ∷ rules) (v ∷ values) e =
    let body : Body = meant offer (made_classes made) v in
    rules_made offer (with_rule made s body) rules values (omega (arith, e))
    ∙ ap (λ (l : List names.Name). record made { names = l; forms = (made.forms ++ body) ++ joined (map (meant offer (made_classes made)) values) }) (append_assoc made.names (s ∷ []) rules)
    ∙ ap (λ (l : Body). record made { names = made.names ++ (s ∷ rules); forms = l }) (append_assoc made.forms body (joined (map (meant offer (made_classes made)) values)))

-- ---- all items

-- what the items of a grammar hand in
abbrev made_of : Grammar → Made
made_of g = record { start = Some (name_at (rule_names g) g.start); classes = g.classes; words = g.words; operators = g.operators; initials = g.initials; names = rule_names g; forms = forms_of g }

pub items_made : (offer : Offer) (g : Grammar) → IsNamedGrammar offer g → with_items offer nothing_made (items_of g) ≡ made_of g
items_made offer g h =
    let all : List names.Name = class_names g in
    let values : List Value = values_of all (forms_of g) in
    let rules : List Item = Start (name_at (rule_names g) g.start) ∷ rule_items (rule_names g) values in
    let table : List Item = map table_item g.initials in
    let operators : List Item = operators_items all g.operators in
    let words : List Item = map (word_item all) g.words in
    let classes : List Item = map (class_item all) g.classes in
    let m1 : Made = record nothing_made { classes = g.classes } in
    let m2 : Made = record m1 { words = g.words } in
    let m3 : Made = record m2 { operators = g.operators } in
    let m4 : Made = record m3 { initials = g.initials } in
    let m5 : Made = record m4 { start = Some (name_at (rule_names g) g.start) } in
    let count : length (rule_names g) ≡ length values = length-map g.rules rule_name ∙ sym (grammar_bodies g h.sound).count in
    items_both offer nothing_made classes (words ++ (operators ++ (table ++ rules)))
    ∙ ap (λ (m : Made). with_items offer m (words ++ (operators ++ (table ++ rules)))) (classes_made offer all [] nothing_made g.classes refl h.classes)
    ∙ items_both offer m1 words (operators ++ (table ++ rules))
    ∙ ap (λ (m : Made). with_items offer m (operators ++ (table ++ rules))) (words_made offer all m1 g.words refl h.words)
    ∙ items_both offer m2 operators (table ++ rules)
    ∙ ap (λ (m : Made). with_items offer m (table ++ rules)) (operators_made offer all m2 g.operators refl h.operators refl)
    ∙ items_both offer m3 table rules
    ∙ ap (λ (m : Made). with_items offer m rules) (table_made offer m3 g.initials h.sound.initials)
    ∙ rules_made offer m5 (rule_names g) values count
    ∙ ap (λ (forms : Body). record m5 { names = rule_names g; forms = forms }) (bodies_again offer all all (length g.rules) (forms_of g) h.forms.whole h.forms.alternatives h.forms.named)

pub items_say : (offer : Offer) (g : Grammar) → IsNamedGrammar offer g → Says (with_items offer nothing_made (items_of g)) g
items_say offer g h =
    subst (λ (m : Made). Says m g) (sym (items_made offer g h))
    (record { sound = h.sound; start = refl; classes = refl; words = refl; operators = refl; initials = refl; names = refl; forms = refl })
