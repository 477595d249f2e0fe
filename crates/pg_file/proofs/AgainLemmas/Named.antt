-- The names in a grammar whose parts a file may have stand for what they are printed for.
use Rattle.std.proofs.Common.{ℕ, List, [], ◌∷◌, ◌++◌, map, Option, Some, None, subst}
use Rattle.std.specs.List.{AllByRecursion}
use Rattle.pg_pred.specs.Offer.{Offer}
use Rattle.pg_grammar_form.specs.Names as names
use Rattle.pg_grammar_form.specs.Preorder.{SpellForms}
use Rattle.pg_grammar_form.specs.Forms.{part_count}
use Rattle.pg_grammar_value.specs.Grammar.{Grammar, IsGrammar, forms_of}
use Rattle.pg_grammar_form.specs.declared.class_item.ClassItem.{ClassItem}
use Rattle.pg_grammar_form.specs.declared.operators_item.OperatorsItem.{OperatorsItem}
use Rattle.pg_grammar_form.specs.declared.word_item.WordItem.{WordItem}
use Rattle.pg_file_print.specs.Canonical.{class_names}
use Rattle.pg_file.proofs.AgainLemmas.PrintedNames.{AreNamedClasses, AreNamedWords, AreNamedOperators, IsNamedGrammar}
use Rattle.pg_file_print.proofs.PrinterLemmas.Grammars.{grammar_bodies}
use Rattle.pg_file.proofs.AgainLemmas.WritableClasses.{class_is_named}
use Rattle.pg_file.proofs.AgainLemmas.WritableBodies.{forms_named}
use Rattle.pg_file.proofs.AgainLemmas.WritableItems.{AreWritableClassItems, IsWritableWordItem, AreWritableOperators, IsWritableGrammar}

classes_named : (offer : Offer) (all above : List names.Name) (items : List ClassItem) → AreWritableClassItems offer all above items → AreNamedClasses offer all above items
classes_named offer all above [] h = tt
classes_named offer all above (item ∷ items) h = (class_is_named offer all above item.class h.0.expression, classes_named offer all (above ++ item.name ∷ []) items h.1)

words_named : (offer : Offer) (all : List names.Name) (items : List WordItem) → AllByRecursion (IsWritableWordItem offer all) items → AreNamedWords offer all items
words_named offer all [] h = tt
words_named offer all (item ∷ items) h = ((class_is_named offer all all item.head h.0.first, class_is_named offer all all item.rest h.0.after), words_named offer all items h.1)

operators_named : (offer : Offer) (all : List names.Name) (operators : Option OperatorsItem) → AreWritableOperators offer all operators → AreNamedOperators offer all operators
operators_named offer all None h = tt
operators_named offer all (Some item) h = (class_is_named offer all all item.class h.symbols, class_is_named offer all all item.gap h.blanks, h.most)

pub grammar_named : (offer : Offer) (g : Grammar) → IsGrammar g → IsWritableGrammar offer g → IsNamedGrammar offer g
grammar_named offer g sound h =
    let all = class_names g in
    let has = grammar_bodies g sound in
    record {
      sound = sound;
      classes = classes_named offer all [] g.classes h.class_items;
      words = words_named offer all g.words h.word_items;
      operators = operators_named offer all g.operators h.operators_item;
      forms = record {
        whole = subst (λ (n : ℕ). SpellForms n (map part_count (forms_of g))) has.count has.bodies.whole;
        alternatives = has.bodies.alternatives;
        named = forms_named offer all (forms_of g) h.bodies;
      };
    }
