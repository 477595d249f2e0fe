-- The items that are printed of a grammar whose parts a file may have are proper, and so are their tokens.
use Rattle.std.proofs.Common.{◌≡◌, ◌<◌, ◌≤◌, ℕ, ◌-◌, true, false, Bool, nat_lt, List, [], ◌∷◌, ◌++◌, length, map, Option, Some, None, refl, sym, subst, arith}
use Rattle.pg_file_items.proofs.ItemLemmas.Whole.{all_append}
use Rattle.std.proofs.lemmas.Bool.Decides.{nat_tests}
use Rattle.std.proofs.lemmas.Fmt.{decimal_is_IsNumeral}
use Rattle.std.specs.List.{AllByRecursion}
use Rattle.std.specs.Char.{is_ascii_digit, digit_value}
use Rattle.std.specs.Str.Parse.{AllDigits}
use Rattle.std.specs.Fmt.{decimal}
use Rattle.pg_pred.specs.Offer.{Offer}
use Rattle.pg_grammar_form.specs.Names as names
use Rattle.pg_grammar_form.specs.Names.{name_at}
use Rattle.pg_grammar_form.specs.Operators.{Operator}
use Rattle.pg_grammar_value.specs.Grammar.{Grammar, rule_names, forms_of}
use Rattle.pg_grammar_form.specs.declared.class_item.ClassItem.{ClassItem}
use Rattle.pg_grammar_form.specs.declared.decl.Role.{Role}
use Rattle.pg_grammar_form.specs.declared.decl.Role.TheVariants as role
use Rattle.pg_grammar_form.specs.declared.operators_item.OperatorsItem.{OperatorsItem}
use Rattle.pg_grammar_form.specs.declared.word_item.WordItem.{WordItem}
use Rattle.pg_file_tokens.specs.declared.token.Mark.TheVariants.{Semicolon}
use Rattle.pg_file_tokens.specs.Tokens.{Token, name, mark}
use Rattle.pg_file_tokens.specs.Lexical.{passes, is_name, is_number}
use Rattle.pg_file_items.specs.Tree.{Value, Item, Start}
use Rattle.pg_file_items.specs.Syntax.{role_word, class_written, literals_written, reserved_written, most_written, item_written, file_written}
use Rattle.pg_file_items.specs.Proper.{IsFilled, is_decimal, IsNumber, IsProperItem}
use Rattle.pg_file_print.specs.Canonical.{class_names, class_from, values_of, class_item, word_item, operators_items, table_item, rule_items, items_of}
use Rattle.pg_file.proofs.AgainLemmas.Printable.{ArePrintable}
use Rattle.pg_file.proofs.AgainLemmas.WritableClasses.{printed_class_writable}
use Rattle.pg_file.proofs.AgainLemmas.WritableBodies.{IsWritableName}
use Rattle.pg_file.proofs.AgainLemmas.WritableValues.{IsWritableValue, printed_values_writable}
use Rattle.pg_file.proofs.AgainLemmas.WritableItems.{IsWritableText, AreWritableClassItems, IsWritableWordItem, AreWritableOperators, IsWritableOperator, IsWritableGrammar}

-- an item that a file may have
pub record IsWritableItem (item : Item) : Type 0 where
  pub proper : IsProperItem item
  pub printable : (rest : List Token) → ArePrintable rest → ArePrintable (item_written item rest)

-- ---- numbers

all_decimal : (ds : List ℕ) → AllDigits 10 ds → passes is_decimal ds ≡ true
all_decimal [] h = refl
all_decimal (c ∷ ds) h = let one : nat_lt (digit_value c) 10 ≡ true = grind (arith, nat_tests, h.0) in rw (one, all_decimal ds h.1) refl

ascii_digit : (c : ℕ) → digit_value c < 10 → is_ascii_digit c ≡ true
ascii_digit c h = go (nat_lt c 48) (nat_lt c 58) (nat_lt c 65) (nat_lt c 91) (nat_lt c 97) (nat_lt c 123) refl refl refl refl refl refl
  where
    too_large : (n : ℕ) → 10 ≤ n → digit_value c ≡ n → is_ascii_digit c ≡ true
    too_large n k is = absurd (omega (arith, h, k, is))

    go : (b1 b2 b3 b4 b5 b6 : Bool) → nat_lt c 48 ≡ b1 → nat_lt c 58 ≡ b2 → nat_lt c 65 ≡ b3 → nat_lt c 91 ≡ b4 → nat_lt c 97 ≡ b5 → nat_lt c 123 ≡ b6 → is_ascii_digit c ≡ true
    go true b2 b3 b4 b5 b6 e1 e2 e3 e4 e5 e6 = too_large 36 (omega arith) (rw e1 refl)
    go false true b3 b4 b5 b6 e1 e2 e3 e4 e5 e6 = grind (arith, nat_tests)
    go false false true b4 b5 b6 e1 e2 e3 e4 e5 e6 = too_large 36 (omega arith) (rw (e1, e2, e3) refl)
    go false false false true b5 b6 e1 e2 e3 e4 e5 e6 = too_large (c - 55) (grind (arith, nat_tests)) (rw (e1, e2, e3, e4) refl)
    go false false false false true b6 e1 e2 e3 e4 e5 e6 = too_large 36 (omega arith) (rw (e1, e2, e3, e4, e5) refl)
    go false false false false false true e1 e2 e3 e4 e5 e6 = too_large (c - 87) (grind (arith, nat_tests)) (rw (e1, e2, e3, e4, e5, e6) refl)
    go false false false false false false e1 e2 e3 e4 e5 e6 = too_large 36 (omega arith) (rw (e1, e2, e3, e4, e5, e6) refl)

all_ascii : (ds : List ℕ) → AllDigits 10 ds → passes is_ascii_digit ds ≡ true
all_ascii [] h = refl
all_ascii (c ∷ ds) h = rw (ascii_digit c h.0, all_ascii ds h.1) refl

digits_are_number : (ds : List ℕ) → 0 < length ds → AllDigits 10 ds → is_number ds ≡ true
digits_are_number [] h d = absurd (omega (arith, h))
digits_are_number (c ∷ ds) h d = rw (ascii_digit c d.0, all_ascii ds d.1) refl

-- a number below 2 ^ 64 is written as one
decimal_number : (n : ℕ) → n ≤ 64 → is_number (decimal n) ≡ true
decimal_number n h = let numeral = decimal_is_IsNumeral n (omega (arith, h)) in digits_are_number (decimal n) numeral.0.0 numeral.0.1

decimal_between : (low high n : ℕ) → low ≤ n → n ≤ high → n ≤ 64 → IsNumber low high (decimal n)
decimal_between low high n above below h =
    let numeral = decimal_is_IsNumeral n (omega (arith, h)) in
    record {
      all_digits = all_decimal (decimal n) numeral.0.1;
      above = subst (λ (k : ℕ). low ≤ k) (sym numeral.1) above;
      below = subst (λ (k : ℕ). k ≤ high) (sym numeral.1) below;
    }

-- ---- texts

texts_filled : (texts : List (List ℕ)) → AllByRecursion IsWritableText texts → AllByRecursion IsFilled texts
texts_filled [] h = tt
texts_filled (s ∷ texts) h = (h.0.0, texts_filled texts h.1)

literals_printable : (texts : List (List ℕ)) (rest : List Token) → AllByRecursion IsWritableText texts → ArePrintable rest → ArePrintable (literals_written texts rest)
literals_printable [] rest h p = p
literals_printable (s ∷ texts) rest h p = (h.0.1, literals_printable texts rest h.1 p)

reserved_printable : (texts : List (List ℕ)) (rest : List Token) → AllByRecursion IsWritableText texts → ArePrintable rest → ArePrintable (reserved_written texts rest)
reserved_printable [] rest h p = p
reserved_printable (s ∷ texts) rest h p = (refl, literals_printable (s ∷ texts) rest h p)

-- ---- each group

classes_writable : (offer : Offer) (all above : List names.Name) (items : List ClassItem) → AreWritableClassItems offer all above items → AllByRecursion IsWritableItem (map (class_item all) items)
classes_writable offer all above [] h = tt
classes_writable offer all above (item ∷ items) h =
    let c = printed_class_writable offer all above item.class h.0.expression.writable in (
      record { proper = (h.0.name.free, c.proper); printable = λ rest p. (refl, (h.0.name.name, (tt, c.printable (mark Semicolon ∷ rest) (tt, p)))) },
      classes_writable offer all (above ++ item.name ∷ []) items h.1,
    )

words_writable : (offer : Offer) (all : List names.Name) (items : List WordItem) → AllByRecursion (IsWritableWordItem offer all) items → AllByRecursion IsWritableItem (map (word_item all) items)
words_writable offer all [] h = tt
words_writable offer all (item ∷ items) h =
    let first = printed_class_writable offer all all item.head h.0.first.writable in
    let after = printed_class_writable offer all all item.rest h.0.after.writable in (
      record {
        proper = (h.0.name.free, first.proper, after.proper, texts_filled item.reserved h.0.texts);
        printable = λ rest p.
            let texts = reserved_printable item.reserved (mark Semicolon ∷ rest) h.0.texts (tt, p) in
            (refl, (h.0.name.name, (refl, first.printable (name _ ∷ class_written (class_from all item.rest) (reserved_written item.reserved (mark Semicolon ∷ rest))) (refl, after.printable _ texts))));
      },
      words_writable offer all items h.1,
    )

operators_writable : (offer : Offer) (all : List names.Name) (operators : Option OperatorsItem) → AreWritableOperators offer all operators → AllByRecursion IsWritableItem (operators_items all operators)
operators_writable offer all None h = tt
operators_writable offer all (Some item) h =
    let symbols = printed_class_writable offer all all item.class h.symbols.writable in
    let blanks = printed_class_writable offer all all item.gap h.blanks.writable in (
      record {
        proper = (symbols.proper, blanks.proper, texts_filled item.reserved h.texts, decimal_between 1 64 item.max h.least h.most h.most);
        printable = λ rest p.
            let most = most_written (Some (decimal item.max)) (mark Semicolon ∷ rest) in
            let texts = reserved_printable item.reserved most h.texts (refl, (decimal_number item.max h.most, (tt, p))) in
            (refl, symbols.printable (name _ ∷ class_written (class_from all item.gap) (reserved_written item.reserved most)) (refl, blanks.printable (reserved_written item.reserved most) texts));
      },
      tt,
    )

role_word_is_name : (r : Role) → is_name (role_word r) ≡ true
role_word_is_name role.InfixLeft = refl
role_word_is_name role.InfixRight = refl
role_word_is_name role.InfixNone = refl
role_word_is_name role.Prefix = refl
role_word_is_name role.Postfix = refl

table_writable : (table : List Operator) → AllByRecursion IsWritableOperator table → AllByRecursion IsWritableItem (map table_item table)
table_writable [] h = tt
table_writable (o ∷ table) h =
    let digit = h.0.digit in
    let small : o.precedence ≤ 64 = omega (arith, digit) in (
      record {
        proper = (decimal_between 0 9 o.precedence (omega arith) digit small, h.0.text.0);
        printable = λ rest p. (refl, (role_word_is_name o.role, (decimal_number o.precedence small, (h.0.text.1, (tt, p)))));
      },
      table_writable table h.1,
    )

start_writable : (s : names.Name) → IsWritableName s → IsWritableItem (Start s)
start_writable s h = record { proper = h.free; printable = λ rest p. (refl, (h.name, (tt, p))) }

rules_writable : (offer : Offer) (all rules : List names.Name) (values : List Value) → AllByRecursion IsWritableName rules → AllByRecursion (IsWritableValue offer all) values
    → AllByRecursion IsWritableItem (rule_items rules values)
rules_writable offer all [] values h e = tt
rules_writable offer all (s ∷ rules) [] h e = tt
rules_writable offer all (s ∷ rules) (v ∷ values) h e = (
  record { proper = (h.0.free, e.0.proper); printable = λ rest p. (h.0.name, (tt, e.0.printable (mark Semicolon ∷ rest) (tt, p))) },
  rules_writable offer all rules values h.1 e.1,
)

-- ---- all items

all_writable : (offer : Offer) (g : Grammar) → IsWritableGrammar offer g → AllByRecursion IsWritableItem (items_of g)
all_writable offer g h =
    let all = class_names g in
    let values = values_of all (forms_of g) in
    let classes = classes_writable offer all [] g.classes h.class_items in
    let words = words_writable offer all g.words h.word_items in
    let operators = operators_writable offer all g.operators h.operators_item in
    let table = table_writable g.initials h.table in
    let start = start_writable (name_at (rule_names g) g.start) h.first in
    let rules = rules_writable offer all (rule_names g) values h.names (printed_values_writable offer all (forms_of g) h.bodies) in
    all_append IsWritableItem (map (class_item all) g.classes) _ classes
    (all_append IsWritableItem (map (word_item all) g.words) _ words
    (all_append IsWritableItem (operators_items all g.operators) _ operators
    (all_append IsWritableItem (map table_item g.initials) _ table (start, rules))))

each_proper : (items : List Item) → AllByRecursion IsWritableItem items → AllByRecursion IsProperItem items
each_proper [] h = tt
each_proper (item ∷ items) h = (h.0.proper, each_proper items h.1)

each_printable : (items : List Item) → AllByRecursion IsWritableItem items → ArePrintable (file_written items)
each_printable [] h = tt
each_printable (item ∷ items) h = h.0.printable (file_written items) (each_printable items h.1)

pub grammar_proper : (offer : Offer) (g : Grammar) → IsWritableGrammar offer g → AllByRecursion IsProperItem (items_of g)
grammar_proper offer g h = each_proper (items_of g) (all_writable offer g h)

pub grammar_printable : (offer : Offer) (g : Grammar) → IsWritableGrammar offer g → ArePrintable (file_written (items_of g))
grammar_printable offer g h = each_printable (items_of g) (all_writable offer g h)
