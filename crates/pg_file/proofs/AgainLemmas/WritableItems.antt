-- Grammars whose parts a file may have, as are those that a file spells.
use Rattle.std.proofs.Common.{◌≡◌, ◌≤◌, ℕ, true, false, List, [], ◌∷◌, ◌++◌, map, Option, Some, None, sym, ap, subst, ◌∙◌, append_assoc, arith}
use Rattle.pg_file_items.proofs.ItemLemmas.Whole.{all_append}
use Rattle.std.proofs.lemmas.List.{append-nil, map-append}
use Rattle.std.specs.List.{AllByRecursion}
use Rattle.std.specs.Str.{chars}
use Rattle.pg_pred.specs.Offer.{Offer}
use Rattle.pg_grammar_form.specs.Names as names
use Rattle.pg_grammar_form.specs.Names.{name_at, has_name}
use Rattle.pg_grammar_form.specs.ClassItems.{item_name}
use Rattle.pg_grammar_form.specs.Operators.{Operator}
use Rattle.pg_grammar.specs.Made.{Made, nothing_made}
use Rattle.pg_grammar_value.specs.Grammar.{Grammar, rule_names, forms_of}
use Rattle.pg_grammar_form.specs.declared.class_item.ClassItem.{ClassItem}
use Rattle.pg_grammar_form.specs.declared.operators_item.OperatorsItem.{OperatorsItem}
use Rattle.pg_grammar_form.specs.declared.word_item.WordItem.{WordItem}
use Rattle.pg_file_tokens.specs.declared.token.Mark.TheVariants.{Semicolon}
use Rattle.pg_file_tokens.specs.Tokens.{Token, name, mark}
use Rattle.pg_file_tokens.specs.Lexical.{passes, is_scalar}
use Rattle.pg_file_items.specs.Tree.{Item, Class_item, Word_item, Operators, Table, Start, Rule_item}
use Rattle.pg_file_items.specs.Syntax.{class_written, literals_written, reserved_written, most_written, item_written, file_written}
use Rattle.pg_file_items.specs.Proper.{IsFilled, IsMost, IsProperItem}
use Rattle.pg_file_items.specs.Heads.{most_of}
use Rattle.pg_file_meaning.specs.Names.{is_predicate_name}
use Rattle.pg_file_meaning.specs.Meaning.{meant}
use Rattle.pg_file_making.specs.Spells.{made_classes, max_meant, with_item, with_items, IsKnown, IsNew, AreInOrder, Spells}
use Rattle.pg_file_print.specs.Canonical.{class_names}
use Rattle.pg_file.proofs.AgainLemmas.Printable.{ArePrintable}
use Rattle.pg_file.proofs.AgainLemmas.Found.{AreNoPredicates, AreFoundAgain, found_here, found_among_more}
use Rattle.pg_file.proofs.AgainLemmas.Scalars.{spelled_printable, utf8_scalars}
use Rattle.pg_file.proofs.AgainLemmas.WritableClasses.{each_second, IsWritableExpression, class_writable}
use Rattle.pg_file.proofs.AgainLemmas.WritableBodies.{IsWritableName, IsWritableBody, IsWritableForm, value_writable}

-- ---- what a file may have

-- a text that isn't empty
abbrev pub IsWritableText : List ℕ → Type 0
IsWritableText s = IsFilled s × (passes is_scalar s ≡ true)

-- a class item after those of these names
pub record IsWritableClassItem (offer : Offer) (items above : List names.Name) (item : ClassItem) : Type 0 where
  pub name : IsWritableName item.name
  pub new : has_name above item.name ≡ false
  pub no_predicate : is_predicate_name offer item.name ≡ false
  pub expression : IsWritableExpression offer items above item.class

abbrev pub AreWritableClassItems : Offer → (items above : List names.Name) → List ClassItem → Type 0
AreWritableClassItems offer items above [] = Unit {0}
AreWritableClassItems offer items above (item ∷ others) = IsWritableClassItem offer items above item × AreWritableClassItems offer items (above ++ item.name ∷ []) others

pub record IsWritableWordItem (offer : Offer) (items : List names.Name) (item : WordItem) : Type 0 where
  pub name : IsWritableName item.name
  pub first : IsWritableExpression offer items items item.head
  pub after : IsWritableExpression offer items items item.rest
  pub texts : AllByRecursion IsWritableText item.reserved

pub record IsWritableOperatorsItem (offer : Offer) (items : List names.Name) (item : OperatorsItem) : Type 0 where
  pub symbols : IsWritableExpression offer items items item.class
  pub blanks : IsWritableExpression offer items items item.gap
  pub texts : AllByRecursion IsWritableText item.reserved
  pub least : 1 ≤ item.max
  pub most : item.max ≤ 64

abbrev pub AreWritableOperators : Offer → (items : List names.Name) → Option OperatorsItem → Type 0
AreWritableOperators offer items None = Unit {0}
AreWritableOperators offer items (Some item) = IsWritableOperatorsItem offer items item

pub record IsWritableOperator (operator : Operator) : Type 0 where
  pub digit : operator.precedence ≤ 9
  pub text : IsWritableText operator.symbol

abbrev IsWritableStart : Option names.Name → Type 0
IsWritableStart None = Unit {0}
IsWritableStart (Some s) = IsWritableName s

-- what was handed in, where all class items have these names
record IsWritableMade (offer : Offer) (items : List names.Name) (made : Made) : Type 0 where
  classes : AreWritableClassItems offer items [] made.classes
  words : AllByRecursion (IsWritableWordItem offer items) made.words
  operators : AreWritableOperators offer items made.operators
  initials : AllByRecursion IsWritableOperator made.initials
  start : IsWritableStart made.start
  rules : AllByRecursion IsWritableName made.names
  bodies : IsWritableBody offer items made.forms

-- a grammar
pub record IsWritableGrammar (offer : Offer) (g : Grammar) : Type 0 where
  pub class_items : AreWritableClassItems offer (class_names g) [] g.classes
  pub word_items : AllByRecursion (IsWritableWordItem offer (class_names g)) g.words
  pub operators_item : AreWritableOperators offer (class_names g) g.operators
  pub table : AllByRecursion IsWritableOperator g.initials
  pub first : IsWritableName (name_at (rule_names g) g.start)
  pub names : AllByRecursion IsWritableName (rule_names g)
  pub bodies : IsWritableBody offer (class_names g) (forms_of g)

-- ---- an item more

class_item_after : (offer : Offer) (items above : List names.Name) (xs : List ClassItem) (item : ClassItem) → AreWritableClassItems offer items above xs
    → IsWritableClassItem offer items (above ++ map item_name xs) item → AreWritableClassItems offer items above (xs ++ item ∷ [])
class_item_after offer items above [] item h k = (subst (λ (ns : List names.Name). IsWritableClassItem offer items ns item) (append-nil above) k, tt)
class_item_after offer items above (x ∷ xs) item h k =
    let moved = subst (λ (ns : List names.Name). IsWritableClassItem offer items ns item) (sym (append_assoc above (x.name ∷ []) (map item_name xs))) k in
    (h.0, class_item_after offer items (above ++ x.name ∷ []) xs item h.1 moved)

literals_writable : (texts : List (List ℕ)) (rest : List Token) → AllByRecursion IsFilled texts → ArePrintable (literals_written texts rest) → AllByRecursion IsWritableText texts × ArePrintable rest
literals_writable [] rest h p = (tt, p)
literals_writable (s ∷ texts) rest h p = let q = literals_writable texts rest h.1 p.1 in (((h.0, p.0), q.0), q.1)

reserved_writable : (texts : List (List ℕ)) (rest : List Token) → AllByRecursion IsFilled texts → ArePrintable (reserved_written texts rest) → AllByRecursion IsWritableText texts × ArePrintable rest
reserved_writable [] rest h p = (tt, p)
reserved_writable (s ∷ texts) rest h p = literals_writable (s ∷ texts) rest h p.1

record IsInRange (n : ℕ) : Type 0 where
  least : 1 ≤ n
  most : n ≤ 64

most_in_range : (most : Option (List ℕ)) → IsMost most → IsInRange (max_meant (most_of most))
most_in_range None h = record { least = omega arith; most = omega arith }
most_in_range (Some digits) h = record { least = h.above; most = h.below }

most_printable : (most : Option (List ℕ)) (rest : List Token) → ArePrintable (most_written most rest) → ArePrintable rest
most_printable None rest p = p
most_printable (Some digits) rest p = p.1.1

-- names that are known so far, among those above and among all
record AreFound (offer : Offer) (items : List names.Name) (made : Made) : Type 0 where
  above : AreFoundAgain offer (made_classes made) (made_classes made) items
  all : AreFoundAgain offer (made_classes made) items items

item_writable : (offer : Offer) (items : List names.Name) (made : Made) → AreFound offer items made → (item : Item) (rest : List Token) → IsProperItem item → ArePrintable (item_written item rest)
    → IsKnown offer (made_classes made) item → IsNew offer made item → IsWritableMade offer items made → IsWritableMade offer items (with_item offer made item) × ArePrintable rest
item_writable offer items made found (Class_item s c) rest h p k n m =
    let q = class_writable offer (made_classes made) (made_classes made) items found.above c (mark Semicolon ∷ rest) h.1 p.1.1.1 k in (
      record {
        classes = class_item_after offer items [] made.classes _ m.classes (record { name = record { free = h.0; name = p.1.0 }; new = n.0; no_predicate = n.1; expression = q.0 });
        words = m.words;
        operators = m.operators;
        initials = m.initials;
        start = m.start;
        rules = m.rules;
        bodies = m.bodies;
      },
      q.1.1,
    )
item_writable offer items made found (Word_item s head after reserved) rest h p k n m =
    let first = class_writable offer (made_classes made) items items found.all head (name _ ∷ class_written after (reserved_written reserved (mark Semicolon ∷ rest))) h.1 p.1.1.1 k.0 in
    let second = class_writable offer (made_classes made) items items found.all after (reserved_written reserved (mark Semicolon ∷ rest)) h.2 first.1.1 k.1 in
    let texts = reserved_writable reserved (mark Semicolon ∷ rest) h.3 second.1 in (
      record {
        classes = m.classes;
        words = all_append (IsWritableWordItem offer items) made.words _ m.words (record { name = record { free = h.0; name = p.1.0 }; first = first.0; after = second.0; texts = texts.0 }, tt);
        operators = m.operators;
        initials = m.initials;
        start = m.start;
        rules = m.rules;
        bodies = m.bodies;
      },
      texts.1.1,
    )
item_writable offer items made found (Operators c gap reserved most) rest h p k n m =
    let first = class_writable offer (made_classes made) items items found.all c (name _ ∷ class_written gap (reserved_written reserved (most_written most (mark Semicolon ∷ rest)))) h.0 p.1 k.0 in
    let second = class_writable offer (made_classes made) items items found.all gap (reserved_written reserved (most_written most (mark Semicolon ∷ rest))) h.1 first.1.1 k.1 in
    let texts = reserved_writable reserved (most_written most (mark Semicolon ∷ rest)) h.2 second.1 in
    let range = most_in_range most h.3 in (
      record {
        classes = m.classes;
        words = m.words;
        operators = record { symbols = first.0; blanks = second.0; texts = texts.0; least = range.least; most = range.most };
        initials = m.initials;
        start = m.start;
        rules = m.rules;
        bodies = m.bodies;
      },
      (most_printable most (mark Semicolon ∷ rest) texts.1).1,
    )
item_writable offer items made found (Table role precedence symbol) rest h p k n m = (
  record {
    classes = m.classes;
    words = m.words;
    operators = m.operators;
    initials = all_append IsWritableOperator made.initials _ m.initials (record { digit = h.0.below; text = (h.1, p.1.1.1.0) }, tt);
    start = m.start;
    rules = m.rules;
    bodies = m.bodies;
  },
  p.1.1.1.1.1,
)
item_writable offer items made found (Start s) rest h p k n m = (
  record {
    classes = m.classes;
    words = m.words;
    operators = m.operators;
    initials = m.initials;
    start = record { free = h; name = p.1.0 };
    rules = m.rules;
    bodies = m.bodies;
  },
  p.1.1.1,
)
item_writable offer items made found (Rule_item s v) rest h p k n m =
    let q = value_writable offer (made_classes made) items found.all v (mark Semicolon ∷ rest) h.1 p.1.1 k in (
      record {
        classes = m.classes;
        words = m.words;
        operators = m.operators;
        initials = m.initials;
        start = m.start;
        rules = all_append IsWritableName made.names (s ∷ []) m.rules (record { free = h.0; name = p.0 }, tt);
        bodies = all_append (IsWritableForm offer items) made.forms (meant offer (made_classes made) v) m.bodies q.0;
      },
      q.1.1,
    )

-- ---- the class items above are the first of all

record IsLonger (few many : List names.Name) : Type 0 where
  more : List names.Name
  is : many ≡ few ++ more

longer_itself : (few : List names.Name) → IsLonger few few
longer_itself few = record { more = []; is = sym (append-nil few) }

longer_item : (offer : Offer) (made : Made) (item : Item) → IsLonger (made_classes made) (made_classes (with_item offer made item))
longer_item offer made (Class_item s c) = record { more = s ∷ []; is = map-append item_name made.classes _ }
longer_item offer made (Word_item s head after reserved) = longer_itself (made_classes made)
longer_item offer made (Operators c gap reserved most) = longer_itself (made_classes made)
longer_item offer made (Table role precedence symbol) = longer_itself (made_classes made)
longer_item offer made (Start s) = longer_itself (made_classes made)
longer_item offer made (Rule_item s v) = longer_itself (made_classes made)

longer_items : (offer : Offer) (made : Made) (items : List Item) → IsLonger (made_classes made) (made_classes (with_items offer made items))
longer_items offer made [] = longer_itself (made_classes made)
longer_items offer made (item ∷ items) =
    let one = longer_item offer made item in
    let others = longer_items offer (with_item offer made item) items in
    record { more = one.more ++ others.more; is = others.is ∙ ap (λ (ns : List names.Name). ns ++ others.more) one.is ∙ append_assoc (made_classes made) one.more others.more }

no_predicate : (offer : Offer) (made : Made) (item : Item) → IsNew offer made item → AreNoPredicates offer (made_classes made) → AreNoPredicates offer (made_classes (with_item offer made item))
no_predicate offer made (Class_item s c) n h =
    subst (λ (ns : List names.Name). AreNoPredicates offer ns) (sym (map-append item_name made.classes _)) (all_append (λ t. is_predicate_name offer t ≡ false) (made_classes made) (s ∷ []) h (n.1, tt))
no_predicate offer made (Word_item s head after reserved) n h = h
no_predicate offer made (Operators c gap reserved most) n h = h
no_predicate offer made (Table role precedence symbol) n h = h
no_predicate offer made (Start s) n h = h
no_predicate offer made (Rule_item s v) n h = h

no_predicates : (offer : Offer) (made : Made) (items : List Item) → AreInOrder offer made items → AreNoPredicates offer (made_classes made) → AreNoPredicates offer (made_classes (with_items offer made items))
no_predicates offer made [] o h = h
no_predicates offer made (item ∷ items) o h = no_predicates offer (with_item offer made item) items o.2 (no_predicate offer made item o.1 h)

all_found : (offer : Offer) (items : List names.Name) (made : Made) → AreNoPredicates offer items → IsLonger (made_classes made) items → AreFound offer items made
all_found offer items made none longer =
    let classes = made_classes made in
    let after = each_second (λ t. is_predicate_name offer t ≡ false) classes longer.more (subst (λ (ns : List names.Name). AreNoPredicates offer ns) longer.is none) in
    record {
      above = subst (λ (ns : List names.Name). AreFoundAgain offer classes classes ns) (sym longer.is) (found_here offer classes longer.more);
      all = subst (λ (ns : List names.Name). AreFoundAgain offer classes ns ns) (sym longer.is) (found_among_more offer classes longer.more after);
    }

-- ---- all items

items_writable : (offer : Offer) (all : List names.Name) (made : Made) (items : List Item) → AreNoPredicates offer all → all ≡ made_classes (with_items offer made items) → AllByRecursion IsProperItem items
    → ArePrintable (file_written items) → AreInOrder offer made items → IsWritableMade offer all made → IsWritableMade offer all (with_items offer made items)
items_writable offer all made [] none is h p o m = m
items_writable offer all made (item ∷ items) none is h p o m =
    let longer = subst (λ (ns : List names.Name). IsLonger (made_classes made) ns) (sym is) (longer_items offer made (item ∷ items)) in
    let one = item_writable offer all made (all_found offer all made none longer) item (file_written items) h.0 p o.0 o.1 m in
    items_writable offer all (with_item offer made item) items none is h.1 one.1 o.2 one.0

nothing_writable : (offer : Offer) (items : List names.Name) → IsWritableMade offer items nothing_made
nothing_writable offer items = record { classes = tt; words = tt; operators = tt; initials = tt; start = tt; rules = tt; bodies = tt }

-- a grammar that a file spells
pub grammar_writable : (offer : Offer) (bytes : List ℕ) (g : Grammar) → Spells offer bytes g → IsWritableGrammar offer g
grammar_writable offer bytes g h =
    let items = h.spelled.items in
    let made = with_items offer nothing_made items in
    let ordered = h.spelled.grammar.ordered in
    let says = h.spelled.grammar.says in
    let same : class_names g ≡ made_classes made = ap (map item_name) (sym says.classes) in
    let none = subst (λ (ns : List names.Name). AreNoPredicates offer ns) (sym same) (no_predicates offer nothing_made items ordered tt) in
    let printable = subst ArePrintable h.spelled.written (spelled_printable (chars bytes) h.spelled.tokens h.spelled.spelled (utf8_scalars bytes h.utf8)) in
    let all = items_writable offer (class_names g) nothing_made items none same h.spelled.proper printable ordered (nothing_writable offer (class_names g)) in
    record {
      class_items = subst (AreWritableClassItems offer (class_names g) []) says.classes all.classes;
      word_items = subst (AllByRecursion (IsWritableWordItem offer (class_names g))) says.words all.words;
      operators_item = subst (AreWritableOperators offer (class_names g)) says.operators all.operators;
      table = subst (AllByRecursion IsWritableOperator) says.initials all.initials;
      first = subst IsWritableStart says.start all.start;
      names = subst (AllByRecursion IsWritableName) says.names all.rules;
      bodies = subst (IsWritableBody offer (class_names g)) says.forms all.bodies;
    }
