-- The grammar of a file's bytes, given the offer of a registry: the bytes are the characters of tokens, the tokens are those of items, and the items
-- make the grammar.
use Rattle.std.specs.Prelude.{◌≡◌, ◌≤◌, ℕ, false, List, [], ◌∷◌, map, length, Option, None, unwrap_or}
use Rattle.std.specs.List.{AllByRecursion}
use Rattle.std.specs.Str.{chars, IsUtf8}
use Rattle.pg_pred.specs.Offer.{Offer}
use Rattle.pg_grammar_form.specs.Names.{Name, has_name}
use Rattle.pg_grammar_form.specs.ClassItems.{item_name}
use Rattle.pg_grammar_value.specs.Grammar.{Grammar}
use Rattle.pg_grammar.specs.Made.{Made, nothing_made, made_words, with_class, with_word, with_operators, with_initial, with_start, with_rule, Says}
use Rattle.pg_table.specs.Tables as tables
use Rattle.pg_table.specs.Tables.{whole, initial}
use Rattle.pg_file_tokens.specs.Tokens.{Token}
use Rattle.pg_file_tokens.specs.Lexical.{Spelled}
use Rattle.pg_file_items.specs.Tree.{Item, Class_item, Word_item, Operators, Table, Start, Rule_item}
use Rattle.pg_file_items.specs.Syntax.{file_written}
use Rattle.pg_file_items.specs.Proper.{value_of, IsProperItem}
use Rattle.pg_file_items.specs.Heads.{class_parts, heads, most_of}
use Rattle.pg_file_items.specs.Depth.{IsShallow}
use Rattle.pg_file_meaning.specs.Names.{is_predicate_name, ClassIsKnown, FormIsKnown}
use Rattle.pg_file_meaning.specs.Meaning.{class_meant, meant}

-- the names of the class items received
abbrev pub made_classes : Made → List Name
made_classes made = map item_name made.classes

-- the limit on operators, 64 if the file doesn't give one
abbrev pub max_meant : Option ℕ → ℕ
max_meant most = unwrap_or most 64

-- the parts received, and those of one more item; its names of classes are looked up among the class items above
abbrev pub with_item : Offer → Made → Item → Made
with_item offer made (Class_item s c) = with_class made s (class_meant offer (made_classes made) c)
with_item offer made (Word_item s head after reserved) =
    with_word made (record { name = s; head = class_meant offer (made_classes made) head; rest = class_meant offer (made_classes made) after; reserved = reserved })
with_item offer made (Operators c gap reserved most) =
    with_operators made (record { class = class_meant offer (made_classes made) c; gap = class_meant offer (made_classes made) gap; reserved = reserved; max = max_meant (most_of most) })
with_item offer made (Table role precedence symbol) =
    with_initial made (record { role = role; precedence = value_of precedence; symbol = symbol })
with_item offer made (Start s) = with_start made s
with_item offer made (Rule_item s v) = with_rule made s (meant offer (made_classes made) v)

-- the parts received, and those of these items, one after another
abbrev pub with_items : Offer → Made → List Item → Made
with_items offer made [] = made
with_items offer made (item ∷ items) = with_items offer (with_item offer made item) items

-- the names of classes and builders in an item are known
abbrev pub IsKnown : Offer → List Name → Item → Type 0
IsKnown offer classes (Class_item s c) = ClassIsKnown offer classes (class_parts c)
IsKnown offer classes (Word_item s head after reserved) = ClassIsKnown offer classes (class_parts head) × ClassIsKnown offer classes (class_parts after)
IsKnown offer classes (Operators c gap reserved most) = ClassIsKnown offer classes (class_parts c) × ClassIsKnown offer classes (class_parts gap)
IsKnown offer classes (Table role precedence symbol) = Unit {0}
IsKnown offer classes (Start s) = Unit {0}
IsKnown offer classes (Rule_item s v) = AllByRecursion (FormIsKnown offer classes) (heads v)

-- the item's definition is new: a class doesn't have the name of a predicate or of a class above, and a word, a rule, the operators and the start are
-- defined once
abbrev pub IsNew : Offer → Made → Item → Type 0
IsNew offer made (Class_item s c) = (has_name (made_classes made) s ≡ false) × (is_predicate_name offer s ≡ false)
IsNew offer made (Word_item s head after reserved) = has_name (made_words made) s ≡ false
IsNew offer made (Operators c gap reserved most) = made.operators ≡ None
IsNew offer made (Table role precedence symbol) = Unit {0}
IsNew offer made (Start s) = made.start ≡ None
IsNew offer made (Rule_item s v) = has_name made.names s ≡ false

-- each item's names are known and its definition is new, given the parts received before it
abbrev pub AreInOrder : Offer → Made → List Item → Type 0
AreInOrder offer made [] = Unit {0}
AreInOrder offer made (item ∷ items) = IsKnown offer (made_classes made) item × IsNew offer made item × AreInOrder offer (with_item offer made item) items

-- each initial operator is admitted by those before it
abbrev pub HasInitialTable : Grammar → Type 0
HasInitialTable g = (table : tables.Table) × (initial g ≡ whole table)

-- the items make this grammar, and its initial operators are admitted
pub record IsGrammarOf (offer : Offer) (items : List Item) (g : Grammar) : Type 0 where
  pub ordered : AreInOrder offer nothing_made items
  pub says : Says (with_items offer nothing_made items) g
  pub admitted : HasInitialTable g

-- the characters of a file spell the grammar
pub record SpelledIn (offer : Offer) (characters : List ℕ) (g : Grammar) : Type 0 where
  pub tokens : List Token
  pub spelled : Spelled characters tokens
  pub items : List Item
  pub written : tokens ≡ file_written items
  pub proper : AllByRecursion IsProperItem items
  pub grammar : IsGrammarOf offer items g

-- the characters spell the grammar, with parentheses nested at most 64 deep
pub record SpelledWithinDepth (offer : Offer) (characters : List ℕ) (g : Grammar) : Type 0 where
  pub spelled : SpelledIn offer characters g
  pub shallow : AllByRecursion IsShallow spelled.items

-- the bytes of a file spell the grammar
pub record Spells (offer : Offer) (bytes : List ℕ) (g : Grammar) : Type 0 where
  pub utf8 : IsUtf8 bytes
  pub spelled : SpelledIn offer (chars bytes) g

-- the bytes spell the grammar, and the file keeps the limits on its length, 262,144 bytes, and on nesting
pub record SpellsWithinLimits (offer : Offer) (bytes : List ℕ) (g : Grammar) : Type 0 where
  pub spells : Spells offer bytes g
  pub short : length bytes ≤ 262144
  pub shallow : AllByRecursion IsShallow spells.spelled.items
