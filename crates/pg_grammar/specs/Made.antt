-- What a maker has received, and the grammar that is made of it.
use Rattle.std.specs.Prelude.{◌≡◌, ◌<◌, ◌≤◌, ◌+◌, ℕ, ◌++◌, if◌then◌else◌, Bool, false, ◌||◌, nat_lt, nat_le, List, [], ◌∷◌, length, map, Option, Some, None}
use Rattle.std.specs.List.{list_any, AllByRecursion}
use Rattle.std.specs.Option.{is_some, option_map_or}
use Rattle.pg_grammar_form.specs.Preorder.{SpellForms, roots, parts_from}
use Rattle.pg_grammar_form.specs.Names.{Name, name_at, has_name, AreDistinct}
use Rattle.pg_grammar_form.specs.Forms.{BaseForm, part_count, lacks_alternative, has_bad_literal, has_long_text, has_unknown_name, has_unknown_class}
use Rattle.pg_grammar_form.specs.Classes.{lacks_item, descends, is_long}
use Rattle.pg_grammar_form.specs.ClassItems.{AreClasses, has_item}
use Rattle.pg_grammar_form.specs.WordItems.{word_name, has_word, word_lacks_item, word_has_bad_literal, word_has_long_text, AreWords}
use Rattle.pg_grammar_form.specs.Literals.{is_long_literal}
use Rattle.pg_grammar_form.specs.Operators.{Operator, IsOperator}
use Rattle.pg_grammar_form.specs.OperatorsItems.{operators_lack_item, operators_have_bad_literal, operators_pass_limit, lacks_operators, AreOperators}
use Rattle.pg_grammar_value.specs.Grammar.{Grammar, IsGrammar, rule_names, forms_of, is_misspelled}
use Rattle.pg_grammar_form.specs.declared.class.ClassPart.{ClassPart}
use Rattle.pg_grammar_form.specs.declared.class_item.ClassItem.{ClassItem}
use Rattle.pg_grammar_form.specs.declared.operators_item.OperatorsItem.{OperatorsItem}
use Rattle.pg_grammar_form.specs.declared.word_item.WordItem.{WordItem}
use Rattle.pg_grammar.specs.declared.maker_fault.MakerFault.{MakerFault}
use Rattle.pg_grammar.specs.declared.maker_fault.MakerFault.TheVariants.{UnknownName, NameTwice, NoStart, BadLiteral, LimitPassed}

-- the name of the start rule, the class items, the word items, the operators item, the initial declarations, the rules' names, and the base forms of
-- their bodies, one body after another
pub record Made : Type 0 where
  pub start : Option Name
  pub classes : List ClassItem
  pub words : List WordItem
  pub operators : Option OperatorsItem
  pub initials : List Operator
  pub names : List Name
  pub forms : List BaseForm

-- nothing yet
abbrev pub nothing_made : Made
nothing_made = record { start = None; classes = []; words = []; operators = None; initials = []; names = []; forms = [] }

-- with one rule more
abbrev pub with_rule : Made → Name → List BaseForm → Made
with_rule made name body = record made { names = made.names ++ name ∷ []; forms = made.forms ++ body }

-- with the start rule named
abbrev pub with_start : Made → Name → Made
with_start made name = record made { start = Some name }

-- with one class item more
abbrev pub with_class : Made → Name → List ClassPart → Made
with_class made name class = record made { classes = made.classes ++ record { name = name; class = class } ∷ [] }

-- with one word item more
abbrev pub with_word : Made → WordItem → Made
with_word made item = record made { words = made.words ++ item ∷ [] }

-- with the operators item
abbrev pub with_operators : Made → OperatorsItem → Made
with_operators made item = record made { operators = Some item }

-- with one initial declaration more
abbrev pub with_initial : Made → Operator → Made
with_initial made operator = record made { initials = made.initials ++ operator ∷ [] }

-- the names of the word items
abbrev pub made_words : Made → List Name
made_words made = map word_name made.words

-- whether a body names a rule or a word item that doesn't exist, or operators are used without an operators item
abbrev pub is_incomplete : Made → Bool
is_incomplete made =
    list_any (has_unknown_name made.names (made_words made)) made.forms || lacks_operators made.operators made.initials made.forms

-- whether the start names a rule
abbrev pub has_start : Made → Bool
has_start made = option_map_or (has_name made.names) made.start false

-- the grammar has the contents that were made, with a number for each name and each part; as it is a grammar, only one has them
pub record Says (made : Made) (g : Grammar) : Type 0 where
  pub sound : IsGrammar g
  pub start : made.start ≡ Some (name_at (rule_names g) g.start)
  pub classes : made.classes ≡ g.classes
  pub words : made.words ≡ g.words
  pub operators : made.operators ≡ g.operators
  pub initials : made.initials ≡ g.initials
  pub names : made.names ≡ rule_names g
  pub forms : made.forms ≡ forms_of g

-- the invariant of a maker
pub record IsMade (made : Made) : Type 0 where
  pub whole : SpellForms (length made.names) (map part_count made.forms)
  pub distinct : AreDistinct made.names
  pub literals : list_any has_bad_literal made.forms ≡ false
  pub alternatives : list_any lacks_alternative made.forms ≡ false
  pub spelled : list_any is_misspelled made.forms ≡ false
  pub classes : AreClasses made.classes
  pub words : AreWords (length made.classes) made.words
  pub operators : AreOperators (length made.classes) made.operators
  pub initials : AllByRecursion IsOperator made.initials
  pub classes_named : list_any (has_unknown_class (length made.classes)) made.forms ≡ false
  pub few_rules : length made.names ≤ 512
  pub few_nodes : length made.forms ≤ 8192

-- whether this rule would pass a limit: a name over 64 characters, a literal or symbol over 1,024, over 512 rules, over 8,192 nodes
abbrev pub passes_limit : Made → Name → List BaseForm → Bool
passes_limit made name body =
    (nat_lt 64 (length name) || list_any has_long_text body) || (nat_le 512 (length made.names) || nat_lt 8192 (length made.forms + length body))

-- why a rule is refused, if it is
abbrev pub rule_fault : Made → Name → List BaseForm → Option MakerFault
rule_fault made name body =
    if list_any (has_unknown_class (length made.classes)) body then Some UnknownName else
    if has_name made.names name then Some NameTwice else
    if list_any has_bad_literal body then Some BadLiteral else
    if passes_limit made name body then Some LimitPassed else None

-- whether this class item would pass a limit: a name over 64 characters, a literal over 1,024, over 256 items
abbrev pub class_passes_limit : Made → Name → List ClassPart → Bool
class_passes_limit made name class = (nat_lt 64 (length name) || list_any is_long class) || nat_le 256 (length made.classes)

-- why a class item is refused, if it is
abbrev pub class_fault : Made → Name → List ClassPart → Option MakerFault
class_fault made name class =
    if list_any (lacks_item (length made.classes)) class then Some UnknownName else
    if has_item made.classes name then Some NameTwice else
    if list_any descends class then Some BadLiteral else
    if class_passes_limit made name class then Some LimitPassed else None

-- whether this word item would pass a limit: a name over 64 characters, a literal over 1,024, over 64 items
abbrev pub word_passes_limit : Made → WordItem → Bool
word_passes_limit made item = (nat_lt 64 (length item.name) || word_has_long_text item) || nat_le 64 (length made.words)

-- why a word item is refused, if it is
abbrev pub word_fault : Made → WordItem → Option MakerFault
word_fault made item =
    if word_lacks_item (length made.classes) item then Some UnknownName else
    if has_word made.words item.name then Some NameTwice else
    if word_has_bad_literal item then Some BadLiteral else
    if word_passes_limit made item then Some LimitPassed else None

-- why an operators item is refused, if it is
abbrev pub operators_fault : Made → OperatorsItem → Option MakerFault
operators_fault made item =
    if operators_lack_item (length made.classes) item then Some UnknownName else
    if is_some made.operators then Some NameTwice else
    if operators_have_bad_literal item then Some BadLiteral else
    if operators_pass_limit item then Some LimitPassed else None

-- why an initial declaration is refused, if it is
abbrev pub initial_fault : Operator → Option MakerFault
initial_fault operator = if is_long_literal operator.symbol then Some LimitPassed else None

-- why no grammar can be made, if none can
abbrev pub finish_fault : Made → Option MakerFault
finish_fault made =
    if is_incomplete made then Some UnknownName else
    if has_start made then None else Some NoStart

-- nothing prevents a grammar with this start rule
pub record IsReady (made : Made) (start : ℕ) : Type 0 where
  pub known : is_incomplete made ≡ false
  pub below : start < length made.names
  pub named : made.start ≡ Some (name_at made.names start)

-- these are the numbers of each form's parts, of the rules' bodies, and of the start rule
pub record AreNumbers (made : Made) (parts : List (List ℕ)) (bodies : List ℕ) (start : ℕ) : Type 0 where
  pub ready : IsReady made start
  pub own : parts ≡ parts_from 0 (map part_count made.forms)
  pub roots : bodies ≡ roots 0 (map part_count made.forms)
