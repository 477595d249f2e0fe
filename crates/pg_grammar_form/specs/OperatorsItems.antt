-- The operators item: the characters of operators and of the gaps after them, and the symbols that are no operators.
use Rattle.std.specs.Prelude.{◌≡◌, ◌≤◌, ℕ, Bool, true, false, ◌||◌, ◌&&◌, nat_lt, List, [], ◌∷◌, Option, Some, None}
use Rattle.std.specs.List.{list_any}
use Rattle.std.specs.Option.{is_none}
use Rattle.pg_grammar_form.specs.Literals.{is_empty_literal, is_long_literal}
use Rattle.pg_grammar_form.specs.Classes.{descends, is_long, lacks_item}
use Rattle.pg_grammar_form.specs.Forms.{BaseForm, uses_operators}
use Rattle.pg_grammar_form.specs.Operators.{Operator}
use Rattle.pg_grammar_form.specs.declared.operators_item.OperatorsItem.{OperatorsItem}

-- whether it names a class item other than the first `count`
abbrev pub operators_lack_item : ℕ → OperatorsItem → Bool
operators_lack_item count item = list_any (lacks_item count) item.class || list_any (lacks_item count) item.gap

-- whether a range descends, or a reserved symbol is empty
abbrev pub operators_have_bad_literal : OperatorsItem → Bool
operators_have_bad_literal item = (list_any descends item.class || list_any descends item.gap) || list_any is_empty_literal item.reserved

-- whether a literal has more than 1,024 characters, or the name of a predicate has more than 64
abbrev pub operators_have_long_text : OperatorsItem → Bool
operators_have_long_text item = (list_any is_long item.class || list_any is_long item.gap) || list_any is_long_literal item.reserved

-- whether a literal has more than 1,024 characters, a name has more than 64, or `max` isn't from 1 to 64
abbrev pub operators_pass_limit : OperatorsItem → Bool
operators_pass_limit item = operators_have_long_text item || (nat_lt item.max 1 || nat_lt 64 item.max)

-- the operators item that a file with `count` class items may have
pub record IsOperatorsItem (count : ℕ) (item : OperatorsItem) : Type 0 where
  pub known : operators_lack_item count item ≡ false
  pub literals : operators_have_bad_literal item ≡ false
  pub least : 1 ≤ item.max
  pub most : item.max ≤ 64

-- the operators item, if there is one, is one that a file with `count` class items may have
abbrev pub AreOperators : ℕ → Option OperatorsItem → Type 0
AreOperators count None = Unit {0}
AreOperators count (Some item) = IsOperatorsItem count item

-- whether a grammar reads or declares operators
abbrev pub operators_are_used : List Operator → List BaseForm → Bool
operators_are_used [] forms = list_any uses_operators forms
operators_are_used (initial ∷ initials) forms = true

-- whether a grammar reads or declares operators without an operators item
abbrev pub lacks_operators : Option OperatorsItem → List Operator → List BaseForm → Bool
lacks_operators operators initials forms = is_none operators && operators_are_used initials forms
