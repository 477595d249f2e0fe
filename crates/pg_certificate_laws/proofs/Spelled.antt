-- The keys among a grammar's least starts are of characters, where its strings are.
use Rattle.std.proofs.Common.{◌≡◌, ℕ, true, List, Some, slice_get, refl}
use Rattle.std.specs.Str.{all_scalars}
use Rattle.std.proofs.lemmas.Bool.{not-false}
use Rattle.pg_grammar_form.proofs.Each.{none-get}
use Rattle.pg_grammar_form.specs.Forms.{Node, form_of}
use Rattle.pg_grammar_form.specs.declared.form.Form.TheVariants as form
use Rattle.pg_grammar_form.specs.declared.form.Leaf.TheVariants as leaf
use Rattle.pg_grammar_form.specs.declared.decl.Role.{Role}
use Rattle.pg_grammar_form.specs.declared.decl.Role.TheVariants.{InfixLeft, InfixRight, InfixNone, Prefix, Postfix}
use Rattle.pg_sets_own.specs.OperatorStarts.{IsGapStart}
use Rattle.pg_sets_own.specs.OperatorStarts as gaps
use Rattle.pg_sets_own.specs.OwnStarts.{OwnStart, IsOperatorStart, role_keyword}
use Rattle.pg_sets_own.specs.OwnStarts as own
use Rattle.pg_sets.specs.First.{IsFirst, IsFirstOf}
use Rattle.pg_sets.specs.First as first_by
use Rattle.pg_sets.specs.Follow.{IsFollow}
use Rattle.pg_sets.specs.Follow as follow_by
use Rattle.pg_start.specs.declared.kind.StartKind.{StartKind}
use Rattle.pg_start.specs.declared.kind.StartKind.TheVariants.{Key}
use Rattle.pg_grammar_value.specs.Grammar.{Grammar, IsGrammar, rule_names, word_names, is_misspelled}
use Rattle.pg_certificate_laws.proofs.Narrower.{IsSpelled}
use Rattle.pg_class.specs.Ranges.{Range}

-- the strings of the grammar are of characters
abbrev pub SpellsCharacters : Grammar → Type 0
SpellsCharacters g = (p : ℕ) (characters : List ℕ) → slice_get g.nodes p ≡ Some (form.Leaf (leaf.String characters)) → all_scalars characters ≡ true

pub strings_spelled : (g : Grammar) → IsGrammar g → SpellsCharacters g
strings_spelled g grammar p characters at =
    not-false (all_scalars characters) (none-get is_misspelled (form_of (rule_names g) (word_names g)) g.nodes p (form.Leaf (leaf.String characters)) grammar.spelled at)

keyword_spelled : (role : Role) (excluded : List Range) → IsSpelled (Key (role_keyword role) excluded)
keyword_spelled InfixLeft excluded = refl
keyword_spelled InfixRight excluded = refl
keyword_spelled InfixNone excluded = refl
keyword_spelled Prefix excluded = refl
keyword_spelled Postfix excluded = refl

pub operator_spelled : {g : Grammar} {start : StartKind} → IsOperatorStart g start → IsSpelled start
operator_spelled (own.operator at is reads) = tt

pub gap_spelled : {g : Grammar} {start : StartKind} → IsGapStart g start → IsSpelled start
gap_spelled (gaps.gap at is) = tt

module _ (g : Grammar) (spells : SpellsCharacters g) where
  own_spelled : {n : Node} {start : StartKind} → OwnStart g n start → IsSpelled start
  own_spelled (own.satisfy is) = tt
  own_spelled own.string = tt
  own_spelled (own.word at first other reads) = tt
  own_spelled (own.key {part} {characters} at) = spells part characters at
  own_spelled (own.key_that_ends {characters = characters} keyed is) = spells keyed.first characters keyed.string
  own_spelled (own.expression is) = operator_spelled is
  own_spelled (own.declare {class = class} role is) = keyword_spelled role class

  pub first_spelled : {start : StartKind} {p : ℕ} → IsFirst g start p → IsSpelled start
  first_spelled (first_by.own at owns) = own_spelled owns
  first_spelled (first_by.part at plain reached is) = first_spelled is
  first_spelled (first_by.rule at there is) = first_spelled is

  first_of_spelled : {start : StartKind} {parts : List ℕ} → IsFirstOf g start parts → IsSpelled start
  first_of_spelled (first_by.here is) = first_spelled is
  first_of_spelled (first_by.after null later) = first_of_spelled later

  pub follow_spelled : {start : StartKind} {p : ℕ} → IsFollow g start p → IsSpelled start
  follow_spelled (follow_by.at_end at) = tt
  follow_spelled (follow_by.used at there is) = follow_spelled is
  follow_spelled (follow_by.next p at stands is) = first_of_spelled is
  follow_spelled (follow_by.last at stands all is) = follow_spelled is
  follow_spelled (follow_by.alternative k at e is) = follow_spelled is
  follow_spelled (follow_by.next_round p at is) = first_spelled is
  follow_spelled (follow_by.last_round at is) = follow_spelled is
  follow_spelled (follow_by.next_link p at joins is) = first_of_spelled is
  follow_spelled (follow_by.last_link at joins is) = follow_spelled is
  follow_spelled (follow_by.operand p at joins is) = first_spelled is
  follow_spelled (follow_by.over_operand p at joins null is) = first_of_spelled is
  follow_spelled (follow_by.last_operand at joins null is) = follow_spelled is
  follow_spelled (follow_by.operator p at is) = operator_spelled is
  follow_spelled (follow_by.last_term at is) = follow_spelled is
  follow_spelled (follow_by.only at has_only is) = follow_spelled is
