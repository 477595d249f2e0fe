-- A grammar with a chain, and `rest` beside it, so that the law of chains speaks of something:
--
--     value = string("x"); plus = string("+");
--     rest = choice(seq(plus, value, rest), seq());
--     sum = chainl1(used, value, plus);
--     same = seq(value, rest);
use Rattle.std.proofs.Common.{◌≡◌, List, [], ◌∷◌, refl, None, Some, slice_get}
use Rattle.std.specs.Prelude.{codes}
use Rattle.pg_grammar_form.specs.Forms.{Node}
use Rattle.pg_grammar_value.specs.Grammar.{Grammar}
use Rattle.pg_grammar_form.specs.declared.form.Form.TheVariants as form
use Rattle.pg_grammar_form.specs.declared.form.Leaf.TheVariants as leaf
use Rattle.pg_grammar_value.specs.declared.grammar.Rule as declared
use Rattle.pg_grammar_form.specs.declared.side.Side.TheVariants.{Left}
use Rattle.pg_grammar_form.specs.declared.used.ChainBuilder.{ChainBuilder}
use Rattle.pg_derive.specs.Chains.{AreCopies, IsRest}

module _ (used : ChainBuilder) where
  abbrev nodes : List Node
  nodes =
      form.Leaf (leaf.String (codes "x")) ∷ form.Leaf (leaf.String (codes "+")) ∷
      form.Choice (3 ∷ 7 ∷ []) ∷ form.Seq (4 ∷ 5 ∷ 6 ∷ []) ∷ form.Rule 1 ∷ form.Rule 0 ∷ form.Rule 2 ∷ (form.Seq []) ∷
      form.Chain Left used 9 10 ∷ form.Rule 0 ∷ form.Rule 1 ∷
      form.Seq (12 ∷ 13 ∷ []) ∷ form.Rule 0 ∷ form.Rule 2 ∷ []

  abbrev rest : declared.Rule
  rest = record { name = codes "rest"; body = 2 }

  abbrev rules : List declared.Rule
  rules = record { name = codes "value"; body = 0 } ∷ record { name = codes "plus"; body = 1 } ∷ rest ∷ record { name = codes "sum"; body = 8 } ∷ record { name = codes "same"; body = 11 } ∷ []

  abbrev g : Grammar
  g = record { classes = []; words = []; operators = None; initials = []; nodes = nodes; rules = rules; start = 3 }

  sum : slice_get g.nodes 8 ≡ Some (form.Chain Left used 9 10)
  sum = refl

  same : slice_get g.nodes 11 ≡ Some (form.Seq (12 ∷ 13 ∷ []))
  same = refl

  copy : AreCopies g 12 9
  copy = refl

  is_rest : IsRest g 9 10 13
  is_rest = record {
    rule = 2;
    named = rest;
    is_use = refl;
    is_rule = refl;
    round = 3;
    nothing = 7;
    is_choice = refl;
    first = 4;
    second = 5;
    third = 6;
    is_round = refl;
    is_separator = refl;
    is_operand = refl;
    is_rest = refl;
    is_nothing = refl;
  }
