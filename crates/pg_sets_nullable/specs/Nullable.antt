-- Which nodes can succeed without a character: the least set with these cases.
use Rattle.std.specs.Prelude.{◌≡◌, ℕ, List, [], ◌∷◌, Some, slice_get}
use Rattle.pg_grammar_value.specs.Grammar.{Grammar}
use Rattle.pg_grammar_form.specs.declared.class.ClassPart.{ClassPart}
use Rattle.pg_grammar_form.specs.Forms.{Node}
use Rattle.pg_grammar_form.specs.declared.form.Form.TheVariants as form
use Rattle.pg_grammar_form.specs.declared.form.Leaf.TheVariants as leaf
use Rattle.pg_grammar_form.specs.declared.form.Around.{Around}
use Rattle.pg_grammar_form.specs.declared.side.Side.{Side}
use Rattle.pg_grammar_value.specs.declared.grammar.Rule as declared
use Rattle.pg_grammar_form.specs.declared.used.ChainBuilder.{ChainBuilder}
use Rattle.pg_grammar_form.specs.declared.used.OperatorBuilders.{OperatorBuilders}

mutual
  -- the node can succeed on nothing
  pub data Nullable (g : Grammar) : ℕ → Type 0 where
    at_node : {p : ℕ} {n : Node} → slice_get g.nodes p ≡ Some n → NullableForm g n → Nullable g p

  -- what stands at a node can succeed on nothing
  pub data NullableForm (g : Grammar) : Node → Type 0 where
    many : {part : ℕ} → NullableForm g (form.Many part)
    not_followed_by : {class : List ClassPart} → NullableForm g (form.Leaf (leaf.NotFollowedBy class))
    end_of_text : NullableForm g (form.Leaf leaf.EndOfText)
    -- all parts are nullable; there may be none
    seq : {parts : List ℕ} → AllNullable g parts → NullableForm g (form.Seq parts)
    -- an alternative is nullable
    choice : {parts : List ℕ} (k : ℕ) {part : ℕ} → slice_get parts k ≡ Some part → Nullable g part → NullableForm g (form.Choice parts)
    -- the operand is nullable
    chain : {side : Side} {used : ChainBuilder} {operand separator : ℕ} → Nullable g operand → NullableForm g (form.Chain side used operand separator)
    -- the part is nullable
    around : {around : Around} {part : ℕ} → Nullable g part → NullableForm g (form.Around around part)
    expression : {builders : OperatorBuilders} {term : ℕ} → Nullable g term → NullableForm g (form.Expression builders term)
    -- the rule's body is nullable
    rule : {r : ℕ} {named : declared.Rule} → slice_get g.rules r ≡ Some named → Nullable g named.body → NullableForm g (form.Rule r)

  -- each of these nodes is nullable
  pub data AllNullable (g : Grammar) : List ℕ → Type 0 where
    none : AllNullable g []
    first : {part : ℕ} {parts : List ℕ} → Nullable g part → AllNullable g parts → AllNullable g (part ∷ parts)
