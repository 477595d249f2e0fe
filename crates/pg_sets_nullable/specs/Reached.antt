-- Which parts of a node are reached: everything before them is nullable.
use Rattle.std.specs.Prelude.{◌≡◌, ◌<◌, ◌↔◌, ℕ, true, length, List, ◌∷◌, [], Some, slice_get}
use Rattle.pg_grammar_value.specs.Grammar.{Grammar}
use Rattle.pg_grammar_form.specs.Forms.{Node}
use Rattle.pg_grammar_form.specs.declared.form.Form.TheVariants as form
use Rattle.pg_grammar_form.specs.declared.form.Around.{Around}
use Rattle.pg_grammar_form.specs.declared.side.Side.{Side}
use Rattle.pg_grammar_value.specs.declared.grammar.Rule as declared
use Rattle.pg_grammar_form.specs.declared.used.ChainBuilder.{ChainBuilder}
use Rattle.pg_grammar_form.specs.declared.used.OperatorBuilders.{OperatorBuilders}
use Rattle.std.specs.List.Sorted.{IsStrictlyIncreasing}
use Rattle.pg_graph.specs.Graphs.{has, numbers_at}
use Rattle.pg_sets_nullable.specs.Nullable.{Nullable}

-- the node is one of these, read from the left up to and with the first that isn't nullable
pub data ReachedIn (g : Grammar) : List ℕ → ℕ → Type 0 where
  first : {part : ℕ} {parts : List ℕ} → ReachedIn g (part ∷ parts) part
  later : {part reached : ℕ} {parts : List ℕ} → Nullable g part → ReachedIn g parts reached → ReachedIn g (part ∷ parts) reached

-- the node is a part that this one reaches
pub data ReachedPart (g : Grammar) : Node → ℕ → Type 0 where
  -- the parts up to the first that isn't nullable
  seq : {parts : List ℕ} {part : ℕ} → ReachedIn g parts part → ReachedPart g (form.Seq parts) part
  -- every alternative
  choice : {parts : List ℕ} (k : ℕ) {part : ℕ} → slice_get parts k ≡ Some part → ReachedPart g (form.Choice parts) part
  -- operand, separator and operand, as in a sequence
  chain : {side : Side} {used : ChainBuilder} {operand separator part : ℕ} → ReachedIn g (operand ∷ separator ∷ operand ∷ []) part →
      ReachedPart g (form.Chain side used operand separator) part
  -- the one part
  many : {part : ℕ} → ReachedPart g (form.Many part) part
  expression : {builders : OperatorBuilders} {term : ℕ} → ReachedPart g (form.Expression builders term) term
  around : {around : Around} {part : ℕ} → ReachedPart g (form.Around around part) part

-- a use of the rule is reached in the node
pub data ReachesUse (g : Grammar) : ℕ → ℕ → Type 0 where
  here : {p r : ℕ} → slice_get g.nodes p ≡ Some (form.Rule r) → ReachesUse g p r
  through : {p part r : ℕ} {n : Node} → slice_get g.nodes p ≡ Some n → ReachedPart g n part → ReachesUse g part r → ReachesUse g p r

-- the rule a heads the rule b: a use of b is reached in the body of a
pub record Heads (g : Grammar) (a b : ℕ) : Type 0 where
  pub rule : declared.Rule
  pub is_rule : slice_get g.rules a ≡ Some rule
  pub reached : ReachesUse g rule.body b

-- for each rule its heads, from the lowest number up
pub record AreHeads (g : Grammar) (heads : List (List ℕ)) : Type 0 where
  pub long : length heads ≡ length g.rules
  pub members : (a b : ℕ) → (has (numbers_at heads a) b ≡ true) ↔ Heads g a b
  pub ascending : (a : ℕ) → IsStrictlyIncreasing (numbers_at heads a)
  pub rules : (a b : ℕ) → has (numbers_at heads a) b ≡ true → b < length g.rules
