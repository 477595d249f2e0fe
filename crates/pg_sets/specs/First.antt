-- The starts that can begin what a node reads: the least sets with these cases.
use Rattle.std.specs.Prelude.{◌≡◌, ℕ, List, ◌∷◌, Some, slice_get}
use Rattle.pg_grammar_value.specs.Grammar.{Grammar}
use Rattle.pg_grammar_form.specs.Forms.{Node}
use Rattle.pg_grammar_form.specs.declared.form.Form.TheVariants as form
use Rattle.pg_grammar_value.specs.declared.grammar.Rule as declared
use Rattle.pg_start.specs.declared.kind.StartKind.{StartKind}
use Rattle.pg_sets_nullable.specs.Nullable.{Nullable}
use Rattle.pg_sets_own.specs.OwnStarts.{OwnStart, IsKeyTry}
use Rattle.pg_sets_nullable.specs.Reached.{ReachedPart}

-- the start is among the first of the node
pub data IsFirst (g : Grammar) (start : StartKind) : ℕ → Type 0 where
  -- what stands there gives the start by itself
  own : {p : ℕ} {n : Node} → slice_get g.nodes p ≡ Some n → OwnStart g n start → IsFirst g start p
  -- the start is among the first of a part that is reached, unless a try that gives a key stands there
  part : {p q : ℕ} {n : Node} → slice_get g.nodes p ≡ Some n → (IsKeyTry g n → ⊥) → ReachedPart g n q → IsFirst g start q → IsFirst g start p
  -- the start is among the first of the rule's body
  rule : {p r : ℕ} {named : declared.Rule} → slice_get g.nodes p ≡ Some (form.Rule r) → slice_get g.rules r ≡ Some named → IsFirst g start named.body → IsFirst g start p

-- the start is among the first of these nodes in sequence
pub data IsFirstOf (g : Grammar) (start : StartKind) : List ℕ → Type 0 where
  here : {part : ℕ} {parts : List ℕ} → IsFirst g start part → IsFirstOf g start (part ∷ parts)
  after : {part : ℕ} {parts : List ℕ} → Nullable g part → IsFirstOf g start parts → IsFirstOf g start (part ∷ parts)
