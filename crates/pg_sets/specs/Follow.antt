-- The starts that can follow what a node reads: the least sets with these cases. Every rule's body counts, whether the
-- start rule leads to it or not.
use Rattle.std.specs.Prelude.{◌≡◌, ℕ, List, [], ◌∷◌, Some, slice_get}
use Rattle.pg_grammar_value.specs.Grammar.{Grammar}
use Rattle.pg_grammar_form.specs.Forms.{Node}
use Rattle.pg_grammar_form.specs.declared.form.Form.TheVariants as form
use Rattle.pg_grammar_form.specs.declared.form.Around.{Around}
use Rattle.pg_grammar_form.specs.declared.side.Side.{Side}
use Rattle.pg_grammar_value.specs.declared.grammar.Rule as declared
use Rattle.pg_grammar_form.specs.declared.used.ChainBuilder.{ChainBuilder}
use Rattle.pg_grammar_form.specs.declared.used.OperatorBuilders.{OperatorBuilders}
use Rattle.pg_start.specs.declared.kind.StartKind.{StartKind}
use Rattle.pg_start.specs.declared.kind.StartKind.TheVariants.{End}
use Rattle.pg_sets.specs.First.{IsFirst, IsFirstOf}
use Rattle.pg_sets_nullable.specs.Nullable.{Nullable, AllNullable}
use Rattle.pg_sets_own.specs.OwnStarts.{IsOperatorStart}

-- a part stands in a sequence, with the rest after it
pub data StandsBefore (part : ℕ) (rest : List ℕ) : List ℕ → Type 0 where
  here : StandsBefore part rest (part ∷ rest)
  further : {first : ℕ} {parts : List ℕ} → StandsBefore part rest parts → StandsBefore part rest (first ∷ parts)

-- what stands at a node is a chain of this operand and this separator
pub data IsChain (operand separator : ℕ) : Node → Type 0 where
  chain : {side : Side} {used : ChainBuilder} → IsChain operand separator (form.Chain side used operand separator)

-- what stands at a node reads what its one part reads
pub data HasOnly (part : ℕ) : Node → Type 0 where
  around : {around : Around} → HasOnly part (form.Around around part)

-- the start is among those that follow the node
pub data IsFollow (g : Grammar) : StartKind → ℕ → Type 0 where
  -- the end follows the start rule
  at_end : {named : declared.Rule} → slice_get g.rules g.start ≡ Some named → IsFollow g End named.body
  -- a rule's body is followed by what follows the rule's uses
  used : {start : StartKind} {p r : ℕ} {named : declared.Rule} → slice_get g.nodes p ≡ Some (form.Rule r) → slice_get g.rules r ≡ Some named
      → IsFollow g start p → IsFollow g start named.body
  -- a part of a sequence is followed by the first of the nodes after it, and by what follows the sequence if they are all nullable
  next : {start : StartKind} (p : ℕ) {q : ℕ} {parts rest : List ℕ} → slice_get g.nodes p ≡ Some (form.Seq parts) → StandsBefore q rest parts
      → IsFirstOf g start rest → IsFollow g start q
  last : {start : StartKind} {p q : ℕ} {parts rest : List ℕ} → slice_get g.nodes p ≡ Some (form.Seq parts) → StandsBefore q rest parts
      → AllNullable g rest → IsFollow g start p → IsFollow g start q
  -- an alternative is followed by what follows its choice
  alternative : {start : StartKind} {p q : ℕ} {parts : List ℕ} (k : ℕ) → slice_get g.nodes p ≡ Some (form.Choice parts) → slice_get parts k ≡ Some q
      → IsFollow g start p → IsFollow g start q
  -- the body of a many is followed by its own first, and by what follows the many
  next_round : {start : StartKind} (p : ℕ) {q : ℕ} → slice_get g.nodes p ≡ Some (form.Many q) → IsFirst g start q → IsFollow g start q
  last_round : {start : StartKind} {p q : ℕ} → slice_get g.nodes p ≡ Some (form.Many q) → IsFollow g start p → IsFollow g start q
  -- the operand of a chain is followed by the first of separator and operand, and by what follows the chain
  next_link : {start : StartKind} (p : ℕ) {o s : ℕ} {n : Node} → slice_get g.nodes p ≡ Some n → IsChain o s n
      → IsFirstOf g start (s ∷ o ∷ []) → IsFollow g start o
  last_link : {start : StartKind} {p o s : ℕ} {n : Node} → slice_get g.nodes p ≡ Some n → IsChain o s n → IsFollow g start p → IsFollow g start o
  -- the separator is followed by the first of the operand, and by what follows the operand if that is nullable
  operand : {start : StartKind} (p : ℕ) {o s : ℕ} {n : Node} → slice_get g.nodes p ≡ Some n → IsChain o s n → IsFirst g start o → IsFollow g start s
  over_operand : {start : StartKind} (p : ℕ) {o s : ℕ} {n : Node} → slice_get g.nodes p ≡ Some n → IsChain o s n → Nullable g o
      → IsFirstOf g start (s ∷ o ∷ []) → IsFollow g start s
  last_operand : {start : StartKind} {p o s : ℕ} {n : Node} → slice_get g.nodes p ≡ Some n → IsChain o s n → Nullable g o
      → IsFollow g start p → IsFollow g start s
  -- the term of an expression is followed by the operators, and by what follows the expression
  operator : {start : StartKind} (p : ℕ) {term : ℕ} {builders : OperatorBuilders} → slice_get g.nodes p ≡ Some (form.Expression builders term)
      → IsOperatorStart g start → IsFollow g start term
  last_term : {start : StartKind} {p term : ℕ} {builders : OperatorBuilders} → slice_get g.nodes p ≡ Some (form.Expression builders term)
      → IsFollow g start p → IsFollow g start term
  -- the only part of any other form is followed by what follows the form
  only : {start : StartKind} {p q : ℕ} {n : Node} → slice_get g.nodes p ≡ Some n → HasOnly q n → IsFollow g start p → IsFollow g start q
