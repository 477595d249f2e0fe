-- The own starts of a node, as sets list them.
use Rattle.std.specs.Prelude.{◌≡◌, ◌↔◌, ◌⊎◌, ℕ, List, [], ◌∷◌, Some, map, slice_get, length}
use Rattle.pg_grammar_value.specs.Grammar.{Grammar}
use Rattle.pg_grammar_form.specs.declared.class.ClassPart.{ClassPart}
use Rattle.pg_grammar_form.specs.Forms.{Node}
use Rattle.pg_grammar_form.specs.declared.form.Form.TheVariants as form
use Rattle.pg_grammar_form.specs.declared.form.Leaf.TheVariants as leaf
use Rattle.pg_grammar_form.specs.declared.operators_item.OperatorsItem.{OperatorsItem}
use Rattle.pg_grammar_form.specs.declared.used.OperatorBuilders.{OperatorBuilders}
use Rattle.pg_grammar_form.specs.declared.word_item.WordItem.{WordItem}
use Rattle.pg_class.specs.Ranges.{Range}
use Rattle.pg_grammar_form.specs.declared.decl.Role.{Role}
use Rattle.pg_grammar_form.specs.declared.decl.Role.TheVariants.{InfixLeft, InfixRight, InfixNone, Prefix, Postfix}
use Rattle.pg_start.specs.declared.kind.StartKind.{StartKind}
use Rattle.pg_start.specs.declared.kind.StartKind.TheVariants.{Key}
use Rattle.pg_sets_own.specs.Listed.{IsListed}
use Rattle.pg_sets_own.specs.OwnStarts.{OwnStart, IsKeyTry, role_keyword}
use Rattle.pg_sets_own.specs.declared.listed.ListedStart.{ListedStart}
use Rattle.pg_sets_own.specs.declared.word_starts.WordStarts.{WordStarts}

-- the node gives this start by itself, listed under its number
pub record OwnListed (g : Grammar) (n : Node) (listed : ListedStart) : Type 0 where
  pub own : OwnStart g n listed.start
  pub named : IsListed g listed

-- a node that has a start: a character of a class, a word of an item that exists, a try that gives a key, a declaration, or an
-- expression in a grammar with an operators item
pub data IsPlain (g : Grammar) : Node → Type 0 where
  satisfy : {class : List ClassPart} → IsPlain g (form.Leaf (leaf.Satisfy class))
  word : {w : ℕ} {item : WordItem} → slice_get g.words w ≡ Some item → IsPlain g (form.Leaf (leaf.Word w))
  key : {n : Node} → IsKeyTry g n → IsPlain g n
  declare : {class : List ClassPart} → IsPlain g (form.Leaf (leaf.Declare class))
  expression : {builders : OperatorBuilders} {term : ℕ} {item : OperatorsItem} → g.operators ≡ Some item → IsPlain g (form.Expression builders term)

-- the start is one of these
abbrev pub IsAmong : List ListedStart → ListedStart → Type 0
IsAmong [] listed = ⊥
IsAmong (one ∷ others) listed = (one ≡ listed) ⊎ IsAmong others listed

-- these are the own starts of the node; a plain node has one
pub record AreOwn (g : Grammar) (n : Node) (own : List ListedStart) : Type 0 where
  pub members : (listed : ListedStart) → IsAmong own listed ↔ OwnListed g n listed
  pub there : IsPlain g n → (start : StartKind) × OwnStart g n start

-- these are the starts of the word items: each is the only own start of a node that reads the item's words
pub record AreItemStarts (g : Grammar) (starts : List ListedStart) : Type 0 where
  pub long : length starts ≡ length g.words
  pub each : (w : ℕ) (listed : ListedStart) → slice_get starts w ≡ Some listed → AreOwn g (form.Leaf (leaf.Word w)) (listed ∷ [])

-- these are the starts of the word items and of the operators
pub record AreWordStarts (g : Grammar) (starts : WordStarts) : Type 0 where
  pub items : AreItemStarts g starts.items.items
  pub operators : (builders : OperatorBuilders) (term : ℕ) → AreOwn g (form.Expression builders term) starts.operators.items

-- the key of a declaration in a role, and in each role
abbrev pub keyword_key : List Range → Role → ListedStart
keyword_key excluded role = record { start = Key (role_keyword role) excluded; word = 0 }

abbrev pub keyword_keys : List Range → List ListedStart
keyword_keys excluded = map (keyword_key excluded) (InfixLeft ∷ InfixRight ∷ InfixNone ∷ Prefix ∷ Postfix ∷ [])
